use Rattle.std.proofs.Common.{List, [], ◌∷◌, ◌++◌}
use Rattle.example_commit.specs.Rounds.{requests_of}
use Rattle.example_commit.proofs.Refusals.{refused_in_turn, leads_to}
use Rattle.example_commit.proofs.preprocessed.preprocessed_verified.Goals as goal

pub committed_verified-requires-clause-prover_rounds : goal.committed_verified-requires-clause-prover_rounds
committed_verified-requires-clause-prover_rounds g c = (c.args.rounds.items ++ c.args.preprocessed ∷ [], c.in_ok-prover_rounds.ensures.prover_rounds)

pub returns-clause-refused : goal.returns-clause-refused
returns-clause-refused g c = refused_in_turn _ _ (λ ks. g.P.Pcs.open_fault c.args.pcs.now (requests_of ks)) c.in_ok-prover_rounds.prover_rounds.items c.in_ok-prover_rounds.ensures.refusal c.in_ok-prover_rounds.ensures.prover_rounds c.committed_verified.result c.committed_verified.ensures.refused

pub returns-clause-granted : goal.returns-clause-granted
returns-clause-granted g c = leads_to _ _ (λ o none. (c.in_ok-prover_rounds.ensures.refusal, (c.in_ok-prover_rounds.prover_rounds.items, c.in_ok-prover_rounds.ensures.prover_rounds, none))) c.committed_verified.result c.committed_verified.ensures.granted

pub returns-clause-accepted : goal.returns-clause-accepted
returns-clause-accepted g c free = leads_to _ _ (λ o h. h (c.args.rounds.items ++ c.args.preprocessed ∷ []) c.in_ok-prover_rounds.ensures.prover_rounds free) c.committed_verified.result c.committed_verified.ensures.accepted

pub returns-clause-claimed : goal.returns-clause-claimed
returns-clause-claimed g c = leads_to _ _ (λ o h. h (c.args.rounds.items ++ c.args.preprocessed ∷ []) c.in_ok-prover_rounds.ensures.prover_rounds) c.committed_verified.result c.committed_verified.ensures.claimed
