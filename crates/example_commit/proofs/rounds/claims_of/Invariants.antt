use Rattle.std.proofs.Common.{◌≡◌, map, take}
use Rattle.std.specs.Prelude.{zip}
use Rattle.commit_core.specs.Laws.OneItem.{round_in}
use Rattle.example_commit.specs.Rounds.{round_claim}
use Rattle.example_commit.proofs.rounds.claims_of.Given as goal

abbrev pub invariant-loop-index : goal.invariant-loop-index
invariant-loop-index g l = l.claims.items ≡ map round_claim (take l.index (zip l.prover_rounds (map round_in l.values)))
