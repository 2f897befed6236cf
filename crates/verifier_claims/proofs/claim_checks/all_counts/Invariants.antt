use Rattle.p3_field.specs.Checks.{NoneFails, in_turn}
use Rattle.verifier_claims.specs.ClaimChecks.{chunks_counted}
use Rattle.verifier_claims.proofs.claim_checks.all_counts.Given as goal

abbrev pub invariant-loop-index : goal.invariant-loop-index
invariant-loop-index g l = NoneFails (in_turn l.index (chunks_counted {R = g.row.R.Denot} l.masks l.log_chunks l.instances))
