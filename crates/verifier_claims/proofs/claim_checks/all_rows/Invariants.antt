use Rattle.p3_field.specs.Checks.{NoneFails, in_turn}
use Rattle.verifier_claims.specs.ClaimChecks.{rows_paired}
use Rattle.verifier_claims.proofs.claim_checks.all_rows.Given as goal

abbrev pub invariant-loop-index : goal.invariant-loop-index
invariant-loop-index g l = NoneFails (in_turn l.index (rows_paired {R = g.row.R.Denot} l.committed l.instances))
