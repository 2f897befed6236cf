use Rattle.std.proofs.Common.{map}
use Rattle.p3_field.specs.Checks.{NoneFails, in_turn}
use Rattle.verifier_claims.specs.ClaimChecks.{next_opened_check}
use Rattle.verifier_claims.proofs.claim_checks.all_next.Given as goal

abbrev pub invariant-loop-index : goal.invariant-loop-index
invariant-loop-index g l = NoneFails (in_turn l.index (next_opened_check {R = g.row.R.Denot} (map g.A.BaseAir.declaration l.airs) l.instances))
