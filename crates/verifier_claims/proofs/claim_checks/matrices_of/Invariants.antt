use Rattle.std.proofs.Common.{map}
use Rattle.p3_field.specs.Checks.{NoneFails, in_turn}
use Rattle.verifier_claims.specs.ClaimChecks.{matrix_fits}
use Rattle.verifier_claims.proofs.claim_checks.matrices_of.Given as goal

abbrev pub invariant-loop-matrix : goal.invariant-loop-matrix
invariant-loop-matrix g l = NoneFails (in_turn l.matrix (matrix_fits {R = g.row.R.Denot} (map g.A.BaseAir.declaration l.airs) l.matrices l.entries l.degree_bits l.widths l.instances))
