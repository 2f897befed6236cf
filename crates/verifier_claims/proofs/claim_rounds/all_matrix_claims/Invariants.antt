use Rattle.std.proofs.Common.{◌≡◌, map}
use Rattle.p3_field.specs.Poly.{tabulate}
use Rattle.verifier_claims.specs.Claims.{preprocessed_matrix_claim}
use Rattle.batch_config.specs.Domains.{next_by}
use Rattle.verifier_claims.proofs.claim_rounds.all_matrix_claims.Given as goal

abbrev pub invariant-loop-matrix : goal.invariant-loop-matrix
invariant-loop-matrix g l = l.claims.items ≡ tabulate l.matrix (preprocessed_matrix_claim g.F.RingCore.ring l.zeta (next_by g.E.RingCore.ring g.E.ExtensionField.embed g.F.TwoAdicCore.root l.masks l.zeta) (map g.A.BaseAir.declaration l.airs) l.degree_bits l.instances l.matrices)
