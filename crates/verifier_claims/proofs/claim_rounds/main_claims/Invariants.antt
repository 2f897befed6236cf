use Rattle.std.proofs.Common.{◌≡◌, map}
use Rattle.p3_field.specs.Poly.{tabulate}
use Rattle.verifier_claims.specs.Claims.{main_claim}
use Rattle.batch_config.specs.Domains.{next_by}
use Rattle.verifier_claims.proofs.claim_rounds.main_claims.Given as goal

abbrev pub invariant-loop-index : goal.invariant-loop-index
invariant-loop-index g l = l.claims.items ≡ tabulate l.index (main_claim g.F.RingCore.ring l.zeta (next_by g.E.RingCore.ring g.E.ExtensionField.embed g.F.TwoAdicCore.root l.masks l.zeta) (map g.A.BaseAir.declaration l.airs) l.degree_bits l.instances)
