use Rattle.std.proofs.Common.{◌≡◌}
use Rattle.p3_field.specs.Poly.{tabulate}
use Rattle.verifier_claims.specs.Claims.{random_claim}
use Rattle.verifier_claims.proofs.claim_rounds.random_claims.Given as goal

abbrev pub invariant-loop-index : goal.invariant-loop-index
invariant-loop-index g l = l.claims.items ≡ tabulate l.index (random_claim g.F.RingCore.ring l.zeta l.degree_bits l.instances)
