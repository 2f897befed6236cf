use Rattle.std.proofs.Common.{◌≡◌, map}
use Rattle.std.specs.List.{flat_map}
use Rattle.p3_field.specs.Poly.{tabulate}
use Rattle.verifier_claims.specs.Claims.{chunk_claims}
use Rattle.verifier_claims.proofs.claim_rounds.all_chunk_claims.Given as goal

abbrev pub invariant-loop-index : goal.invariant-loop-index
invariant-loop-index g l = l.claims.items ≡ flat_map (chunk_claims g.F.RingCore.ring l.zeta l.masks (map (λ v. v.items) l.domains) l.instances) (tabulate l.index (λ i. i))
