use Rattle.std.proofs.Common.{◌≡◌, ◌++◌, map}
use Rattle.p3_field.specs.Poly.{tabulate}
use Rattle.verifier_claims.specs.Claims.{chunk_claim}
use Rattle.verifier_claims.proofs.claim_rounds.with_chunks.Given as goal

abbrev pub invariant-loop-index : goal.invariant-loop-index
invariant-loop-index g l = l.claims.items ≡ l.fn.made.items ++ tabulate l.index (chunk_claim g.F.RingCore.ring l.zeta l.masks l.domains (map (λ v. v.items) l.chunks))
