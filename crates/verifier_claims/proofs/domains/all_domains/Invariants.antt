use Rattle.std.proofs.Common.{◌≡◌, map}
use Rattle.p3_field.specs.Poly.{tabulate}
use Rattle.verifier_claims.specs.Claims.{chunk_domains_at}
use Rattle.verifier_claims.proofs.domains.all_domains.Given as goal

abbrev pub invariant-loop-index : goal.invariant-loop-index
invariant-loop-index g l = map (λ d. d.items) l.domains.items ≡ tabulate l.index (chunk_domains_at g.F.RingCore.ring g.F.TwoAdicCore.root g.F.FieldCore.GENERATOR l.masks l.degree_bits l.log_chunks)
