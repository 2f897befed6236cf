use Rattle.std.proofs.Common.{◌≡◌, ℕ, ◌<◌, ◌^◌, map}
use Rattle.p3_field.specs.Poly.{eval_poly}
use Rattle.p3_field.specs.Domain.{vanishing_polynomial, point}
use Rattle.commit_core.specs.Space.{IsPoint}
use Rattle.p3_uni_stark.specs.Recombine.{domain_at}
use Rattle.p3_field.specs.Poly.{product}
use Rattle.p3_uni_stark.proofs.recompose.vanishing_product.Given as goal

abbrev pub invariant-loop-domain : goal.invariant-loop-domain
invariant-loop-domain g l = let r = g.F.RingCore.ring in let s = g.EF.RingCore.ring in let e = g.EF.ExtensionField.embed in
    (l.product ≡ product s l.domain-index (λ j. eval_poly s (map e (vanishing_polynomial r g.F.FieldCore.inv (domain_at r l.domains j))) l.x))
    × (((j : ℕ) → j < l.domain-index → IsPoint (2 ^ (domain_at r l.domains j).log_size) (point r g.F.TwoAdicCore.root (domain_at r l.domains j)) e l.x → ⊥) → l.product ≡ s.zero → ⊥)
