use Rattle.std.proofs.Common.{◌≡◌, ℕ, ◌∙◌, ap, List}
use Rattle.p3_field.specs.Ring.{Ring, sub}
use Rattle.p3_field.specs.Poly.{tabulate}
use Rattle.p3_field.specs.Domain.{coset_point}
use Rattle.commit_core.proofs.selectors.distances_on.Goals as goal

-- a list of points by equal numbers and elements
stepped : {A : Type 0} (xs : List A) (size n : ℕ) (r : Ring A) (p p' q q' o : A) → xs ≡ tabulate size (λ i. sub r (coset_point r p q i) o) → size ≡ n → p ≡ p' → q ≡ q'
    → xs ≡ tabulate n (λ i. sub r (coset_point r p' q' i) o)
stepped xs size n r p p' q q' o h e x y =
    h ∙ (ap (λ k. tabulate k (λ i. sub r (coset_point r p q i) o)) e ∙ (ap (λ v. tabulate n (λ i. sub r (coset_point r v q i) o)) x
    ∙ ap (λ v. tabulate n (λ i. sub r (coset_point r p' v i) o)) y))

pub returns : goal.returns
returns g c =
    let r = g.F.RingCore.ring in
    let inv = g.F.FieldCore.inv in
    let root = g.F.TwoAdicCore.root in
    let d = c.args.domain.now in
    let e = c.args.coset.now in
    let P = g.met.F.PrimeCharacteristicRing in
    let ratio : c.mul-ratio.result ≡ r.mul (inv d.shift) e.shift = cc (P.muls _ _ _ c.mul-ratio.ensures, c.shift_inverse.ensures, c.shift.ensures) in
    stepped c.in_ok-values.values.items c.size-size.result _ r c.mul-ratio.result _ c.subgroup_generator-step.result (root e.log_size) c.args.minus c.in_ok-values.ensures c.size-size.ensures ratio c.subgroup_generator-step.ensures
