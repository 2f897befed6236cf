-- A quotient domain has no point in common with the rows where its shift, raised to the domain's size, isn't one.
use Rattle.std.proofs.Common.{◌≡◌, ℕ, ◌+◌, ◌*◌, ◌^◌, ◌≤◌, sym, ◌∙◌, ap, arith}
use Rattle.std.proofs.lemmas.Nat.{pow-add}
use Rattle.p3_field.specs.Ring.{pow}
use Rattle.p3_field.specs.Field.{TwoAdic, Extension}
use Rattle.p3_field.specs.Domain.{point}
use Rattle.p3_field.specs.Laws.Order.{one_pow, pow_times}
use Rattle.p3_field.specs.Laws.Coset.{two_adic_order}
use Rattle.p3_field.specs.Laws.Binomials.{coset_point_power}
use Rattle.commit_core.specs.Space.{AreDisjoint}
use Rattle.law_committed.specs.Committed.{CommittedTable, row_count_of, trace_domain}
use Rattle.law_committed.specs.Fields.{FieldsLaws}
use Rattle.law_committed.specs.Quotient.{IsQuotientDomain, quotient_domain}

module _ {F E : Type 0} (f : TwoAdic F) (e : Extension F E) (top : ℕ) (inverse : E → E) (L : FieldsLaws f e top inverse) (t : CommittedTable F E) (shift : F) (log_chunks : ℕ)
    (fits : t.log_height + log_chunks ≤ top) where
  quotient_apart : (pow f.ring shift (2 ^ (t.log_height + log_chunks)) ≡ f.ring.one → ⊥)
      → AreDisjoint (row_count_of t) (point f.ring f.root (trace_domain f e t)) (2 ^ (t.log_height + log_chunks)) (point f.ring f.root (quotient_domain f e t shift log_chunks))
  quotient_apart differs i j h l same =
      let r = f.ring in let k = t.log_height in let c = log_chunks in
      let p = point r f.root (trace_domain f e t) i in
      let size : 2 ^ (k + c) ≡ 2 ^ k * 2 ^ c = pow-add 2 k c in
      let own : pow r p (2 ^ k) ≡ r.one = coset_point_power r L.below (2 ^ k) r.one (f.root k) i (two_adic_order r L.below top f.root L.roots k (omega (arith, fits))) ∙ one_pow r L.below (2 ^ k) in
      let full : pow r p (2 ^ (k + c)) ≡ r.one = ap (pow r p) size ∙ (pow_times r L.below p (2 ^ k) (2 ^ c) ∙ (ap (λ z. pow r z (2 ^ c)) own ∙ one_pow r L.below (2 ^ c))) in
      let other = coset_point_power r L.below (2 ^ (k + c)) shift (f.root (k + c)) j (two_adic_order r L.below top f.root L.roots (k + c) fits) in
      differs (sym other ∙ (ap (λ z. pow r z (2 ^ (k + c))) (sym same) ∙ full))

  pub shift_gives_domain : (shift ≡ f.ring.zero → ⊥) → (pow f.ring shift (2 ^ (t.log_height + log_chunks)) ≡ f.ring.one → ⊥) → IsQuotientDomain f e t shift log_chunks top
  shift_gives_domain nz differs = record { fits = fits; shift_not_zero = nz; apart = quotient_apart differs }
