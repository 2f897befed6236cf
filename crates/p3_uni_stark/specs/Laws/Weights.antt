-- The weights of chunks at the points of the chunks' domains: zero at those of other domains, and one at those of
-- their own, where all domains are cosets of one group. So the recombined value at a point of domain i is chunk i's
-- (`recombined_at_own`).
use Rattle.std.proofs.Common.{◌≡◌, ◌≢◌, ℕ, suc, ◌+◌, ◌-◌, ◌*◌, ◌^◌, ◌<◌, ◌≤◌, List, [], length, get_or, inl, inr, ◌⊎◌, sym, ◌∙◌, ap, subst, arith}
use Rattle.std.proofs.lemmas.Bool.{cases_lt}
use Rattle.std.proofs.lemmas.List.{map-id}
use Rattle.std.proofs.lemmas.Nat.{pow_pos}
use Rattle.p3_field.specs.Ring.{Ring, RingLaws, pow, sub}
use Rattle.p3_field.specs.Field.{TwoAdic, Extension, combine, FieldLaws, RingHom, TwoAdicLaws}
use Rattle.p3_field.specs.Poly.{eval_poly, eval_poly_in, product}
use Rattle.p3_field.specs.Domain.{CosetData, vanishing_polynomial, point}
use Rattle.p3_field.specs.Laws.Algebra.{one_mul, mul_zero, zero_mul}
use Rattle.p3_field.specs.Laws.Sums.{total_only}
use Rattle.p3_field.specs.Laws.Products.{product_zero, product_one}
use Rattle.p3_field.specs.Laws.Order.{one_pow, pow_times}
use Rattle.p3_field.specs.Laws.Own.{own_hom}
use Rattle.p3_field.specs.Laws.Roots.{field_no_zero_divisors}
use Rattle.p3_field.specs.Laws.Coset.{HasOrder, two_adic_order, pow_mul}
use Rattle.p3_field.specs.Laws.Extended.{hom_pow, map_eval}
use Rattle.p3_field.specs.Laws.Selectors.{vanishing_polynomial_vanishes, vanishing_value, vanishing_only_there}
use Rattle.p3_uni_stark.specs.Recombine.{product_but, domain_at, AllDisjoint, chunk_weight, recombined}

module _ {A : Type 0} (s : Ring A) (M : RingLaws s) where
  product_but_zero : (n i j : ℕ) (t : ℕ → A) → j < n → (i ≡ j → ⊥) → t j ≡ s.zero → product_but s n i t ≡ s.zero
  product_but_zero n i j t h differ z = elim (cases_lt j i) [
    | inl w ↦ ap (λ v. s.mul v (product s (n - suc i) (λ k. t (suc i + k)))) (product_zero s M i j t w z) ∙ zero_mul s M (product s (n - suc i) (λ k. t (suc i + k)))
    | inr w ↦
        let at : suc i + (j - suc i) ≡ j = omega (arith, w, differ) in
        let below : j - suc i < n - suc i = omega (arith, w, differ, h) in
        ap (s.mul (product s i t)) (product_zero s M (n - suc i) (j - suc i) (λ k. t (suc i + k)) below (ap t at ∙ z)) ∙ mul_zero s M (product s i t)
  ]

-- chunk i weighs zero at each point of another domain
pub weight_elsewhere : {F E : Type 0} (f : TwoAdic F) (L : RingLaws f.ring) (W : FieldLaws f.ring f.inv) (top : ℕ) (T : TwoAdicLaws f.ring top f.root)
    (e : Extension F E) (M : RingLaws e.ring) (H : RingHom f.ring e.ring e.embed) (ds : List (CosetData F)) (i j k : ℕ) → j < length ds → (i ≡ j → ⊥)
    → ((domain_at f.ring ds j).shift ≡ f.ring.zero → ⊥) → (domain_at f.ring ds j).log_size ≤ top
    → chunk_weight f e ds i (e.embed (point f.ring f.root (domain_at f.ring ds j) k)) ≡ e.ring.zero
unfolding chunk_weight
weight_elsewhere f L W top T e M H ds i j k h differ shift fits =
    let s = e.ring in
    let x = e.embed (point f.ring f.root (domain_at f.ring ds j) k) in
    let weight = λ (m : ℕ). e.embed (f.inv (eval_poly f.ring (vanishing_polynomial f.ring f.inv (domain_at f.ring ds m)) (point f.ring f.root (domain_at f.ring ds i) 0))) in
    let factor = λ (m : ℕ). s.mul (eval_poly_in e (vanishing_polynomial f.ring f.inv (domain_at f.ring ds m)) x) (weight m) in
    let none : factor j ≡ s.zero = ap (λ v. s.mul v (weight j)) (vanishing_polynomial_vanishes f.ring L s M e.embed H f.inv W top f.root T (domain_at f.ring ds j) k shift fits) ∙ zero_mul s M (weight j) in
    product_but_zero s M (length ds) i j factor h differ none

module _ {A : Type 0} (s : Ring A) (M : RingLaws s) where
  product_but_one : (n i : ℕ) (t : ℕ → A) → i < n → ((j : ℕ) → j < n → (i ≡ j → ⊥) → t j ≡ s.one) → product_but s n i t ≡ s.one
  product_but_one n i t l h =
      let before = product_one s M i t (λ j b. h j (omega (arith, b, l)) (λ e. omega (arith, b, e))) in
      let after = product_one s M (n - suc i) (λ j. t (suc i + j)) (λ j b. h (suc i + j) (omega (arith, b, l)) (λ e. omega (arith, e))) in
      (λ k. s.mul (before k) (after k)) ∙ M.mul_one s.one

module _ {F E : Type 0} (f : TwoAdic F) (L : RingLaws f.ring) (W : FieldLaws f.ring f.inv) (top : ℕ) (T : TwoAdicLaws f.ring top f.root)
    (e : Extension F E) (M : RingLaws e.ring) (H : RingHom f.ring e.ring e.embed) where
  -- The vanishing polynomial of a coset of the same group has one value at all points of a domain
  vanishing_along : (c d : CosetData F) (k : ℕ) → (c.shift ≡ f.ring.zero → ⊥) → d.log_size ≤ top → c.log_size ≡ d.log_size
      → eval_poly_in e (vanishing_polynomial f.ring f.inv c) (e.embed (point f.ring f.root d k))
      ≡ sub e.ring (pow e.ring (e.ring.mul (e.embed (f.inv c.shift)) (e.embed d.shift)) (2 ^ c.log_size)) e.ring.one
  vanishing_along c d k shift fits same =
      let r = f.ring in
      let s = e.ring in
      let h = f.root d.log_size in
      let n = 2 ^ c.log_size in
      let K = pow r h k in
      let t = e.embed (f.inv c.shift) in
      let S = e.embed d.shift in
      let O : HasOrder r n h = subst (λ m. HasOrder r (2 ^ m) h) (sym same) (two_adic_order r L top f.root T d.log_size fits) in
      let turn : k * n ≡ n * k = omega arith in
      let full : pow r K n ≡ r.one = sym (pow_times r L h k n) ∙ (ap (pow r h) turn ∙ (pow_times r L h n k ∙ (ap (λ z. pow r z k) O.full ∙ one_pow r L k))) in
      let gone : pow s (e.embed K) n ≡ s.one = sym (hom_pow r L s M e.embed H K n) ∙ (ap e.embed full ∙ H.keeps_one) in
      let apart : s.mul t (e.embed (point r f.root d k)) ≡ s.mul (s.mul t S) (e.embed K) = ap (s.mul t) (H.keeps_mul d.shift K) ∙ sym (M.mul_assoc t S (e.embed K)) in
      let power : pow s (s.mul t (e.embed (point r f.root d k))) n ≡ pow s (s.mul t S) n =
      ap (λ z. pow s z n) apart ∙ (pow_mul s M (s.mul t S) (e.embed K) n ∙ (ap (s.mul (pow s (s.mul t S) n)) gone ∙ M.mul_one (pow s (s.mul t S) n))) in
      vanishing_value r L s M e.embed H f.inv W c (e.embed (point r f.root d k)) shift ∙ ap (λ z. sub s z s.one) power

  -- Chunk i weighs one at each point of its own domain, where all domains are cosets of one group that share no point.
  pub weight_at_own : ((x y : F) → (x ≡ y) ⊎ (x ≡ y → ⊥)) → (ds : List (CosetData F)) (i k : ℕ) → i < length ds → AllDisjoint f ds
      → ((j : ℕ) → j < length ds → (domain_at f.ring ds j).shift ≡ f.ring.zero → ⊥) → (domain_at f.ring ds i).log_size ≤ top
      → ((j : ℕ) → j < length ds → (domain_at f.ring ds j).log_size ≡ (domain_at f.ring ds i).log_size)
      → chunk_weight f e ds i (e.embed (point f.ring f.root (domain_at f.ring ds i) k)) ≡ e.ring.one
  unfolding chunk_weight
  weight_at_own dec ds i k within apart shifts fits same =
      let r = f.ring in
      let s = e.ring in
      let d = domain_at r ds i in
      let x = e.embed (point r f.root d k) in
      let first = point r f.root d 0 in
      let value = λ (j : ℕ). eval_poly r (vanishing_polynomial r f.inv (domain_at r ds j)) first in
      let factor = λ (j : ℕ). s.mul (eval_poly_in e (vanishing_polynomial r f.inv (domain_at r ds j)) x) (e.embed (f.inv (value j))) in
      let one : (j : ℕ) → j < length ds → (i ≡ j → ⊥) → factor j ≡ s.one = λ j l differ.
      let c = domain_at r ds j in
      let below : c.log_size ≤ top = subst (λ m. m ≤ top) (sym (same j l)) fits in
      let nonzero : value j ≡ r.zero → ⊥ = λ z.
      let found = vanishing_only_there r L r L (λ y. y) (own_hom r) f.inv W top f.root T dec W.one_differs (field_no_zero_divisors r L f.inv W) c first (shifts j l) below (ap (λ g. eval_poly r g first) (map-id (vanishing_polynomial r f.inv c)) ∙ z) in
      apart i within j l differ 0 found.0 (pow_pos d.log_size) found.1 found.2 in
      let there : eval_poly_in e (vanishing_polynomial r f.inv c) x ≡ e.embed (value j) =
      vanishing_along c d k (shifts j l) fits (same j l) ∙ (sym (vanishing_along c d 0 (shifts j l) fits (same j l)) ∙ map_eval r L s M e.embed H (vanishing_polynomial r f.inv c) first) in
      ap (λ v. s.mul v (e.embed (f.inv (value j)))) there ∙ (sym (H.keeps_mul (value j) (f.inv (value j))) ∙ (ap e.embed (W.mul_inv (value j) nonzero) ∙ H.keeps_one)) in
      product_but_one s M (length ds) i factor within one

  -- The quotient's value at each point of a chunk's domain is the chunk's, where all domains are cosets of one group that
  -- share no point.
  pub recombined_at_own : ((x y : F) → (x ≡ y) ⊎ (x ≡ y → ⊥)) → (ds : List (CosetData F)) (chunks : List (List E)) (i k : ℕ) → i < length ds → AllDisjoint f ds
      → ((j : ℕ) → j < length ds → (domain_at f.ring ds j).shift ≡ f.ring.zero → ⊥) → (domain_at f.ring ds i).log_size ≤ top
      → ((j : ℕ) → j < length ds → (domain_at f.ring ds j).log_size ≡ (domain_at f.ring ds i).log_size)
      → recombined f e ds chunks (e.embed (point f.ring f.root (domain_at f.ring ds i) k)) ≡ combine e.ring e.basis 0 (get_or chunks i [])
  unfolding recombined
  recombined_at_own dec ds chunks i k within apart shifts fits same =
      let s = e.ring in
      let x = e.embed (point f.ring f.root (domain_at f.ring ds i) k) in
      let value : ℕ → E = λ j. combine s e.basis 0 (get_or chunks j []) in
      let part : ℕ → E = λ j. s.mul (chunk_weight f e ds j x) (value j) in
      let none : (j : ℕ) → j < length ds → j ≢ i → part j ≡ s.zero = λ j l differ.
      ap (λ w. s.mul w (value j)) (weight_elsewhere f L W top T e M H ds j i k within differ (shifts i within) fits) ∙ zero_mul s M (value j) in
      total_only s M (length ds) i part within none
      ∙ (ap (λ w. s.mul w (value i)) (weight_at_own dec ds i k within apart shifts fits same) ∙ one_mul s M (value i))
