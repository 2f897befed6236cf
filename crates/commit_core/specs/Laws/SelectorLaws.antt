-- The selectors as quotients at a point outside of the domain, and at each point of a disjoint coset.
use Rattle.std.proofs.Common.{◌≡◌, ℕ, zero, suc, ◌^◌, ◌<◌, ◌≤◌, ◌⊎◌, List, ◌∷◌, length, get_or, map, refl, sym, ◌∙◌, ap, arith}
use Rattle.std.proofs.lemmas.List.{map-id}
use Rattle.p3_field.specs.Ring.{Ring, RingLaws, pow, sub}
use Rattle.p3_field.specs.Field.{FieldLaws, RingHom, TwoAdicLaws}
use Rattle.p3_field.specs.Poly.{eval_poly, tabulate}
use Rattle.p3_field.specs.Laws.Tabulate.{length-tabulate, get_or-tabulate, tabulate_same}
use Rattle.p3_field.specs.Domain.{CosetData, coset_point, point, vanishing_polynomial, first_selector, last_selector, transition_selector}
use Rattle.p3_field.specs.Laws.Algebra.{zero_mul}
use Rattle.p3_field.specs.Laws.Own.{own_hom}
use Rattle.p3_field.specs.Laws.Roots.{field_no_zero_divisors}
use Rattle.p3_field.specs.Laws.Subcosets.{row_power}
use Rattle.p3_field.specs.Laws.Selectors.{vanishing_value, vanishing_only_there, first_selector_value, last_selector_value, transition_selector_value}
use Rattle.commit_core.specs.Space.{IsPoint, AreDisjoint}

-- where a y = b and a isn't zero, y is b / a
pub quotient_is : {B : Type 0} (s : Ring B) (M : RingLaws s) (inv : B → B) → FieldLaws s inv → (a b y : B) → s.mul a y ≡ b → (a ≡ s.zero → ⊥) → s.mul b (inv a) ≡ y
quotient_is s M inv V a b y e nz =
    cc (e, V.mul_inv a nz, M.mul_comm a y, M.mul_assoc y a (inv a), M.mul_one y)

-- what times a factor isn't zero, has no factor zero
pub factor_not_zero : {B : Type 0} (s : Ring B) (M : RingLaws s) (a y b : B) → s.mul a y ≡ b → (b ≡ s.zero → ⊥) → a ≡ s.zero → ⊥
factor_not_zero s M a y b e nz z = nz (sym e ∙ (ap (λ x. s.mul x y) z ∙ zero_mul s M y))

module _ {A B : Type 0} (r : Ring A) (L : RingLaws r) (s : Ring B) (M : RingLaws s) (f : A → B) (H : RingHom r s f) (inv : A → A) (W : FieldLaws r inv) (top : ℕ) (root : ℕ → A) (T : TwoAdicLaws r top root)
    (invs : B → B) (V : FieldLaws s invs) (dec : (x y : B) → (x ≡ y) ⊎ (x ≡ y → ⊥)) (d : CosetData A) (nz : d.shift ≡ r.zero → ⊥) (fits : d.log_size ≤ top)
    (x : B) (outside : IsPoint (2 ^ d.log_size) (point r root d) f x → ⊥) where
  pub vanishing_polynomial_not_zero : eval_poly s (map f (vanishing_polynomial r inv d)) x ≡ s.zero → ⊥
  vanishing_polynomial_not_zero e = outside (vanishing_only_there r L s M f H inv W top root T dec V.one_differs (field_no_zero_divisors s M invs V) d x nz fits e)

  pub first_not_zero : sub s (s.mul (f (inv d.shift)) x) s.one ≡ s.zero → ⊥
  first_not_zero = factor_not_zero s M (sub s (s.mul (f (inv d.shift)) x) s.one) _ _ (first_selector_value r L s M f H inv W d x nz) vanishing_polynomial_not_zero

  pub last_not_zero : sub s (s.mul (f (inv d.shift)) x) (f (inv (root d.log_size))) ≡ s.zero → ⊥
  last_not_zero = factor_not_zero s M (sub s (s.mul (f (inv d.shift)) x) (f (inv (root d.log_size)))) _ _ (last_selector_value r L s M f H inv W top root T d x nz fits) vanishing_polynomial_not_zero

  pub first_is : s.mul (eval_poly s (map f (vanishing_polynomial r inv d)) x) (invs (sub s (s.mul (f (inv d.shift)) x) s.one)) ≡ eval_poly s (map f (first_selector r inv d)) x
  first_is = quotient_is s M invs V _ _ _ (first_selector_value r L s M f H inv W d x nz) first_not_zero

  pub last_is : s.mul (eval_poly s (map f (vanishing_polynomial r inv d)) x) (invs (sub s (s.mul (f (inv d.shift)) x) (f (inv (root d.log_size))))) ≡ eval_poly s (map f (last_selector r inv root d)) x
  last_is = quotient_is s M invs V _ _ _ (last_selector_value r L s M f H inv W top root T d x nz fits) last_not_zero

-- at point i of a disjoint coset e, where u is d's shift's inverse times that point
module _ {A : Type 0} (r : Ring A) (L : RingLaws r) (inv : A → A) (W : FieldLaws r inv) (top : ℕ) (root : ℕ → A) (T : TwoAdicLaws r top root)
    (dec : (x y : A) → (x ≡ y) ⊎ (x ≡ y → ⊥)) (d e : CosetData A) (nz : d.shift ≡ r.zero → ⊥) (fits : d.log_size ≤ top)
    (apart : AreDisjoint (2 ^ d.log_size) (point r root d) (2 ^ e.log_size) (point r root e)) (i : ℕ) (below : i < 2 ^ e.log_size) where
  outside : IsPoint (2 ^ d.log_size) (point r root d) (λ y. y) (point r root e i) → ⊥
  outside p = apart p.0 i p.1 below (sym p.2)

  plain : (g : List A) (x : A) → eval_poly r (map (λ y. y) g) x ≡ eval_poly r g x
  plain g x = ap (λ l. eval_poly r l x) (map-id g)

  -- the ratio at the point
  at_point : coset_point r (r.mul (inv d.shift) e.shift) (root e.log_size) i ≡ r.mul (inv d.shift) (point r root e i)
  at_point = L.mul_assoc (inv d.shift) e.shift (pow r (root e.log_size) i)

  pub vanishing_item : sub r (coset_point r (pow r (r.mul (inv d.shift) e.shift) (2 ^ d.log_size)) (pow r (root e.log_size) (2 ^ d.log_size)) i) r.one ≡ eval_poly r (vanishing_polynomial r inv d) (point r root e i)
  vanishing_item =
      let n = 2 ^ d.log_size in
      let ratio = r.mul (inv d.shift) e.shift in
      let x = point r root e i in
      ap (λ z. sub r z r.one) (sym (row_power r L ratio (root e.log_size) 0 n i) ∙ ap (λ z. pow r z n) at_point)
      ∙ (sym (vanishing_value r L r L (λ y. y) (own_hom r) inv W d x nz) ∙ plain (vanishing_polynomial r inv d) x)

  pub vanishing_item_not_zero : eval_poly r (vanishing_polynomial r inv d) (point r root e i) ≡ r.zero → ⊥
  vanishing_item_not_zero z =
      vanishing_polynomial_not_zero r L r L (λ y. y) (own_hom r) inv W top root T inv W dec d nz fits (point r root e i) outside (plain (vanishing_polynomial r inv d) (point r root e i) ∙ z)

  pub first_item_not_zero : sub r (coset_point r (r.mul (inv d.shift) e.shift) (root e.log_size) i) r.one ≡ r.zero → ⊥
  first_item_not_zero z =
      first_not_zero r L r L (λ y. y) (own_hom r) inv W top root T inv W dec d nz fits (point r root e i) outside (ap (λ y. sub r y r.one) (sym at_point) ∙ z)

  pub last_item_not_zero : sub r (coset_point r (r.mul (inv d.shift) e.shift) (root e.log_size) i) (inv (root d.log_size)) ≡ r.zero → ⊥
  last_item_not_zero z =
      last_not_zero r L r L (λ y. y) (own_hom r) inv W top root T inv W dec d nz fits (point r root e i) outside (ap (λ y. sub r y (inv (root d.log_size))) (sym at_point) ∙ z)

  pub first_item : r.mul (eval_poly r (vanishing_polynomial r inv d) (point r root e i)) (inv (sub r (coset_point r (r.mul (inv d.shift) e.shift) (root e.log_size) i) r.one)) ≡ eval_poly r (first_selector r inv d) (point r root e i)
  first_item =
      let x = point r root e i in
      cc (
        first_is r L r L (λ y. y) (own_hom r) inv W top root T inv W dec d nz fits x outside,
        plain (vanishing_polynomial r inv d) x,
        plain (first_selector r inv d) x,
        at_point,
      )

  pub last_item : r.mul (eval_poly r (vanishing_polynomial r inv d) (point r root e i)) (inv (sub r (coset_point r (r.mul (inv d.shift) e.shift) (root e.log_size) i) (inv (root d.log_size)))) ≡ eval_poly r (last_selector r inv root d) (point r root e i)
  last_item =
      let x = point r root e i in
      cc (
        last_is r L r L (λ y. y) (own_hom r) inv W top root T inv W dec d nz fits x outside,
        plain (vanishing_polynomial r inv d) x,
        plain (last_selector r inv root d) x,
        at_point,
      )

  pub transition_item : sub r (coset_point r (r.mul (inv d.shift) e.shift) (root e.log_size) i) (inv (root d.log_size)) ≡ eval_poly r (transition_selector r inv root d) (point r root e i)
  transition_item =
      let x = point r root e i in
      ap (λ y. sub r y (inv (root d.log_size))) at_point
      ∙ (sym (transition_selector_value r L r L (λ y. y) (own_hom r) inv W root d x) ∙ plain (transition_selector r inv root d) x)

-- lists of values, item by item
pub nonzero_items : {A : Type 0} (z : A) (xs : List A) (n : ℕ) (t : ℕ → A) → xs ≡ tabulate n t → ((i : ℕ) → i < n → t i ≡ z → ⊥) → (i : ℕ) → i < length xs → get_or xs i z ≡ z → ⊥
nonzero_items z xs n t e nz = λ i b q.
    let below : i < n = omega (arith, ap length e, length-tabulate n t) in
    nz i below (sym (ap (λ l. get_or l i z) e ∙ get_or-tabulate n t i z below) ∙ q)

pub same_count : {A : Type 0} (xs ys : List A) (n : ℕ) (t u : ℕ → A) → xs ≡ tabulate n t → ys ≡ tabulate n u → length xs ≡ length ys
same_count xs ys n t u e d = ap length e ∙ (length-tabulate n t ∙ sym (ap length d ∙ length-tabulate n u))

pub quotient_list : {A : Type 0} (r : Ring A) (inv : A → A) (xs ys : List A) (n : ℕ) (t u w : ℕ → A) → xs ≡ tabulate n t → ys ≡ tabulate n u
    → ((i : ℕ) → i < n → r.mul (t i) (inv (u i)) ≡ w i) → tabulate (length xs) (λ i. r.mul (get_or xs i r.zero) (inv (get_or ys i r.zero))) ≡ tabulate n w
quotient_list r inv xs ys n t u w e d h =
    ap (λ k. tabulate k (λ i. r.mul (get_or xs i r.zero) (inv (get_or ys i r.zero)))) (ap length e ∙ length-tabulate n t)
    ∙ tabulate_same n (λ i. r.mul (get_or xs i r.zero) (inv (get_or ys i r.zero))) w
    (λ i b. cc (ap (λ l. get_or l i r.zero) e ∙ get_or-tabulate n t i r.zero b, ap (λ l. get_or l i r.zero) d ∙ get_or-tabulate n u i r.zero b, h i b))

pub inverse_list : {A : Type 0} (inv : A → A) (xs : List A) (n : ℕ) (t : ℕ → A) → xs ≡ tabulate n t → map inv xs ≡ tabulate n (λ i. inv (t i))
inverse_list {A} inv xs n t e = ap (map inv) e ∙ mapped n t
  where
    mapped : (n : ℕ) (t : ℕ → A) → map inv (tabulate n t) ≡ tabulate n (λ i. inv (t i))
    mapped zero t = refl
    mapped (suc n) t = ap (λ l. inv (t zero) ∷ l) (mapped n (λ i. t (suc i)))

-- the lists that lead to the selectors on a disjoint coset e
module _ {A : Type 0} (r : Ring A) (L : RingLaws r) (inv : A → A) (W : FieldLaws r inv) (top : ℕ) (root : ℕ → A) (T : TwoAdicLaws r top root)
    (dec : (x y : A) → (x ≡ y) ⊎ (x ≡ y → ⊥)) (d e : CosetData A) (nz : d.shift ≡ r.zero → ⊥) (fits : d.log_size ≤ top)
    (apart : AreDisjoint (2 ^ d.log_size) (point r root d) (2 ^ e.log_size) (point r root e)) where
  -- The vanishing polynomial at the points
  pub vanishing_list : (xs : List A) (size : ℕ) (p q o : A) → xs ≡ tabulate size (λ i. sub r (coset_point r p q i) o) → size ≡ 2 ^ e.log_size
      → p ≡ pow r (r.mul (inv d.shift) e.shift) (2 ^ d.log_size) → q ≡ pow r (root e.log_size) (2 ^ d.log_size) → o ≡ r.one
      → xs ≡ tabulate (2 ^ e.log_size) (λ i. eval_poly r (vanishing_polynomial r inv d) (point r root e i))
  vanishing_list xs size p q o h n x y z =
      h ∙ (ap (λ k. tabulate k (λ i. sub r (coset_point r p q i) o)) n
      ∙ tabulate_same (2 ^ e.log_size) (λ i. sub r (coset_point r p q i) o) (λ i. eval_poly r (vanishing_polynomial r inv d) (point r root e i))
      (λ i b. cc (x, y, z, vanishing_item r L inv W top root T dec d e nz fits apart i b)))

  pub vanishing_not_zero : (i : ℕ) → i < 2 ^ e.log_size → eval_poly r (vanishing_polynomial r inv d) (point r root e i) ≡ r.zero → ⊥
  vanishing_not_zero i b = vanishing_item_not_zero r L inv W top root T dec d e nz fits apart i b

  -- the distance from the first point, and from the last
  abbrev pub from_first : ℕ → A
  from_first i = sub r (coset_point r (r.mul (inv d.shift) e.shift) (root e.log_size) i) r.one

  abbrev pub from_last : ℕ → A
  from_last i = sub r (coset_point r (r.mul (inv d.shift) e.shift) (root e.log_size) i) (inv (root d.log_size))

  pub first_not_zero_at : (i : ℕ) → i < 2 ^ e.log_size → from_first i ≡ r.zero → ⊥
  first_not_zero_at i b = first_item_not_zero r L inv W top root T dec d e nz fits apart i b

  pub last_not_zero_at : (i : ℕ) → i < 2 ^ e.log_size → from_last i ≡ r.zero → ⊥
  last_not_zero_at i b = last_item_not_zero r L inv W top root T dec d e nz fits apart i b

  pub first_at : (i : ℕ) → i < 2 ^ e.log_size → r.mul (eval_poly r (vanishing_polynomial r inv d) (point r root e i)) (inv (from_first i)) ≡ eval_poly r (first_selector r inv d) (point r root e i)
  first_at i b = first_item r L inv W top root T dec d e nz fits apart i b

  pub last_at : (i : ℕ) → i < 2 ^ e.log_size → r.mul (eval_poly r (vanishing_polynomial r inv d) (point r root e i)) (inv (from_last i)) ≡ eval_poly r (last_selector r inv root d) (point r root e i)
  last_at i b = last_item r L inv W top root T dec d e nz fits apart i b

  pub transition_list : (xs : List A) → xs ≡ tabulate (2 ^ e.log_size) from_last → xs ≡ tabulate (2 ^ e.log_size) (λ i. eval_poly r (transition_selector r inv root d) (point r root e i))
  transition_list xs h =
      h ∙ tabulate_same (2 ^ e.log_size) from_last (λ i. eval_poly r (transition_selector r inv root d) (point r root e i))
      (λ i b. transition_item r L inv W top root T dec d e nz fits apart i b)
