-- Tables of values, lists as tables, and the step from a point to the next.
use Rattle.std.proofs.Common.{◌≡◌, ℕ, zero, suc, ◌+◌, ◌<◌, List, [], ◌∷◌, ◌++◌, length, get_or, refl, sym, ◌∙◌, ap, arith}
use Rattle.std.proofs.lemmas.List.{ext_get_or}
use Rattle.p3_field.specs.Ring.{Ring, RingLaws, pow}
use Rattle.p3_field.specs.Poly.{tabulate, total}
use Rattle.p3_field.specs.Domain.{coset_point}
use Rattle.p3_field.specs.Laws.Algebra.{zero_add}

pub length-tabulate : {A : Type 0} (n : ℕ) (t : ℕ → A) → length (tabulate n t) ≡ n
length-tabulate zero t = refl
length-tabulate (suc n) t = ap suc (length-tabulate n (λ j. t (suc j)))

pub get_or-tabulate : {A : Type 0} (n : ℕ) (t : ℕ → A) (i : ℕ) (d : A) → i < n → get_or (tabulate n t) i d ≡ t i
get_or-tabulate zero t i d h = absurd (omega arith)
get_or-tabulate (suc n) t zero d h = refl
get_or-tabulate (suc n) t (suc i) d h = get_or-tabulate n (λ j. t (suc j)) i d (omega arith)

pub tabulate_same : {A : Type 0} (n : ℕ) (t u : ℕ → A) → ((i : ℕ) → i < n → t i ≡ u i) → tabulate n t ≡ tabulate n u
tabulate_same zero t u h = refl
tabulate_same (suc n) t u h = cc (h zero (omega arith), tabulate_same n (λ i. t (suc i)) (λ i. u (suc i)) (λ i k. h (suc i) (omega arith)))

-- one value more
pub tabulate_more : {A : Type 0} (n : ℕ) (t : ℕ → A) → tabulate n t ++ t n ∷ [] ≡ tabulate (n + 1) t
tabulate_more zero t = refl
tabulate_more (suc n) t =
    let e : suc n + 1 ≡ suc (n + 1) = omega arith in
    ap (λ l. t zero ∷ l) (tabulate_more n (λ j. t (suc j))) ∙ ap (λ m. tabulate m t) (sym e)

pub tabulate-append : {A : Type 0} (m n : ℕ) (t : ℕ → A) → tabulate (m + n) t ≡ tabulate m t ++ tabulate n (λ i. t (m + i))
tabulate-append zero n t =
    let e : zero + n ≡ n = omega arith in
    ap (λ m. tabulate m t) e ∙ tabulate_same n t (λ i. t (zero + i)) (λ i h. let f : i ≡ zero + i = omega arith in ap t f)
tabulate-append (suc m) n t =
    let e : suc m + n ≡ suc (m + n) = omega arith in
    ap (λ m. tabulate m t) e ∙ ap (λ l. t zero ∷ l) (tabulate-append m n (λ j. t (suc j))
    ∙ ap (λ l. tabulate m (λ j. t (suc j)) ++ l) (tabulate_same n (λ i. t (suc (m + i))) (λ i. t (suc m + i)) (λ i h. let f : suc (m + i) ≡ suc m + i = omega arith in ap t f)))

-- a list is the table of its items
pub tabulate_items : {A : Type 0} (d : A) (v : List A) (n : ℕ) → length v ≡ n → v ≡ tabulate n (λ i. get_or v i d)
tabulate_items d v n e =
    ext_get_or d v (tabulate n (λ i. get_or v i d)) (e ∙ sym (length-tabulate n (λ i. get_or v i d)))
    (λ i h. let k : i < n = omega arith in sym (get_or-tabulate n (λ i. get_or v i d) i d k))

-- a list that is a table, and its next value
pub tabulate_push : {A : Type 0} (n : ℕ) (t : ℕ → A) (xs : List A) (x : A) → xs ≡ tabulate n t → x ≡ t n → xs ++ x ∷ [] ≡ tabulate (n + 1) t
tabulate_push n t xs x e f = cc (e, f, tabulate_more n t)

-- the next point
pub next_coset_point : {A : Type 0} (r : Ring A) (L : RingLaws r) (s h : A) (i : ℕ) → r.mul (coset_point r s h i) h ≡ coset_point r s h (i + 1)
unfolding pow
next_coset_point r L s h i =
    let e : i + 1 ≡ suc i = omega arith in
    cc (L.mul_assoc s (pow r h i) h, L.mul_comm (pow r h i) h, ap (pow r h) e)

pub first_coset_point : {A : Type 0} (r : Ring A) (L : RingLaws r) (s h : A) → coset_point r s h 0 ≡ s
unfolding pow
first_coset_point r L s h = L.mul_one s

-- one term more
pub total_more : {A : Type 0} (r : Ring A) (L : RingLaws r) (n : ℕ) (t : ℕ → A) → r.add (total r n t) (t n) ≡ total r (n + 1) t
total_more r L zero t = zero_add r L (t zero) ∙ sym (L.add_zero (t zero))
total_more r L (suc n) t =
    let e : suc n + 1 ≡ suc (n + 1) = omega arith in
    L.add_assoc (t zero) (total r n (λ j. t (suc j))) (t (suc n))
    ∙ (ap (r.add (t zero)) (total_more r L n (λ j. t (suc j))) ∙ ap (λ m. total r m t) (sym e))
