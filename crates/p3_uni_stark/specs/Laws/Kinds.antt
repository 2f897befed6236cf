-- Sums over lists of places, and the fold by kinds.
use Rattle.std.proofs.Common.{◌≡◌, ◌≢◌, ℕ, suc, ◌+◌, ◌-◌, ◌<◌, ◌==◌, List, [], ◌∷◌, ◌++◌, length, All, cond, refl, sym, ◌∙◌, ap, get_or, arith}
use Rattle.std.specs.List.{count_by}
use Rattle.std.proofs.lemmas.List.Elements.{All-head, All-tail}
use Rattle.std.proofs.lemmas.Bool.Decides.{nat_tests}
use Rattle.p3_field.specs.Ring.{Ring, RingLaws, pow, of_nat}
use Rattle.p3_field.specs.Poly.{total as total_of}
use Rattle.p3_field.specs.Laws.Algebra.{zero_add, zero_mul, one_mul, add_mul, of_nat_add}
use Rattle.p3_field.specs.Laws.Sums.{total_same, total_zero, total_add, total_only}
use Rattle.air_core.specs.Layout.{place_count, folding_powers}
use Rattle.air_core.specs.Laws.Places.{listed_more}
use Rattle.p3_uni_stark.specs.Fold.{fold, weighed}
use Rattle.p3_uni_stark.specs.Kinds.{items_at, FoldsByKinds}

module _ {E : Type 0} (r : Ring E) where
  -- the sum of g over a list of places
  abbrev sum_over : (ℕ → E) → List ℕ → E
  sum_over g [] = r.zero
  sum_over g (i ∷ is) = r.add (g i) (sum_over g is)

  -- constraint i's value times its power
  abbrev term : E → ℕ → List E → ℕ → E
  term a n cs i = r.mul (pow r a (n - 1 - i)) (get_or cs i r.zero)

  -- as many times x
  abbrev times : ℕ → E → E
  times k x = r.mul (of_nat r k) x

  weighed_over : (a : E) (n : ℕ) (cs : List E) (is : List ℕ) → weighed r (folding_powers r a n is) (items_at r cs is) ≡ sum_over (term a n cs) is
  weighed_over a n cs [] = refl
  weighed_over a n cs (i ∷ is) = ap (r.add (term a n cs i)) (weighed_over a n cs is)

  module _ (L : RingLaws r) where
    sum_over-append : (g : ℕ → E) (is js : List ℕ) → sum_over g (is ++ js) ≡ r.add (sum_over g is) (sum_over g js)
    sum_over-append g [] js = sym (zero_add r L (sum_over g js))
    sum_over-append g (i ∷ is) js = ap (r.add (g i)) (sum_over-append g is js) ∙ sym (L.add_assoc (g i) (sum_over g is) (sum_over g js))

    times_none : (x : E) → times 0 x ≡ r.zero
    unfolding of_nat
    times_none x = zero_mul r L x

    times_once : (x : E) → times 1 x ≡ x
    unfolding of_nat
    times_once x = ap (λ v. r.mul v x) (L.add_zero r.one) ∙ one_mul r L x

    times_add : (m n : ℕ) (x : E) → times (m + n) x ≡ r.add (times m x) (times n x)
    times_add m n x = ap (λ v. r.mul v x) (of_nat_add r L m n) ∙ add_mul r L (of_nat r m) (of_nat r n) x

    -- the sum of the terms at one place alone
    one_place : (g : ℕ → E) (n j : ℕ) → j < n → total_of r n (λ i. times (cond {A = ℕ} (j == i) 1 0) (g i)) ≡ g j
    one_place g n j h =
        let t : ℕ → E = λ i. times (cond {A = ℕ} (j == i) 1 0) (g i) in
        let others : (i : ℕ) → i < n → i ≢ j → t i ≡ r.zero = λ i l differ.
        let no : cond {A = ℕ} (j == i) 1 0 ≡ 0 = grind (arith, nat_tests) in
        ap (λ k. times k (g i)) no ∙ times_none (g i) in
        let yes : cond {A = ℕ} (j == j) 1 0 ≡ 1 = grind (arith, nat_tests) in
        total_only r L n j t h others ∙ (ap (λ k. times k (g j)) yes ∙ times_once (g j))

    -- a sum over a list of places below n takes each term as often as its place is listed
    counted : (g : ℕ → E) (n : ℕ) (is : List ℕ) → All (λ i. i < n) is
        → sum_over g is ≡ total_of r n (λ i. times (count_by (λ j. j == i) is) (g i))
    counted g n [] h = sym (total_zero r L n (λ i. times 0 (g i)) (λ i l. times_none (g i)))
    counted g n (j ∷ is) h =
        let rest : ℕ → E = λ i. times (count_by (λ k. k == i) is) (g i) in
        let here : ℕ → E = λ i. times (cond {A = ℕ} (j == i) 1 0) (g i) in
        let apart : total_of r n (λ i. times (count_by (λ k. k == i) (j ∷ is)) (g i)) ≡ total_of r n (λ i. r.add (here i) (rest i)) =
        total_same r L n (λ i. times (count_by (λ k. k == i) (j ∷ is)) (g i)) (λ i. r.add (here i) (rest i)) (λ i l. ap (λ m. times m (g i)) (listed_more i j is) ∙ times_add (cond {A = ℕ} (j == i) 1 0) (count_by (λ k. k == i) is) (g i)) in
        (λ k. r.add (sym (one_place g n j (All-head (λ i. i < n) j is h)) k) (counted g n is (All-tail (λ i. i < n) j is h) k))
        ∙ (sym (total_add r L n here rest) ∙ sym apart)

    -- the fold as a sum over the places in order
    fold_total : (a : E) (cs : List E) → fold r a cs ≡ total_of r (length cs) (term a (length cs) cs)
    unfolding fold
    fold_total a [] = refl
    fold_total a (c ∷ cs) =
        let n = length cs in
        let first : suc n - 1 - 0 ≡ n = omega arith in
        let later : total_of r n (λ i. term a (suc n) (c ∷ cs) (suc i)) ≡ total_of r n (term a n cs) =
        total_same r L n (λ i. term a (suc n) (c ∷ cs) (suc i)) (term a n cs)
        (λ i l. let at : suc n - 1 - suc i ≡ n - 1 - i = omega arith in ap (λ k. r.mul (pow r a k) (get_or cs i r.zero)) at) in
        (λ k. r.add (r.mul (pow r a (sym first k)) c) (fold_total a cs k)) ∙ ap (r.add (r.mul (pow r a (suc n - 1 - 0)) c)) (sym later)

    pub folds_by_kinds : FoldsByKinds r
    folds_by_kinds a p cs long once =
        let n = place_count p in
        let g : ℕ → E = term a n cs in
        let both : r.add (weighed r (folding_powers r a n p.base_indices) (items_at r cs p.base_indices)) (weighed r (folding_powers r a n p.ext_indices) (items_at r cs p.ext_indices)) ≡ r.add (sum_over g p.base_indices) (sum_over g p.ext_indices) =
        (λ k. r.add (weighed_over a n cs p.base_indices k) (weighed_over a n cs p.ext_indices k)) in
        let each : total_of r n (λ i. times (count_by (λ j. j == i) (p.base_indices ++ p.ext_indices)) (g i)) ≡ total_of r n g =
        total_same r L n (λ i. times (count_by (λ j. j == i) (p.base_indices ++ p.ext_indices)) (g i)) g (λ i l. ap (λ k. times k (g i)) (once.once i l) ∙ times_once (g i)) in
        let whole : total_of r n g ≡ fold r a cs = ap (λ m. total_of r m (term a m cs)) (sym long) ∙ sym (fold_total a cs) in
        both
        ∙ (sym (sum_over-append g p.base_indices p.ext_indices)
        ∙ (counted g n (p.base_indices ++ p.ext_indices) once.below
        ∙ (each ∙ whole)))
