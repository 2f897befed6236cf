-- Degrees of the constraints of lookups: those of a fraction don't depend on its number, and one of more tuples has at least the degree
-- of one of fewer; those of the running sum don't depend on how many fractions there are.
use Rattle.std.proofs.Common.{◌≡◌, ℕ, zero, suc, ◌+◌, ◌-◌, ◌*◌, ◌^◌, ◌≤◌, Bool, true, false, List, [], ◌∷◌, ◌++◌, length, map, max, min, refl, sym, ◌∙◌, ap, subst, arith}
use Rattle.std.proofs.lemmas.List.{map-append}
use Rattle.p3_field.specs.Ring.{Ring}
use Rattle.p3_field.specs.Poly.{eval_poly}
use Rattle.air_core.specs.declared.cells.Cell.{Cell}
use Rattle.air_core.specs.declared.cells.Cell.TheVariants.{FirstRow, LastRow, Transition}
use Rattle.air_core.specs.declared.cells.Count.{Count}
use Rattle.air_core.specs.declared.cells.ExtCell.{ExtCell}
use Rattle.air_core.specs.declared.cells.ExtCell.TheVariants.{Permutation, Challenge, Terminal}
use Rattle.air_core.specs.Degree.{capped_sum, degree}
use Rattle.air_core.specs.Tree.{Tree}
use Rattle.p3_lookup.specs.Lookup.{LookupData, HasCountForEach, Sent, pair_up, sent}
use Rattle.p3_lookup.specs.Packing.{merged}
use Rattle.p3_lookup.specs.Term.{Term, common, numerator}
use Rattle.p3_lookup.specs.Trees.{trees, base_tree, beta_tree, term_tree, term_trees, fraction_tree, sum_tree, transition_tree, last_tree, running_trees}

-- the degree of a cell of the extension doesn't depend on its number, nor on the row that it is read in
pub record HasOneDegree (g : ExtCell → ℕ) : Type 0 where
  pub challenge : (i j : ℕ) → g (Challenge i) ≡ g (Challenge j)
  pub column : (next other : Bool) (i j : ℕ) → g (Permutation next i) ≡ g (Permutation other j)

-- the tuples of two lists with their counts, list after list
pair_up-append : {F : Type 0} (ts us : List (List (Tree F))) (cs ds : List (Count (Tree F))) → length cs ≡ length ts → pair_up (ts ++ us) (cs ++ ds) ≡ pair_up ts cs ++ pair_up us ds
pair_up-append [] us [] ds h = refl
pair_up-append [] us (c ∷ cs) ds h = absurd (omega (arith, h))
pair_up-append (t ∷ ts) us [] ds h = absurd (omega (arith, h))
pair_up-append {F = F} (t ∷ ts) us (c ∷ cs) ds h = ap (λ (l : List (Sent (Tree F))). record { tuple = t; count = c.value } ∷ l) (pair_up-append ts us cs ds (omega (arith, h)))

-- sums that stop at M
grows_left : (M d a b : ℕ) → a ≤ b → min (d + a) M ≤ min (d + b) M
grows_left M d a b h = omega (arith, h)

grows_right : (M d a b : ℕ) → a ≤ b → b ≤ M → a ≤ min (d + b) M
grows_right M d a b h l = omega (arith, h, l)

grows_both : (M c d x y u v : ℕ) → x ≤ u → y ≤ v → max (min (c + x) M) (min (d + y) M) ≤ max (min (c + u) M) (min (d + v) M)
grows_both M c d x y u v h l = omega (arith, h, l)

within_both : (M c d x y : ℕ) → max (min (c + x) M) (min (d + y) M) ≤ M
within_both M c d x y = omega arith

grows_past : (M c d x y v : ℕ) → y ≤ v → v ≤ M → y ≤ max (min (c + x) M) (min (d + v) M)
grows_past M c d x y v h l = omega (arith, h, l)

module _ {F : Type 0} (r : Ring F) (f : Cell → ℕ) (g : ExtCell → ℕ) where
  -- the common denominator and the numerator of some terms, and of these after others
  common_within : (ts : List (Term (Tree F))) → degree f g (common (trees r) ts) ≤ 2 ^ 64 - 1
  common_within [] = omega arith
  common_within (t ∷ ts) = omega arith

  common_left : (ts us : List (Term (Tree F))) → degree f g (common (trees r) ts) ≤ degree f g (common (trees r) (ts ++ us))
  common_left [] us = omega arith
  common_left (t ∷ ts) us = grows_left (2 ^ 64 - 1) (degree f g t.denominator) _ _ (common_left ts us)

  common_right : (ts us : List (Term (Tree F))) → degree f g (common (trees r) us) ≤ degree f g (common (trees r) (ts ++ us))
  common_right [] us = omega arith
  common_right (t ∷ ts) us = grows_right (2 ^ 64 - 1) (degree f g t.denominator) _ _ (common_right ts us) (common_within (ts ++ us))

  numerator_within : (ts : List (Term (Tree F))) → degree f g (numerator (trees r) ts) ≤ 2 ^ 64 - 1
  numerator_within [] = omega arith
  numerator_within (t ∷ ts) = within_both (2 ^ 64 - 1) (degree f g t.count) (degree f g t.denominator) _ _

  numerator_left : (ts us : List (Term (Tree F))) → degree f g (numerator (trees r) ts) ≤ degree f g (numerator (trees r) (ts ++ us))
  numerator_left [] us = omega arith
  numerator_left (t ∷ ts) us = grows_both (2 ^ 64 - 1) (degree f g t.count) (degree f g t.denominator) _ _ _ _ (common_left ts us) (numerator_left ts us)

  numerator_right : (ts us : List (Term (Tree F))) → degree f g (numerator (trees r) us) ≤ degree f g (numerator (trees r) (ts ++ us))
  numerator_right [] us = omega arith
  numerator_right (t ∷ ts) us =
      grows_past (2 ^ 64 - 1) (degree f g t.count) (degree f g t.denominator) (degree f g (common (trees r) (ts ++ us))) _ _ (numerator_right ts us) (numerator_within (ts ++ us))

  -- a merged lookup's fraction has at least the degree of each part's
  terms_of_merged : (n : ℕ) (k l : LookupData F) → HasCountForEach k → term_trees r n (merged k l) ≡ term_trees r n k ++ term_trees r n l
  terms_of_merged n k l h =
      let term = term_tree r (base_tree n) (beta_tree n) in
      ap (λ (ss : List (Sent (Tree F))). map term ss) (pair_up-append k.tuples l.tuples k.counts l.counts h) ∙ map-append term (sent k) (sent l)

  fraction_bounds : ℕ → LookupData F → ℕ → List (Term (Tree F)) → Type 0
  fraction_bounds n l b ts = b ≤ max (capped_sum (g (Permutation false (n + 1))) (degree f g (common (trees r) ts))) (degree f g (numerator (trees r) ts))

  pub merged_left : (n : ℕ) (k l : LookupData F) → HasCountForEach k → degree f g (fraction_tree r n k) ≤ degree f g (fraction_tree r n (merged k l))
  unfolding fraction_bounds
  merged_left n k l h =
      let ts = term_trees r n k in
      let us = term_trees r n l in
      let p = grows_left (2 ^ 64 - 1) (g (Permutation false (n + 1))) _ _ (common_left ts us) in
      let q = numerator_left ts us in
      subst (fraction_bounds n l (degree f g (fraction_tree r n k))) (sym (terms_of_merged n k l h)) (omega (arith, p, q))

  pub merged_right : (n : ℕ) (k l : LookupData F) → HasCountForEach k → degree f g (fraction_tree r n l) ≤ degree f g (fraction_tree r n (merged k l))
  unfolding fraction_bounds
  merged_right n k l h =
      let ts = term_trees r n k in
      let us = term_trees r n l in
      let p = grows_left (2 ^ 64 - 1) (g (Permutation false (n + 1))) _ _ (common_right ts us) in
      let q = numerator_right ts us in
      subst (fraction_bounds n l (degree f g (fraction_tree r n l))) (sym (terms_of_merged n k l h)) (omega (arith, p, q))

  module _ (N : HasOneDegree g) where
    -- the number of a fraction
    tuple_numbered : (n m : ℕ) (ts : List (Tree F)) → degree f g (eval_poly (trees r) ts (beta_tree n)) ≡ degree f g (eval_poly (trees r) ts (beta_tree m))
    tuple_numbered n m [] = refl
    tuple_numbered n m (t ∷ ts) = λ i. max (degree f g t) (capped_sum (N.challenge (2 * n + 1) (2 * m + 1) i) (tuple_numbered n m ts i))

    common_numbered : (n m : ℕ) (ss : List (Sent (Tree F)))
        → degree f g (common (trees r) (map (term_tree r (base_tree n) (beta_tree n)) ss)) ≡ degree f g (common (trees r) (map (term_tree r (base_tree m) (beta_tree m)) ss))
    common_numbered n m [] = refl
    common_numbered n m (s ∷ ss) = λ i. capped_sum (max (N.challenge (2 * n) (2 * m) i) (tuple_numbered n m s.tuple i)) (common_numbered n m ss i)

    numerator_numbered : (n m : ℕ) (ss : List (Sent (Tree F)))
        → degree f g (numerator (trees r) (map (term_tree r (base_tree n) (beta_tree n)) ss)) ≡ degree f g (numerator (trees r) (map (term_tree r (base_tree m) (beta_tree m)) ss))
    numerator_numbered n m [] = refl
    numerator_numbered n m (s ∷ ss) = λ i.
        max (capped_sum (degree f g s.count) (common_numbered n m ss i))
        (capped_sum (max (N.challenge (2 * n) (2 * m) i) (tuple_numbered n m s.tuple i)) (numerator_numbered n m ss i))

    pub fraction_numbered : (n m : ℕ) (l : LookupData F) → degree f g (fraction_tree r n l) ≡ degree f g (fraction_tree r m l)
    fraction_numbered n m l = λ i. max (capped_sum (N.column false false (n + 1) (m + 1) i) (common_numbered n m (sent l) i)) (numerator_numbered n m (sent l) i)

    -- the number of fractions
    sum_within : (n : ℕ) → degree f g (sum_tree r n) ≤ g (Permutation false 0)
    sum_within zero = omega arith
    sum_within (suc n) = let e = N.column false false (suc n) 0 in let rest = sum_within n in omega (arith, e, rest)

    transition_counted : (n m : ℕ) → degree f g (transition_tree r n) ≡ degree f g (transition_tree r m)
    transition_counted n m =
        let a = sum_within n in
        let b = sum_within m in
        let same : max (max (g (Permutation true 0)) (g (Permutation false 0))) (degree f g (sum_tree r n)) ≡ max (max (g (Permutation true 0)) (g (Permutation false 0))) (degree f g (sum_tree r m)) = omega (arith, a, b) in
        ap (λ d. capped_sum (f Transition) d) same

    last_counted : (n m : ℕ) → degree f g (last_tree r n) ≡ degree f g (last_tree r m)
    last_counted n m =
        let a = sum_within n in
        let b = sum_within m in
        let same : max (max (g Terminal) (g (Permutation false 0))) (degree f g (sum_tree r n)) ≡ max (max (g Terminal) (g (Permutation false 0))) (degree f g (sum_tree r m)) = omega (arith, a, b) in
        ap (λ d. capped_sum (f LastRow) d) same

    pub running_counted : (n m : ℕ) → map (degree f g) (running_trees r n) ≡ map (degree f g) (running_trees r m)
    running_counted n m = λ i. capped_sum (f FirstRow) (g (Permutation false 0)) ∷ transition_counted n m i ∷ last_counted n m i ∷ []
