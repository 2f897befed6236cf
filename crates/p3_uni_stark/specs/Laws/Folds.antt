-- Values folded one by one, and the fold of a list.
use Rattle.std.proofs.Common.{◌≡◌, ℕ, zero, suc, ◌+◌, ◌-◌, List, [], ◌∷◌, ◌++◌, length, refl, sym, ◌∙◌, ap, arith}
use Rattle.air_core.specs.Layout.{folding_powers}
use Rattle.p3_field.specs.Ring.{Ring, RingLaws, pow}
use Rattle.p3_field.specs.Poly.{tabulate}
use Rattle.p3_field.specs.Laws.Tabulate.{tabulate_same}
use Rattle.p3_field.specs.Laws.Algebra.{zero_add, zero_mul, add_mul}
use Rattle.p3_uni_stark.specs.Fold.{fold, fold_powers, fold_from, weighed, Sum, added_to, weighed_from}

module _ {E : Type 0} (r : Ring E) where
  -- a list folded after another
  pub fold_after : (a s : E) (xs ys : List E) → fold_from r a (fold_from r a s xs) ys ≡ fold_from r a s (xs ++ ys)
  fold_after a s [] ys = refl
  fold_after a s (x ∷ xs) ys = fold_after a (r.add (r.mul s a) x) xs ys

  pub weighed_after : (s : Sum E) (xs ys : List E) → weighed_from r (weighed_from r s xs) ys ≡ weighed_from r s (xs ++ ys)
  weighed_after s [] ys = refl
  weighed_after s (x ∷ xs) ys = weighed_after (added_to r s.left s.total x) xs ys

  powers_from : (a : E) (k m n : ℕ) → n ≡ k + m → folding_powers r a n (tabulate m (λ i. k + i)) ≡ fold_powers r a m
  unfolding fold_powers
  powers_from a k zero n e = refl
  powers_from a k (suc m) n e =
      let here : n - 1 - (k + zero) ≡ m = omega (arith, e) in
      let next : n ≡ suc k + m = omega (arith, e) in
      let later : tabulate m (λ i. k + suc i) ≡ tabulate m (λ i. suc k + i) = tabulate_same m (λ i. k + suc i) (λ i. suc k + i) (λ i h. omega arith) in
      let rest : folding_powers r a n (tabulate m (λ i. k + suc i)) ≡ fold_powers r a m = ap (folding_powers r a n) later ∙ powers_from a (suc k) m n next in
      cc (ap (pow r a) here, rest)

  -- the powers of all n constraints, by their places in order, are the weights of their fold
  pub powers_in_order : (a : E) (n : ℕ) → folding_powers r a n (tabulate n (λ i. i)) ≡ fold_powers r a n
  powers_in_order a n =
      let places : tabulate n (λ i. i) ≡ tabulate n (λ i. zero + i) = tabulate_same n (λ i. i) (λ i. zero + i) (λ i h. omega arith) in
      ap (folding_powers r a n) places ∙ powers_from a 0 n n (omega arith)

  module _ (L : RingLaws r) where
    -- s a^n and the fold of n values
    pub fold_from_is : (a s : E) (xs : List E) → fold_from r a s xs ≡ r.add (r.mul s (pow r a (length xs))) (fold r a xs)
    unfolding fold pow
    fold_from_is a s [] = cc (L.mul_one s, L.add_zero s)
    fold_from_is a s (x ∷ xs) =
        let p = pow r a (length xs) in
        let f = fold r a xs in
        fold_from_is a (r.add (r.mul s a) x) xs
        ∙ (ap (λ v. r.add v f) (add_mul r L (r.mul s a) x p)
        ∙ (L.add_assoc (r.mul (r.mul s a) p) (r.mul x p) f
        ∙ (λ i. r.add (L.mul_assoc s a p i) (r.add (L.mul_comm x p i) f))))

    -- from zero it is the fold
    pub fold_from_zero : (a : E) (xs : List E) → fold_from r a r.zero xs ≡ fold r a xs
    fold_from_zero a xs = fold_from_is a r.zero xs ∙ (ap (λ v. r.add v (fold r a xs)) (zero_mul r L (pow r a (length xs))) ∙ zero_add r L (fold r a xs))

    weighed_none : (cs : List E) → weighed r [] cs ≡ r.zero
    weighed_none [] = refl
    weighed_none (c ∷ cs) = refl

    -- what the weights and values make is added to the sum
    pub weighed_total : (ws : List E) (t : E) (xs : List E) → (weighed_from r (record { left = ws; total = t }) xs).total ≡ r.add t (weighed r ws xs)
    weighed_total ws t [] = sym (L.add_zero t)
    weighed_total [] t (x ∷ xs) = weighed_total [] t xs ∙ ap (r.add t) (weighed_none xs)
    weighed_total (w ∷ ws) t (x ∷ xs) = weighed_total ws (r.add t (r.mul w x)) xs ∙ L.add_assoc t (r.mul w x) (weighed r ws xs)

    -- from zero it is the weighed sum
    pub weighed_zero : (ws xs : List E) → (weighed_from r (record { left = ws; total = r.zero }) xs).total ≡ weighed r ws xs
    weighed_zero ws xs = weighed_total ws r.zero xs ∙ zero_add r L (weighed r ws xs)

    weighed_is : (a t : E) (xs : List E) → (weighed_from r (record { left = fold_powers r a (length xs); total = t }) xs).total ≡ r.add t (fold r a xs)
    unfolding fold fold_powers
    weighed_is a t [] = sym (L.add_zero t)
    weighed_is a t (x ∷ xs) =
        let v = r.mul (pow r a (length xs)) x in
        weighed_is a (r.add t v) xs ∙ L.add_assoc t v (fold r a xs)

    -- from zero and the powers in order it is the fold
    pub weighed_fold : (a : E) (xs : List E) → (weighed_from r (record { left = fold_powers r a (length xs); total = r.zero }) xs).total ≡ fold r a xs
    weighed_fold a xs = weighed_is a r.zero xs ∙ zero_add r L (fold r a xs)
