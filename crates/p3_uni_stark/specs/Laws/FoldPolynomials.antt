-- Folds as values of polynomials: at a point, of the folded polynomials; at the challenge, of the values as coefficients.
use Rattle.std.proofs.Common.{◌≡◌, ℕ, zero, suc, ◌-◌, ◌<◌, List, [], ◌∷◌, length, get_or, map, refl, sym, ◌∙◌, ap, arith}
use Rattle.std.specs.Prelude.{reverse}
use Rattle.std.specs.List.{All}
use Rattle.std.proofs.lemmas.List.{length-map, length-reverse, reverse-append, get_or-reverse}
use Rattle.p3_field.specs.Ring.{Ring, RingLaws, pow}
use Rattle.p3_field.specs.Poly.{eval_poly, DegreeBelow, IsZeroPoly, scale_poly}
use Rattle.p3_field.specs.Laws.Algebra.{mul_zero}
use Rattle.p3_field.specs.Laws.Coeffs.{degree_add, degree_scale}
use Rattle.p3_field.specs.Laws.Values.{eval_add, eval_append, eval_scale}
use Rattle.air_core.specs.CellValues.{CellValues, reading_at, map_values, poly_reading}
use Rattle.air_core.specs.Laws.CellValues.{value_at_point}
use Rattle.air_core.specs.Tree.{Tree, eval_tree}
use Rattle.p3_uni_stark.specs.Fold.{fold}
use Rattle.p3_uni_stark.specs.FoldPolynomials.{fold_poly}

module _ {E : Type 0} (r : Ring E) (L : RingLaws r) where
  -- the value of a fold of polynomials is the fold of their values
  pub fold_value : (a : E) (ps : List (List E)) (x : E) → eval_poly r (fold_poly r a ps) x ≡ fold r a (map (λ p. eval_poly r p x) ps)
  unfolding fold_poly fold
  fold_value a [] x = refl
  fold_value a (p ∷ ps) x =
      let w = pow r a (length ps) in
      let long : length ps ≡ length (map (λ q. eval_poly r q x) ps) = sym (length-map ps (λ (q : List E). eval_poly r q x)) in
      eval_add r L (scale_poly r w p) (fold_poly r a ps) x
      ∙ (λ i. r.add ((eval_scale r L w p x ∙ ap (λ n. r.mul (pow r a n) (eval_poly r p x)) long) i) (fold_value a ps x i))

  -- it has no greater degree than they
  pub fold_degree : (a : E) (n : ℕ) (ps : List (List E)) → All (DegreeBelow r n) ps → DegreeBelow r n (fold_poly r a ps)
  unfolding fold_poly
  fold_degree a n [] h = λ i k. refl
  fold_degree a n (p ∷ ps) h =
      degree_add r L n (scale_poly r (pow r a (length ps)) p) (fold_poly r a ps)
      (degree_scale r L n (pow r a (length ps)) p (h zero [] (omega arith)))
      (fold_degree a n ps (λ i d l. h (suc i) d (omega (arith, l))))

  -- the trees' values at the polynomials' values
  tree_values : {F : Type 0} (embed : F → E) (v : CellValues (List E)) (x : E) (ts : List (Tree F))
      → map (λ p. eval_poly r p x) (map (eval_tree (poly_reading r embed v)) ts) ≡ map (eval_tree (reading_at r embed (map_values (λ p. eval_poly r p x) v))) ts
  tree_values embed v x [] = refl
  tree_values embed v x (t ∷ ts) = λ i. value_at_point r L embed v x t i ∷ tree_values embed v x ts i

  -- the fold of constraints at a point is the value there of the fold of their polynomials
  pub fold_of_trees : {F : Type 0} (embed : F → E) (v : CellValues (List E)) (a x : E) (ts : List (Tree F))
      → eval_poly r (fold_poly r a (map (eval_tree (poly_reading r embed v)) ts)) x ≡ fold r a (map (eval_tree (reading_at r embed (map_values (λ p. eval_poly r p x) v))) ts)
  fold_of_trees embed v a x ts = fold_value a (map (eval_tree (poly_reading r embed v)) ts) x ∙ ap (fold r a) (tree_values embed v x ts)

  -- a fold is the value at the challenge of the polynomial with these coefficients, the last first
  pub fold_at_challenge : (a : E) (cs : List E) → fold r a cs ≡ eval_poly r (reverse cs) a
  unfolding fold
  fold_at_challenge a [] = refl
  fold_at_challenge a (c ∷ cs) =
      let w = pow r a (length cs) in
      let last : r.add c (r.mul a r.zero) ≡ c = ap (r.add c) (mul_zero r L a) ∙ L.add_zero c in
      ap (r.add (r.mul w c)) (fold_at_challenge a cs)
      ∙ (L.add_comm (r.mul w c) (eval_poly r (reverse cs) a)
      ∙ ((λ i. r.add (eval_poly r (reverse cs) a) (r.mul (pow r a (sym (length-reverse cs) i)) (sym last i)))
      ∙ (sym (eval_append r L (reverse cs) (c ∷ []) a) ∙ ap (λ g. eval_poly r g a) (sym (reverse-append (c ∷ []) cs)))))

  -- which is zero only where all values are
  pub zero_values : (cs : List E) → IsZeroPoly r (reverse cs) → All (λ c. c ≡ r.zero) cs
  zero_values cs z i d h =
      let n = length cs - 1 - i in
      let back : length cs - 1 - n ≡ i = omega (arith, h) in
      let inside : n < length cs = omega (arith, h) in
      any_default cs i d r.zero h ∙ (ap (λ k. get_or cs k r.zero) (sym back) ∙ (sym (get_or-reverse cs n r.zero inside) ∙ z n))
    where
      any_default : (xs : List E) (i : ℕ) (d e : E) → i < length xs → get_or xs i d ≡ get_or xs i e
      any_default [] i d e h = absurd (omega (arith, h))
      any_default (x ∷ xs) zero d e h = refl
      any_default (x ∷ xs) (suc i) d e h = any_default xs i d e (omega (arith, h))
