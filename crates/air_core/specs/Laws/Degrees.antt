-- Degrees of trees: without the stop, as those of the trees' polynomials, and of declared columns.
use Rattle.std.proofs.Common.{◌≡◌, ℕ, suc, ◌+◌, ◌-◌, ◌^◌, ◌<◌, ◌≤◌, inl, inr, true, false, refl, sym, subst, arith}
use Rattle.std.proofs.Common.{List, [], ◌∷◌, length, get_or, map}
use Rattle.std.specs.Prelude.{max}
use Rattle.std.specs.List.{All}
use Rattle.std.proofs.Math.ListN.{get_or-eq_default}
use Rattle.std.proofs.lemmas.Bool.{cases_lt}
use Rattle.std.proofs.lemmas.List.{length-map}
use Rattle.p3_field.specs.Ring.{Ring, RingLaws}
use Rattle.p3_field.specs.Poly.{DegreeBelow, mul_poly}
use Rattle.p3_field.specs.Laws.Coeffs.{degree_add, degree_sub, degree_mul, degree_more, degree_length}
use Rattle.air_core.specs.declared.cells.Cell.{Cell}
use Rattle.air_core.specs.declared.cells.Cell.TheVariants.{Main, Preprocessed, Periodic, Public, FirstRow, LastRow, Transition}
use Rattle.air_core.specs.declared.cells.ExtCell.{ExtCell}
use Rattle.air_core.specs.declared.cells.ExtCell.TheVariants.{Permutation, Challenge, Terminal}
use Rattle.air_core.specs.CellValues.{CellValues, cell_in, ext_cell_in, poly_reading, HaveDegrees}
use Rattle.air_core.specs.Degree.{degree, full_degree, cell_degree, ext_degree, polynomial_degree, HasPeriod}
use Rattle.air_core.specs.Laws.Maps.{reads_all, reads_more}
use Rattle.air_core.specs.Shape.{Shape, Declaration, Declares, DeclaresExt, ReadsIn, ReadsDeclared, declared_shape}
use Rattle.air_core.specs.Tree.{Tree, eval_tree, constant, cell, ext_cell, sum, difference, product}

-- a degree below the stop is the full one
pub degree_is_full : {F : Type 0} (f : Cell → ℕ) (g : ExtCell → ℕ) (t : Tree F)
    → degree f g t < 2 ^ 64 - 1 → degree f g t ≡ full_degree f g t
degree_is_full f g (constant x) h = refl
degree_is_full f g (cell c) h = refl
degree_is_full f g (ext_cell c) h = refl
degree_is_full f g (sum x y) h = λ i. max (degree_is_full f g x (omega (arith, h)) i) (degree_is_full f g y (omega (arith, h)) i)
degree_is_full f g (difference x y) h = λ i. max (degree_is_full f g x (omega (arith, h)) i) (degree_is_full f g y (omega (arith, h)) i)
degree_is_full f g (product x y) h =
    let a = degree_is_full f g x (omega (arith, h)) in
    let b = degree_is_full f g y (omega (arith, h)) in
    omega (arith, h, a, b)

has_period : (s : Shape) (periods : List ℕ) → s.periodic ≤ length periods → (c : Cell) → Declares s c → HasPeriod periods c
has_period s periods h (Main next column) d = tt
has_period s periods h (Preprocessed next column) d = tt
has_period s periods h (Periodic i) d = omega (arith, d, h)
has_period s periods h (Public i) d = tt
has_period s periods h FirstRow d = tt
has_period s periods h LastRow d = tt
has_period s periods h Transition d = tt

-- a tree that reads declared cells alone reads no periodic column without a period
pub declared_have_periods : {F : Type 0} (s : Shape) (periods : List ℕ) (t : Tree F)
    → s.periodic ≤ length periods → ReadsDeclared s t → ReadsIn (HasPeriod periods) (λ _. Unit {0}) t
declared_have_periods s periods t h d =
    reads_more (Declares s) (HasPeriod periods) (DeclaresExt s) (λ _. Unit {0}) (has_period s periods h) (λ c q. tt) t d

-- and so where an AIR declares them
pub air_has_periods : {F : Type 0} (d : Declaration F) (t : Tree F)
    → ReadsDeclared (declared_shape d) t → ReadsIn (HasPeriod (map length d.periodic)) (λ _. Unit {0}) t
air_has_periods {F = F} d t h =
    declared_have_periods (declared_shape d) (map length d.periodic) t
    (let e = length-map d.periodic (λ (c : List F). length c) in omega (arith, e)) h

module _ {E : Type 0} (r : Ring E) (L : RingLaws r) where
  -- a tree on polynomials is a polynomial of at most its degree
  pub tree_degree : {F : Type 0} (embed : F → E) (v : CellValues (List E)) (f : Cell → ℕ) (g : ExtCell → ℕ) (t : Tree F)
      → ReadsIn (λ c. DegreeBelow r (suc (f c)) (cell_in [] v c)) (λ c. DegreeBelow r (suc (g c)) (ext_cell_in [] v c)) t
      → DegreeBelow r (suc (full_degree f g t)) (eval_tree (poly_reading r embed v) t)
  tree_degree embed v f g (constant x) h = degree_length r L (embed x ∷ [])
  tree_degree embed v f g (cell c) h = h
  tree_degree embed v f g (ext_cell c) h = h
  tree_degree embed v f g (sum x y) h =
      let p = eval_tree (poly_reading r embed v) x in let q = eval_tree (poly_reading r embed v) y in
      let m = full_degree f g x in let n = full_degree f g y in
      degree_add r L (suc (max m n)) p q
      (degree_more r L (suc m) (suc (max m n)) p (omega arith) (tree_degree embed v f g x h.0))
      (degree_more r L (suc n) (suc (max m n)) q (omega arith) (tree_degree embed v f g y h.1))
  tree_degree embed v f g (difference x y) h =
      let p = eval_tree (poly_reading r embed v) x in let q = eval_tree (poly_reading r embed v) y in
      let m = full_degree f g x in let n = full_degree f g y in
      degree_sub r L (suc (max m n)) p q
      (degree_more r L (suc m) (suc (max m n)) p (omega arith) (tree_degree embed v f g x h.0))
      (degree_more r L (suc n) (suc (max m n)) q (omega arith) (tree_degree embed v f g y h.1))
  tree_degree embed v f g (product x y) h =
      let p = eval_tree (poly_reading r embed v) x in let q = eval_tree (poly_reading r embed v) y in
      let m = full_degree f g x in let n = full_degree f g y in
      degree_more r L (suc m + n) (suc (m + n)) (mul_poly r p q) (omega arith)
      (degree_mul r L (suc m) n p q (tree_degree embed v f g x h.0) (tree_degree embed v f g y h.1))

  -- an item of polynomials that all have degree below n, also past the end
  item_degree : (n m : ℕ) (ps : List (List E)) (i : ℕ) → n ≤ m → All (DegreeBelow r n) ps → DegreeBelow r m (get_or ps i [])
  item_degree n m ps i more h = elim (cases_lt i (length ps)) [
    | inl a ↦ degree_more r L n m (get_or ps i []) more (h i [] a)
    | inr a ↦ subst (DegreeBelow r m) (sym (get_or-eq_default ps [] a)) (λ k l. refl)
  ]

  module _ (n : ℕ) (periods : List ℕ) (v : CellValues (List E)) (H : HaveDegrees r n periods v) where
    one_more : n ≤ suc (n - 1)
    one_more = omega arith

    -- each cell's polynomial has at most the cell's degree
    pub cell_polynomial : (c : Cell) → DegreeBelow r (suc (cell_degree n periods c)) (cell_in [] v c)
    cell_polynomial (Main true column) = item_degree n (suc (n - 1)) v.main_next column one_more H.main_next
    cell_polynomial (Main false column) = item_degree n (suc (n - 1)) v.main_local column one_more H.main_local
    cell_polynomial (Preprocessed true column) = item_degree n (suc (n - 1)) v.preprocessed_next column one_more H.preprocessed_next
    cell_polynomial (Preprocessed false column) = item_degree n (suc (n - 1)) v.preprocessed_local column one_more H.preprocessed_local
    cell_polynomial (Periodic i) = elim (cases_lt i (length v.periodic)) [
      | inl a ↦ H.periodic i a
      | inr a ↦ subst (DegreeBelow r (suc (cell_degree n periods (Periodic i)))) (sym (get_or-eq_default v.periodic [] a)) (λ k l. refl)
    ]
    cell_polynomial (Public i) = item_degree 1 1 v.public_values i (omega arith) H.public_values
    cell_polynomial FirstRow = degree_more r L n (suc (n - 1)) v.first_row one_more H.first_row
    cell_polynomial LastRow = degree_more r L n (suc (n - 1)) v.last_row one_more H.last_row
    cell_polynomial Transition = H.transition

    pub ext_cell_polynomial : (c : ExtCell) → DegreeBelow r (suc (ext_degree n c)) (ext_cell_in [] v c)
    ext_cell_polynomial (Permutation true column) = item_degree n (suc (n - 1)) v.permutation_next column one_more H.permutation_next
    ext_cell_polynomial (Permutation false column) = item_degree n (suc (n - 1)) v.permutation_local column one_more H.permutation_local
    ext_cell_polynomial (Challenge i) = item_degree 1 1 v.challenges i (omega arith) H.challenges
    ext_cell_polynomial Terminal = item_degree 1 1 v.terminals 0 (omega arith) H.terminals

    -- and a tree's has at most the tree's, where that doesn't stop
    pub polynomial_of_degree : {F : Type 0} (embed : F → E) (t : Tree F) → polynomial_degree n periods t < 2 ^ 64 - 1
        → DegreeBelow r (suc (polynomial_degree n periods t)) (eval_tree (poly_reading r embed v) t)
    polynomial_of_degree embed t below =
        subst (λ d. DegreeBelow r (suc d) (eval_tree (poly_reading r embed v) t)) (sym (degree_is_full (cell_degree n periods) (ext_degree n) t below))
        (tree_degree embed v (cell_degree n periods) (ext_degree n) t
        (reads_all (λ c. DegreeBelow r (suc (cell_degree n periods c)) (cell_in [] v c))
        (λ c. DegreeBelow r (suc (ext_degree n c)) (ext_cell_in [] v c))
        cell_polynomial ext_cell_polynomial t))
