-- Degrees stop at the greatest usize, so that a budget may stop there too.
use Rattle.std.proofs.Common.{◌≡◌, ℕ, ◌-◌, ◌^◌, ◌≤◌, Bool, ◌&&◌, cond, min, max, List, [], ◌∷◌, map, inl, inr, refl, ◌∙◌, ap, arith}
use Rattle.std.specs.Prelude.{nat_le}
use Rattle.std.proofs.lemmas.Bool.{cases_lt}
use Rattle.std.proofs.lemmas.List.Elements.{All-map}
use Rattle.p3_field.specs.Ring.{Ring}
use Rattle.air_core.specs.declared.cells.Cell.{Cell}
use Rattle.air_core.specs.declared.cells.Cell.TheVariants.{Main, Preprocessed, Periodic, Public, FirstRow, LastRow, Transition}
use Rattle.air_core.specs.declared.cells.ExtCell.{ExtCell}
use Rattle.air_core.specs.declared.cells.ExtCell.TheVariants.{Permutation, Challenge, Terminal}
use Rattle.air_core.specs.Degree.{multiple, cell_multiple, ext_multiple}
use Rattle.air_core.specs.Tree.{Tree, constant, cell, ext_cell, sum, difference, product}
use Rattle.p3_lookup.specs.Lookup.{LookupData}
use Rattle.p3_lookup.specs.Packing.{lookup_degree, merged, same_name, takes_in, with_lookup, packed_onto, packed}
use Rattle.p3_lookup.specs.Trees.{lookup_trees}
use Rattle.air_core.specs.Laws.Greatest.{greatest_below}

cell_small : (c : Cell) → cell_multiple 0 c ≤ 2 ^ 64 - 1
cell_small (Main next column) = omega arith
cell_small (Preprocessed next column) = omega arith
cell_small (Periodic n) = omega arith
cell_small (Public n) = omega arith
cell_small FirstRow = omega arith
cell_small LastRow = omega arith
cell_small Transition = omega arith

ext_small : (c : ExtCell) → ext_multiple c ≤ 2 ^ 64 - 1
ext_small (Permutation next column) = omega arith
ext_small (Challenge n) = omega arith
ext_small Terminal = omega arith

tree_small : {F : Type 0} (t : Tree F) → multiple 0 t ≤ 2 ^ 64 - 1
tree_small (constant x) = omega arith
tree_small (cell c) = cell_small c
tree_small (ext_cell c) = ext_small c
tree_small (sum a b) = let p = tree_small a in let q = tree_small b in omega (arith, p, q)
tree_small (difference a b) = let p = tree_small a in let q = tree_small b in omega (arith, p, q)
tree_small (product a b) = omega arith

degree_small : {F : Type 0} (r : Ring F) (l : LookupData F) → lookup_degree r 0 l ≤ 2 ^ 64 - 1
degree_small {F = F} r l =
    greatest_below 0 (map (multiple 0) (lookup_trees r (l ∷ []))) (2 ^ 64 - 1) (omega arith)
    (All-map (λ n. n ≤ 2 ^ 64 - 1) (multiple {F = F} 0) (lookup_trees r (l ∷ [])) (λ k d h. tree_small _))

at_most : (d a b : ℕ) → d ≤ a → d ≤ b → nat_le d a ≡ nat_le d b
at_most d a b h k = by (nat_le d a) (nat_le d b) refl refl
  where
    by : (x y : Bool) → nat_le d a ≡ x → nat_le d b ≡ y → nat_le d a ≡ nat_le d b
    by x y e f = grind (arith, h, k)

-- with budgets that no degree passes the same lookups are packed
module _ {F : Type 0} (r : Ring F) (a b : ℕ) (h : 2 ^ 64 - 1 ≤ a) (k : 2 ^ 64 - 1 ≤ b) where
  takes_same : (x l : LookupData F) → takes_in r 0 a x l ≡ takes_in r 0 b x l
  takes_same x l =
      let d = degree_small r (merged x l) in
      ap (λ c. same_name x.bus l.bus && c) (at_most (lookup_degree r 0 (merged x l)) a b (omega (arith, d, h)) (omega (arith, d, k)))

  with_same : (xs : List (LookupData F)) (l : LookupData F) → with_lookup r 0 a xs l ≡ with_lookup r 0 b xs l
  with_same [] l = refl
  with_same (x ∷ xs) l =
      ap (λ c. cond c (merged x l ∷ xs) (x ∷ with_lookup r 0 a xs l)) (takes_same x l)
      ∙ ap (λ ys. cond (takes_in r 0 b x l) (merged x l ∷ xs) (x ∷ ys)) (with_same xs l)

  onto_same : (xs ls : List (LookupData F)) → packed_onto r 0 a xs ls ≡ packed_onto r 0 b xs ls
  onto_same xs [] = refl
  onto_same xs (l ∷ ls) = ap (λ ys. packed_onto r 0 a ys ls) (with_same xs l) ∙ onto_same (with_lookup r 0 b xs l) ls

-- a budget may stop at the greatest usize
pub packed_capped : {F : Type 0} (r : Ring F) (own asked : ℕ) (ls : List (LookupData F)) → packed r 0 (max (min own (2 ^ 64 - 1)) asked) ls ≡ packed r 0 (max own asked) ls
packed_capped r own asked ls = elim (cases_lt own (2 ^ 64 - 1)) [
  | inl less ↦ let e : min own (2 ^ 64 - 1) ≡ own = omega (arith, less) in ap (λ n. packed r 0 (max n asked) ls) e
  | inr more ↦ onto_same r (max (min own (2 ^ 64 - 1)) asked) (max own asked) (omega (arith, more)) (omega (arith, more)) [] ls
]
