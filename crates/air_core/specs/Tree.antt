-- Constraint trees, their values, and what an interaction sends. The rules are those of Plonky3's p3-air
-- (SymbolicExpression) and p3-lookup (Lookup): a constraint is an expression over the cells of a row and of the
-- next one, public values, selectors and, for lookups, cells of the extension.
use Rattle.std.specs.Prelude.{◌≡◌, ℕ, ◌*◌, ◌+◌, ◌/◌, ◌<◌, Bool, true, false, List, length, slice_range, take}
use Rattle.std.specs.Prelude.{slice_index_or as get_or}
use Rattle.air_core.specs.declared.cells.Cell.{Cell}
use Rattle.air_core.specs.declared.cells.ExtCell.{ExtCell}
use Rattle.air_core.specs.declared.cells.Count.{Count}

-- a constraint tree over constants of F, as written: nothing is simplified
pub data Tree (F : Type 0) : Type 0 where
  constant : F → Tree F
  cell : Cell → Tree F
  ext_cell : ExtCell → Tree F
  sum : Tree F → Tree F → Tree F
  difference : Tree F → Tree F → Tree F
  product : Tree F → Tree F → Tree F

-- what gives a tree over F a value in E: the way in from constants, the operations, and a value of each cell
pub record Reading (F E : Type 0) : Type 0 where
  pub from : F → E
  pub add : E → E → E
  pub sub : E → E → E
  pub mul : E → E → E
  pub at : Cell → E
  pub at_ext : ExtCell → E

-- the value of a tree
abbrev pub eval_tree : {F E : Type 0} → Reading F E → Tree F → E
eval_tree r (constant x) = r.from x
eval_tree r (cell c) = r.at c
eval_tree r (ext_cell c) = r.at_ext c
eval_tree r (sum x y) = r.add (eval_tree r x) (eval_tree r y)
eval_tree r (difference x y) = r.sub (eval_tree r x) (eval_tree r y)
eval_tree r (product x y) = r.mul (eval_tree r x) (eval_tree r y)

-- an asserted tree, and whether it was asserted over the extension
pub record Asserted (F : Type 0) : Type 0 where
  pub tree : Tree F
  pub in_extension : Bool

abbrev pub over_base : {F : Type 0} → Tree F → Asserted F
over_base t = record { tree = t; in_extension = false }

abbrev pub over_extension : {F : Type 0} → Tree F → Asserted F
over_extension t = record { tree = t; in_extension = true }

-- the value of an asserted tree, over whichever field it was asserted
abbrev pub eval_asserted : {F E : Type 0} → Reading F E → Asserted F → E
eval_asserted r a = eval_tree r a.tree

-- whom an interaction speaks to: its own table alone, or all that use the bus of this name (its UTF-8 bytes)
pub data Bus : Type 0 where
  local : Bus
  global : List ℕ → Bus

-- What one interaction call records: tuples of one width, one after another, and a count for each. A call that
-- names a bus has one tuple.
pub record Interaction (F : Type 0) : Type 0 where
  pub bus : Bus
  pub fields : List (Tree F)
  pub counts : List (Count (Tree F))

-- how many fields each tuple has
abbrev pub tuple_width : {F : Type 0} → Interaction F → ℕ
tuple_width i = length i.fields / length i.counts

-- tuple k
abbrev pub tuple_at : {F : Type 0} → Interaction F → ℕ → List (Tree F)
tuple_at i k = slice_range i.fields (k * tuple_width i) (k * tuple_width i + tuple_width i)

-- the lists have one length, and each expression is in the relation with the tree at its place
pub record Represent {E T : Type 0} (P : E → T → Type 0) (es : List E) (ts : List T) : Type 0 where
  pub long : length ts ≡ length es
  pub each : (k : ℕ) (d : E) (u : T) → k < length es → P (get_or es k d) (get_or ts k u)

-- the count's value is in the relation with the tree's, and their bounds are one
abbrev pub RepresentsCount : {E T : Type 0} → (E → T → Type 0) → Count E → Count T → Type 0
RepresentsCount P c v = P c.value v.value × (v.bound ≡ c.bound)

-- x (x - 1), which is zero where x is zero or one
abbrev pub bool_tree : {F : Type 0} → F → Tree F → Tree F
bool_tree one x = product x (difference x (constant one))

-- what holds of some of the first trees and some of the first interactions, as that these were appended
pub record SomeFirst {A B : Type 0} (P : List A → List B → Type 0) (ts : List A) (is : List B) : Type 0 where
  pub trees : ℕ
  pub interactions : ℕ
  pub appended : P (take trees ts) (take interactions is)
