-- Which cells are declared, and which of them a tree reads. The rule is that of Plonky3's p3-air: an AIR names its
-- widths, the columns whose next row it reads, its periodic columns and its public values, and reads nothing else.
use Rattle.std.specs.Prelude.{◌≡◌, ℕ, ◌<◌, ◌≤◌, ◌%◌, ◌==◌, Bool, true, IsTrue, List, length, All}
use Rattle.std.specs.Prelude.{Option, Some, None}
use Rattle.std.specs.List.{list_any}
use Rattle.p3_matrix.specs.Matrix.{Rows, FillsRows}
use Rattle.air_core.specs.declared.cells.Cell.{Cell}
use Rattle.air_core.specs.declared.cells.Cell.TheVariants.{Main, Preprocessed, Periodic, Public, FirstRow, LastRow, Transition}
use Rattle.air_core.specs.declared.cells.ExtCell.{ExtCell}
use Rattle.air_core.specs.declared.cells.ExtCell.TheVariants.{Permutation, Challenge, Terminal}
use Rattle.air_core.specs.Tree.{Tree, constant, cell, ext_cell, sum, difference, product, Interaction}

-- how many of each cell there are, and in which columns the next row may be read
pub record Shape : Type 0 where
  pub main : ℕ
  pub main_next : ℕ → Bool
  pub preprocessed : ℕ
  pub preprocessed_next : ℕ → Bool
  pub periodic : ℕ
  pub public : ℕ
  pub permutation : ℕ
  pub challenges : ℕ
  pub terminals : ℕ

-- the cell is declared; the selectors always are
abbrev pub Declares : Shape → Cell → Type 0
Declares s (Main next column) = (column < s.main) × (next ≡ true → IsTrue (s.main_next column))
Declares s (Preprocessed next column) = (column < s.preprocessed) × (next ≡ true → IsTrue (s.preprocessed_next column))
Declares s (Periodic n) = n < s.periodic
Declares s (Public n) = n < s.public
Declares s FirstRow = Unit {0}
Declares s LastRow = Unit {0}
Declares s Transition = Unit {0}

-- the cell of the extension is declared
abbrev pub DeclaresExt : Shape → ExtCell → Type 0
DeclaresExt s (Permutation next column) = column < s.permutation
DeclaresExt s (Challenge n) = n < s.challenges
DeclaresExt s Terminal = 0 < s.terminals

-- the second declares each cell of the first but those of the extension
pub record Fits (a b : Shape) : Type 0 where
  pub main : a.main ≤ b.main
  pub main_next : (column : ℕ) → IsTrue (a.main_next column) → IsTrue (b.main_next column)
  pub preprocessed : a.preprocessed ≤ b.preprocessed
  pub preprocessed_next : (column : ℕ) → IsTrue (a.preprocessed_next column) → IsTrue (b.preprocessed_next column)
  pub periodic : a.periodic ≤ b.periodic
  pub public : a.public ≤ b.public

-- what an AIR answers of itself, one value for each call
pub record Declaration (F : Type 0) : Type 0 where
  pub width : ℕ
  pub preprocessed : Option (Rows F)
  pub main_next : List ℕ
  pub preprocessed_next : List ℕ
  pub public_values : ℕ
  pub periodic : List (List F)
  pub constraints : Option ℕ
  pub degree_hint : Option ℕ
  pub boolean_trace : Bool

-- the width of the preprocessed trace, zero where there is none
abbrev pub width_of : {F : Type 0} → Option (Rows F) → ℕ
width_of None = 0
width_of (Some m) = m.width

-- a preprocessed trace has at least one column
abbrev pub HasColumns : {F : Type 0} → Option (Rows F) → Type 0
HasColumns None = Unit {0}
HasColumns (Some m) = 0 < m.width

-- the values of a preprocessed trace fill whole rows
abbrev pub HasWholeRows : {F : Type 0} → Option (Rows F) → Type 0
HasWholeRows None = Unit {0}
HasWholeRows (Some m) = FillsRows m.values m.width

-- the number is one of the list
abbrev pub has : List ℕ → ℕ → Bool
has ns n = list_any (λ m. m == n) ns

-- the cells that an AIR declares
abbrev pub declared_shape : {F : Type 0} → Declaration F → Shape
declared_shape d = record {
  main = d.width;
  main_next = has d.main_next;
  preprocessed = width_of d.preprocessed;
  preprocessed_next = has d.preprocessed_next;
  periodic = length d.periodic;
  public = d.public_values;
  permutation = 0;
  challenges = 0;
  terminals = 0;
}

-- P holds of each cell that the tree reads, and Q of each of the extension
abbrev pub ReadsIn : {F : Type 0} → (Cell → Type 0) → (ExtCell → Type 0) → Tree F → Type 0
ReadsIn P Q (constant x) = Unit {0}
ReadsIn P Q (cell c) = P c
ReadsIn P Q (ext_cell c) = Q c
ReadsIn P Q (sum x y) = ReadsIn P Q x × ReadsIn P Q y
ReadsIn P Q (difference x y) = ReadsIn P Q x × ReadsIn P Q y
ReadsIn P Q (product x y) = ReadsIn P Q x × ReadsIn P Q y

-- the tree reads declared cells alone
abbrev pub ReadsDeclared : {F : Type 0} → Shape → Tree F → Type 0
ReadsDeclared s t = ReadsIn (Declares s) (DeclaresExt s) t

-- an interaction may read the cell: public values, main and preprocessed cells
abbrev pub IsSendable : Cell → Type 0
IsSendable (Main next column) = Unit {0}
IsSendable (Preprocessed next column) = Unit {0}
IsSendable (Periodic n) = ⊥
IsSendable (Public n) = Unit {0}
IsSendable FirstRow = ⊥
IsSendable LastRow = ⊥
IsSendable Transition = ⊥

-- the tree reads constants and declared cells that an interaction may read
abbrev pub ReadsSendable : {F : Type 0} → Shape → Tree F → Type 0
ReadsSendable s t = ReadsIn (λ c. Declares s c × IsSendable c) (λ _. ⊥) t

-- what an AIR's interaction reads, and that its tuples fill its fields
pub record IsInteraction {F : Type 0} (s : Shape) (i : Interaction F) : Type 0 where
  pub fields : All (ReadsSendable s) i.fields
  pub counts : All (λ c. ReadsSendable s c.value) i.counts
  pub counted : 0 < length i.counts
  pub whole : length i.fields % length i.counts ≡ 0
