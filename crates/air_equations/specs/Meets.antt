-- When the rows of a table meet equations: read row by row, the row after the last being the first.
use Rattle.std.specs.Prelude.{◌≡◌, ℕ, ◌+◌, ◌%◌, ◌<◌, true, false, List, All}
use Rattle.std.specs.Prelude.{slice_index_or as get_or}
use Rattle.p3_field.specs.Ring.{Ring}
use Rattle.air_core.specs.declared.cells.Cell.{Cell}
use Rattle.air_core.specs.declared.cells.Cell.TheVariants.{Main, Preprocessed, Periodic, Public, FirstRow, LastRow, Transition}
use Rattle.air_core.specs.Maps.{reading_over}
use Rattle.air_core.specs.Shape.{ReadsIn}
use Rattle.air_core.specs.Tree.{Tree, eval_tree}
use Rattle.air_equations.specs.Equation.{Equation}

-- row i of n is one of the selector's rows; another cell selects none
abbrev pub IsOn : (n i : ℕ) → Cell → Type 0
IsOn n i FirstRow = i ≡ 0
IsOn n i LastRow = i + 1 ≡ n
IsOn n i Transition = i + 1 < n
IsOn n i (Main next column) = ⊥
IsOn n i (Preprocessed next column) = ⊥
IsOn n i (Periodic k) = ⊥
IsOn n i (Public k) = ⊥

-- the cell is a selector
abbrev pub IsSelector : Cell → Type 0
IsSelector FirstRow = Unit {0}
IsSelector LastRow = Unit {0}
IsSelector Transition = Unit {0}
IsSelector (Main next column) = ⊥
IsSelector (Preprocessed next column) = ⊥
IsSelector (Periodic k) = ⊥
IsSelector (Public k) = ⊥

-- the cell is one of this row or of the next, or a public value
abbrev pub IsOwn : Cell → Type 0
IsOwn (Main next column) = Unit {0}
IsOwn (Public k) = Unit {0}
IsOwn (Preprocessed next column) = ⊥
IsOwn (Periodic k) = ⊥
IsOwn FirstRow = ⊥
IsOwn LastRow = ⊥
IsOwn Transition = ⊥

-- the equation is one on a selector's rows, between expressions over such cells
abbrev pub IsPlainEquation : {F : Type 0} → Equation F → Type 0
IsPlainEquation q = IsSelector q.selector × (ReadsIn IsOwn (λ _. ⊥) q.left × ReadsIn IsOwn (λ _. ⊥) q.right)

module _ {F : Type 0} (r : Ring F) (rows : ℕ → List F) (publics : List F) (n i : ℕ) where
  -- the value of a cell at row i of n; one that isn't there reads as zero
  abbrev pub own_value : Cell → F
  own_value (Main true column) = get_or (rows ((i + 1) % n)) column r.zero
  own_value (Main false column) = get_or (rows i) column r.zero
  own_value (Public k) = get_or publics k r.zero
  own_value (Preprocessed next column) = r.zero
  own_value (Periodic k) = r.zero
  own_value FirstRow = r.zero
  own_value LastRow = r.zero
  own_value Transition = r.zero

  -- the value of an expression there
  abbrev pub value_here : Tree F → F
  value_here tree = eval_tree (reading_over r (λ x. x) own_value (λ _. r.zero)) tree

  -- the equation holds there, where it is asked for
  abbrev pub MeetsHere : Equation F → Type 0
  MeetsHere q = IsOn n i q.selector → value_here q.left ≡ value_here q.right

-- n rows meet the equations, with these public values
abbrev pub Meets : {F : Type 0} → Ring F → (rows : ℕ → List F) → (publics : List F) → (n : ℕ) → List (Equation F) → Type 0
Meets r rows publics n equations = (i : ℕ) → i < n → All (MeetsHere r rows publics n i) equations
