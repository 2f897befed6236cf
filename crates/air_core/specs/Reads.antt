-- Whether cells may be read, as tests: what is declared, and what an interaction may read.
use Rattle.std.specs.Prelude.{ℕ, Bool, true, false, not, cond, nat_lt, ◌&&◌, ◌||◌}
use Rattle.air_core.specs.declared.cells.Cell.{Cell}
use Rattle.air_core.specs.declared.cells.Cell.TheVariants.{Main, Preprocessed, Periodic, Public, FirstRow, LastRow, Transition}
use Rattle.air_core.specs.declared.reads.DeclaredCells.{DeclaredCells}
use Rattle.air_core.specs.Shape.{Shape, has}

-- the shape of what was asked of an AIR
abbrev pub shape_by : DeclaredCells → Shape
shape_by d = record {
  main = d.width;
  main_next = has d.main_next.now;
  preprocessed = d.preprocessed_width;
  preprocessed_next = has d.preprocessed_next.now;
  periodic = d.periodic_columns;
  public = d.public_values;
  permutation = 0;
  challenges = 0;
  terminals = 0;
}

-- whether the cell is declared
abbrev pub declares : Shape → Cell → Bool
declares s (Main next column) = nat_lt column s.main && (not next || s.main_next column)
declares s (Preprocessed next column) = nat_lt column s.preprocessed && (not next || s.preprocessed_next column)
declares s (Periodic n) = nat_lt n s.periodic
declares s (Public n) = nat_lt n s.public
declares s FirstRow = true
declares s LastRow = true
declares s Transition = true

-- whether an interaction may read the cell
abbrev pub is_sendable : Cell → Bool
is_sendable (Main next column) = true
is_sendable (Preprocessed next column) = true
is_sendable (Periodic n) = false
is_sendable (Public n) = true
is_sendable FirstRow = false
is_sendable LastRow = false
is_sendable Transition = false

-- zero for a cell that is declared and, where it is to be sent, that an interaction may read, and else one: a tree
-- whose cells have these degrees has degree zero exactly where it reads none of the others
abbrev pub strangeness : Bool → Shape → Cell → ℕ
strangeness sent s c = cond (declares s c && (not sent || is_sendable c)) 0 1
