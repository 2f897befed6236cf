-- The Fibonacci table: the sequence, what the AIR declares and asks for, the trace, and what the equations mean.
use Rattle.std.specs.Prelude.{◌≡◌, ℕ, zero, suc, ◌<◌, false, true, List, [], ◌∷◌, None}
use Rattle.p3_field.specs.Ring.{Ring}
use Rattle.p3_matrix.specs.Matrix.{Rows}
use Rattle.air_core.specs.declared.cells.Cell.TheVariants.{Main, Public, FirstRow, LastRow, Transition}
use Rattle.air_core.specs.Shape.{Declaration}
use Rattle.air_core.specs.Tree.{Tree, cell, sum}
use Rattle.air_equations.specs.Equation.{Equation, equation_trees}
use Rattle.air_equations.specs.Meets.{Meets}
use Rattle.air_equations.specs.Rows.{rows_of}

-- number n of the sequence that starts with a and a: each further one is the sum of the two before it
unfoldable pub fib : {F : Type 0} → Ring F → F → ℕ → F
fib r a zero = a
fib r a (suc zero) = a
fib r a (suc (suc n)) = r.add (fib r a n) (fib r a (suc n))

-- Two columns l and r. The first row is (a, a), after the row (l, r) comes (r, l + r), and x is the last right cell. The public values are a and x.
abbrev pub fib_equations : {F : Type 0} → List (Equation F)
fib_equations =
    record { selector = FirstRow; left = cell (Main false 0); right = cell (Public 0) }
    ∷ record { selector = FirstRow; left = cell (Main false 1); right = cell (Public 0) }
    ∷ record { selector = Transition; left = cell (Main true 0); right = cell (Main false 1) }
    ∷ record { selector = Transition; left = cell (Main true 1); right = sum (cell (Main false 0)) (cell (Main false 1)) }
    ∷ record { selector = LastRow; left = cell (Main false 1); right = cell (Public 1) }
    ∷ []

abbrev pub fib_trees : {F : Type 0} → List (Tree F)
fib_trees = equation_trees fib_equations

abbrev pub fib_declaration : {F : Type 0} → Declaration F
fib_declaration = record {
  width = 2;
  preprocessed = None;
  main_next = 0 ∷ 1 ∷ [];
  preprocessed_next = [];
  public_values = 2;
  periodic = [];
  constraints = None;
  degree_hint = None;
  boolean_trace = false;
}

-- row i of the trace, and the trace of n rows
abbrev pub fib_row : {F : Type 0} → Ring F → F → ℕ → List F
fib_row r a i = fib r a i ∷ fib r a (suc i) ∷ []

abbrev pub fib_rows : {F : Type 0} → Ring F → F → ℕ → Rows F
fib_rows r a n = rows_of 2 (fib_row r a) n

-- n rows that meet the equations with the public values a and x show that x is number n of the sequence
abbrev pub FibMeans : {F : Type 0} → Ring F → Type 0
FibMeans {F} r = (rows : ℕ → List F) (a x : F) (n : ℕ) → 0 < n → Meets r rows (a ∷ x ∷ []) n fib_equations → x ≡ fib r a n

-- and the rows of the trace meet them with that number
abbrev pub FibMeets : {F : Type 0} → Ring F → Type 0
FibMeets {F} r = (rows : ℕ → List F) (a : F) (n : ℕ) → 0 < n → ((i : ℕ) → i < n → rows i ≡ fib_row r a i) → Meets r rows (a ∷ fib r a n ∷ []) n fib_equations
