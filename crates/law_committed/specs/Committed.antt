-- A table as a proof commits to it, its values at a point, and what it means that it holds.
use Rattle.std.specs.Prelude.{◌≡◌, ℕ, ◌+◌, ◌*◌, ◌/◌, ◌^◌, ◌<◌, List, [], length, get_or, map, All}
use Rattle.p3_field.specs.Field.{TwoAdic, Extension, combine}
use Rattle.p3_field.specs.Poly.{DegreeBelow, eval_poly_in, tabulate}
use Rattle.p3_field.specs.Newton.{newton}
use Rattle.p3_field.specs.Domain.{CosetData, point, first_selector, last_selector, transition_selector}
use Rattle.air_core.specs.CellValues.{CellValues, reading_at}
use Rattle.air_core.specs.Tree.{Tree, Reading, eval_tree}
use Rattle.commit_core.specs.Periodic.{IsPeriod, over_rows}

-- A table as a proof commits to it: a polynomial for each column of its main, its preprocessed and its flattened permutation
-- matrix. With them go its public values, the challenges and the terminal of its lookups, one period of each periodic column,
-- and the logarithm of its height.
pub record CommittedTable (F E : Type 0) : Type 0 where
  pub main : List (List F)
  pub preprocessed : List (List F)
  pub permutation : List (List F)
  pub public_values : List F
  pub challenges : List E
  pub terminals : List E
  pub periodic : List (List F)
  pub log_height : ℕ

-- how many rows it has
abbrev pub row_count_of : {F E : Type 0} → CommittedTable F E → ℕ
row_count_of t = 2 ^ t.log_height

-- how many values each periodic column repeats
abbrev pub table_periods_of : {F E : Type 0} → CommittedTable F E → List ℕ
table_periods_of t = map (λ column. length column) t.periodic

module _ {F E : Type 0} (f : TwoAdic F) (e : Extension F E) (t : CommittedTable F E) where
  -- the domain of its rows: the subgroup of its height
  abbrev pub trace_domain : CosetData F
  trace_domain = record { shift = f.ring.one; log_size = t.log_height }

  -- the point of row i, above F
  abbrev pub row_point : ℕ → E
  row_point i = e.embed (point f.ring f.root trace_domain i)

  -- the point that is to x as the next row's point is to a row's
  abbrev pub next_point : E → E
  next_point x = e.ring.mul (e.embed (f.root t.log_height)) x

  -- the polynomial of a periodic column: the interpolant over the rows of the column repeated over them
  unfoldable pub periodic_poly : List F → List F
  periodic_poly column = newton f.ring f.inv (row_count_of t) (point f.ring f.root trace_domain) (λ i. get_or (over_rows (row_count_of t) column) i f.ring.zero)

  -- how many permutation columns its flattened ones make: there is one of these for each basis element and permutation column
  abbrev pub flattened_width : ℕ
  flattened_width = length t.permutation / e.dimension

  -- the flattened columns of permutation column j
  abbrev pub flattened : ℕ → List (List F)
  flattened j = tabulate e.dimension (λ k. get_or t.permutation (j * e.dimension + k) [])

  -- the values at x of the polynomials of some columns
  abbrev pub columns_at : List (List F) → E → List E
  columns_at columns x = map (λ g. eval_poly_in e g x) columns

  -- the values at x of the permutation columns: of each the sum of its flattened columns' values times the basis elements
  abbrev pub permutation_at : E → List E
  permutation_at x = tabulate flattened_width (λ j. combine e.ring e.basis 0 (columns_at (flattened j) x))

  -- The values of the cells at x, a point above F: of a cell in this row its polynomial's value at x, of a cell in the next row
  -- that at the next point.
  abbrev pub committed_values_at : E → CellValues E
  committed_values_at x = record {
    main_local = columns_at t.main x;
    main_next = columns_at t.main (next_point x);
    preprocessed_local = columns_at t.preprocessed x;
    preprocessed_next = columns_at t.preprocessed (next_point x);
    periodic = map (λ column. eval_poly_in e (periodic_poly column) x) t.periodic;
    public_values = map e.embed t.public_values;
    first_row = eval_poly_in e (first_selector f.ring f.inv trace_domain) x;
    last_row = eval_poly_in e (last_selector f.ring f.inv f.root trace_domain) x;
    transition = eval_poly_in e (transition_selector f.ring f.inv f.root trace_domain) x;
    permutation_local = permutation_at x;
    permutation_next = permutation_at (next_point x);
    challenges = t.challenges;
    terminals = t.terminals;
  }

  -- the table read at x, and row i: the table read at the row's point
  abbrev pub reading : E → Reading F E
  reading x = reading_at e.ring e.embed (committed_values_at x)

  abbrev pub row : ℕ → Reading F E
  row i = reading (row_point i)

  -- every tree is zero on every row
  abbrev pub Holds : List (Tree F) → Type 0
  Holds trees = (i : ℕ) → i < row_count_of t → All (λ tree. eval_tree (row i) tree ≡ e.ring.zero) trees

-- each committed polynomial has a degree below the height, and each periodic column fits it
pub record IsBounded {F E : Type 0} (f : TwoAdic F) (t : CommittedTable F E) : Type 0 where
  pub main : All (DegreeBelow f.ring (row_count_of t)) t.main
  pub preprocessed : All (DegreeBelow f.ring (row_count_of t)) t.preprocessed
  pub permutation : All (DegreeBelow f.ring (row_count_of t)) t.permutation
  pub periodic : All (λ column. IsPeriod (row_count_of t) (length column)) t.periodic
