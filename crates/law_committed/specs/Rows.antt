-- Tables that commit to traces, whose columns' interpolants are their polynomials, and what such a table reads on a row.
use Rattle.std.specs.Prelude.{◌≡◌, ◌↔◌, ℕ, ◌+◌, ◌*◌, ◌%◌, ◌^◌, ◌<◌, nat_eq, true, false, List, [], length, get_or, map, All, Option, None, Some}
use Rattle.std.specs.List.{flat_map}
use Rattle.p3_field.specs.Field.{TwoAdic, Extension}
use Rattle.p3_field.specs.Domain.{CosetData, IsInterpolant, point}
use Rattle.p3_matrix.specs.Matrix.{Rows, FillsRows, column, height, row_at}
use Rattle.air_core.specs.CellValues.{CellValues}
use Rattle.air_core.specs.Check.{TableTraces, preprocessed_row, periodic_row}
use Rattle.air_core.specs.RowCheck.{Row}
use Rattle.commit_core.specs.Periodic.{IsPeriod}
use Rattle.law_committed.specs.Committed.{CommittedTable, row_count_of, trace_domain}

-- the polynomials are the interpolants of the matrix's columns on a domain with a point for each row; without columns the matrix
-- has no rows
pub record InterpolateColumns {F : Type 0} (f : TwoAdic F) (d : CosetData F) (m : Rows F) (polys : List (List F)) : Type 0 where
  pub fills : FillsRows m.values m.width
  pub tall : 0 < m.width → height m ≡ 2 ^ d.log_size
  pub count : length polys ≡ m.width
  pub each : (j : ℕ) → j < m.width → IsInterpolant f.ring (point f.ring f.root d) (column f.ring.zero m j) (get_or polys j [])

-- the same of a matrix that may be absent: then there is no polynomial
abbrev pub InterpolateSome : {F : Type 0} → TwoAdic F → CosetData F → Option (Rows F) → List (List F) → Type 0
InterpolateSome f d None polys = polys ≡ []
InterpolateSome f d (Some m) polys = InterpolateColumns f d m polys

-- a matrix over the larger field with the coefficients of each value in its place
abbrev pub flattened_matrix : {F E : Type 0} → Extension F E → Rows E → Rows F
flattened_matrix e m = record { values = flat_map e.coefficients m.values; width = m.width * e.dimension }

-- the committed table is that of these traces and permutation columns: its polynomials are the interpolants of their columns,
-- flattened ones for the permutation's, and it has the traces' public values and periodic columns, which fit its height
pub record CommitsTo {F E : Type 0} (f : TwoAdic F) (e : Extension F E) (t : CommittedTable F E) (traces : TableTraces F) (columns : Rows E) : Type 0 where
  pub tall : height traces.main ≡ row_count_of t
  pub main : InterpolateColumns f (trace_domain f e t) traces.main t.main
  pub preprocessed : InterpolateSome f (trace_domain f e t) traces.preprocessed t.preprocessed
  pub fills : FillsRows columns.values columns.width
  pub permutation : InterpolateColumns f (trace_domain f e t) (flattened_matrix e columns) t.permutation
  pub public_values : t.public_values ≡ traces.public_values
  pub periodic : t.periodic ≡ traces.periodic
  pub periods : All (λ column. IsPeriod (row_count_of t) (length column)) traces.periodic

-- row i of traces with these permutation columns, challenges and terminals, as a check of rows reads it
abbrev pub row_of_traces : {F E : Type 0} → F → TableTraces F → Rows E → List E → List E → ℕ → Row F E
row_of_traces d traces columns challenges terminals i = record {
  main_local = row_at traces.main i;
  main_next = row_at traces.main ((i + 1) % height traces.main);
  preprocessed_local = preprocessed_row traces.preprocessed i;
  preprocessed_next = preprocessed_row traces.preprocessed ((i + 1) % height traces.main);
  periodic = periodic_row d traces.periodic i;
  public_values = traces.public_values;
  is_first_row = nat_eq i 0;
  is_last_row = nat_eq (i + 1) (height traces.main);
  permutation_local = row_at columns i;
  permutation_next = row_at columns ((i + 1) % height traces.main);
  challenges = challenges;
  terminals = terminals;
}

-- The values of cells above the field are those of a row, but that a selector has another value where the row's is one: it is
-- zero exactly where the row's is.
pub record AreOfRow {F E : Type 0} (e : Extension F E) (r : Row F E) (v : CellValues E) : Type 0 where
  pub main_local : v.main_local ≡ map e.embed r.main_local
  pub main_next : v.main_next ≡ map e.embed r.main_next
  pub preprocessed_local : v.preprocessed_local ≡ map e.embed r.preprocessed_local
  pub preprocessed_next : v.preprocessed_next ≡ map e.embed r.preprocessed_next
  pub periodic : v.periodic ≡ map e.embed r.periodic
  pub public_values : v.public_values ≡ map e.embed r.public_values
  pub first_row : (v.first_row ≡ e.ring.zero) ↔ (r.is_first_row ≡ false)
  pub last_row : (v.last_row ≡ e.ring.zero) ↔ (r.is_last_row ≡ false)
  pub transition : (v.transition ≡ e.ring.zero) ↔ (r.is_last_row ≡ true)
  pub permutation_local : v.permutation_local ≡ r.permutation_local
  pub permutation_next : v.permutation_next ≡ r.permutation_next
  pub challenges : v.challenges ≡ r.challenges
  pub terminals : v.terminals ≡ r.terminals
