-- The numbers of the chunks of quotients, of tables with their traces and lookups, where nothing is masked.
use Rattle.std.specs.Prelude.{slice_index_or as get_or}
use Rattle.std.specs.Prelude.{ℕ, ◌<◌, List, []}
use Rattle.p3_field.specs.Ring.{Ring}
use Rattle.p3_matrix.specs.Matrix.{Rows, height}
use Rattle.p3_lookup.specs.Lookup.{LookupData}
use Rattle.batch_constraints.specs.BatchTrees.{AreLookupsOf}
use Rattle.verifier_shape.specs.ShapeChecks.{chunks_of_table}
use Rattle.batch_statement.specs.Words.{no_table}
use Rattle.batch_statement.specs.Statement.{AirTable}
use Rattle.law_valid.specs.Traced.{no_rows}

module _ {F : Type 0} (r : Ring F) (tables : List (AirTable F)) (traces : List (Rows F)) (lookups : List (List (LookupData F))) where
  -- the logarithm of the number of chunks of table i's quotient
  abbrev pub log_count_at : ℕ → ℕ
  log_count_at i = chunks_of_table r 0 (height (get_or traces i no_rows)) (get_or tables i no_table) (get_or lookups i [])

  -- it can be computed: the lookups are the table's, the trace has a row, and the number fits
  pub record IsCountable (i : ℕ) : Type 0 where
    pub lookups_are : AreLookupsOf (get_or tables i no_table).declaration (get_or lookups i [])
    pub has_rows : 0 < height (get_or traces i no_rows)
    pub fits : log_count_at i < 64
