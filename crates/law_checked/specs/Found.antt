-- What a check of a table's rows finds, of a table that is to be proved.
use Rattle.std.specs.Prelude.{List, All, Ok}
use Rattle.p3_matrix.specs.Matrix.{Rows}
use Rattle.p3_lookup.specs.Lookup.{LookupData}
use Rattle.batch_check.specs.BatchCheck.{IsBatchChecked, checked_table}
use Rattle.batch_config.specs.Setting.{Setting}
use Rattle.law_valid.specs.Traced.{TracedTable, traces_of}
use Rattle.law_checked.specs.Factors.{HasSelectorsAsFactors}

-- the selectors in the constraints of the table's AIR are factors
abbrev pub HasSelectorsAsFactorsAll : {F : Type 0} → TracedTable F → Type 0
HasSelectorsAsFactorsAll t = All HasSelectorsAsFactors t.table.trees

-- `check_constraints` of batch_check is Ok on the table's traces, with these lookups, permutation columns, challenges and terminals: any will do
pub record FindsNothing {S F E C : Type 0} (c : Setting S F E C) (t : TracedTable F) : Type 0 where
  pub lookups : List (LookupData F)
  pub columns : Rows E
  pub challenges : List E
  pub terminals : List E
  pub checked : IsBatchChecked c.field.ring c.extension.ring c.extension.embed (checked_table (traces_of t) lookups columns challenges terminals) t.table.trees (Ok tt)
