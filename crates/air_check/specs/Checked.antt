-- What the check of a table's rows answers, as Plonky3's p3-air does it in check_constraints.
use Rattle.std.specs.Prelude.{◌≡◌, List, None, Result, Ok, Err}
use Rattle.p3_field.specs.Checks.{IsFirstFailing, FirstFailing}
use Rattle.p3_field.specs.Ring.{Ring}
use Rattle.p3_matrix.specs.Matrix.{height}
use Rattle.air_core.specs.Check.{TableTraces, HasHeight, HoldsAtRow, AreNonzero, row_values}
use Rattle.air_core.specs.Tree.{Tree}
use Rattle.air_check.specs.declared.check.CheckFailure.{CheckFailure}
use Rattle.air_check.specs.declared.check.CheckFailure.TheVariants.{PreprocessedHeight, Failing, OutOfMemory}

-- The answer for a table whose constraints are these trees: after the height of the preprocessed trace the first row with a tree that isn't zero, with the
-- places of all such trees there. Heights that differ are found without memory, so out of memory comes only where they agree.
abbrev pub IsChecked : {F : Type 0} → Ring F → TableTraces F → List (Tree F) → Result (Unit {0}) CheckFailure → Type 0
IsChecked r t ts (Ok x) = HasHeight t.preprocessed (height t.main) × FirstFailing (height t.main) (HoldsAtRow r t ts) None
IsChecked r t ts (Err PreprocessedHeight) = HasHeight t.preprocessed (height t.main) → ⊥
IsChecked r t ts (Err (Failing row places)) = HasHeight t.preprocessed (height t.main) × IsFirstFailing (height t.main) (HoldsAtRow r t ts) row × AreNonzero r (row_values r t ts row) places.items
IsChecked r t ts (Err OutOfMemory) = HasHeight t.preprocessed (height t.main)
