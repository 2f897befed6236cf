-- What the builder that evaluates constraints at a row has for expressions.
use Rattle.std.specs.Prelude.{◌≡◌}
use Rattle.p3_field.specs.Ring.{Ring}
use Rattle.air_core.specs.RowCheck.{Row, tree_value_at_row}
use Rattle.air_core.specs.Tree.{Tree}

-- the value of the base field is the tree's at the row
abbrev pub IsBaseValue : {F E : Type 0} → Ring F → Ring E → (F → E) → Row F E → F → Tree F → Type 0
IsBaseValue f e embed r x t = embed x ≡ tree_value_at_row f e embed r t
