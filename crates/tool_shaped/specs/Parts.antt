-- A table's shape in parts, each of which a test decides.
use Rattle.std.specs.Int.{IsPowerOfTwo}
use Rattle.std.specs.Prelude.{◌≡◌, ℕ, ◌+◌, ◌<◌, ◌≤◌, List, length, All}
use Rattle.p3_field.specs.Ring.{Ring}
use Rattle.p3_matrix.specs.Matrix.{FillsRows, Rows, height}
use Rattle.air_core.specs.Check.{HasHeight}
use Rattle.air_core.specs.Shape.{Declaration}
use Rattle.air_core.specs.Tree.{Interaction, Tree}
use Rattle.commit_core.specs.Periodic.{IsPeriod}
use Rattle.batch_constraints.specs.Sizing.{table_log_chunks}
use Rattle.batch_setup.specs.Packed.{Source, source_of, unpacked_lookups}
use Rattle.batch_setup.specs.Setup.{Instance, log_of}

-- there are as many columns as declared, at least one, and as many public values
abbrev pub HasSizes : {F : Type 0} → Declaration F → (columns publics : ℕ) → Type 0
HasSizes d columns publics = (columns ≡ d.width) × (0 < d.width) × (publics ≡ d.public_values)

-- so many rows are a power of two, whose logarithm lies within these bounds
abbrev pub IsHeightWithin : (least most rows : ℕ) → Type 0
IsHeightWithin least most rows = IsPowerOfTwo rows × (least ≤ log_of rows) × (log_of rows ≤ most)

-- there is a subgroup for so many rows times the chunks of the quotient, where the largest has 2^two_adicity elements
abbrev pub HasRoom : {F : Type 0} → Ring F → (two_adicity : ℕ) → Source F → (rows : ℕ) → Type 0
HasRoom f two_adicity s rows = log_of rows + table_log_chunks f s.declaration s.trees 0 0 rows (unpacked_lookups s) ≤ two_adicity

-- A trace and public values have the shape that an AIR declares.
pub record HasShape {F : Type 0} (f : Ring F) (two_adicity least most : ℕ) (s : Source F) (m : Rows F) (publics : List F) : Type 0 where
  pub fills : FillsRows m.values m.width
  pub sizes : HasSizes s.declaration m.width (length publics)
  pub rows : IsHeightWithin least most (height m)
  pub periods : All (λ column. IsPeriod (height m) (length column)) s.declaration.periodic
  pub prepared : HasHeight s.declaration.preprocessed (height m)
  pub room : HasRoom f two_adicity s (height m)

-- the same of an instance
abbrev pub HasInstanceShape : {A F : Type 0} → Ring F → (two_adicity least most : ℕ) → (A → Declaration F) → (A → List (Tree F)) → (A → List (Interaction F)) → Instance A F → Type 0
HasInstanceShape f two_adicity least most declaration trees interactions i =
    HasShape f two_adicity least most (source_of declaration trees interactions i.air) i.trace i.public_values
