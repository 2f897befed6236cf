-- How many values a fold reads of a table with lookups.
use Rattle.std.specs.Prelude.{◌≡◌, ℕ, ◌+◌, ◌*◌, ◌<◌, ◌≤◌, length}
use Rattle.air_core.specs.Shape.{Declaration, width_of}
use Rattle.cases_batch.specs.declared.points.Point.{Point}

-- as many as a table that declares this and has so many lookups has columns, public values and challenges
pub record HasCells {F V : Type 0} (d : Declaration F) (lookups : ℕ) (p : Point V) : Type 0 where
  pub local : length p.local.items ≡ d.width
  pub next : length p.next.items ≡ d.width
  pub preprocessed : length p.preprocessed.items ≡ width_of d.preprocessed
  pub periodic : length p.periodic.items ≡ length d.periodic
  pub publics : length p.publics.items ≡ d.public_values
  pub columns : lookups < length p.columns.items
  pub next_columns : lookups < length p.next_columns.items
  pub challenges : 2 * lookups ≤ length p.challenges.items
  pub terminals : 0 < length p.terminals.items
