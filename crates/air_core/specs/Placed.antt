-- A recorded interaction: its bus by name, or none, and its fields and counts by the places of their nodes.
use Rattle.std.specs.Prelude.{ℕ, List, Option}
use Rattle.air_core.specs.declared.cells.Count.{Count}

pub record Placed : Type 0 where
  pub bus : Option (List ℕ)
  pub fields : List ℕ
  pub counts : List (Count ℕ)
