-- What a call appends to a builder, over the relation `appends` between its states: all of some trees over the base
-- field and no interaction, or some of the first of them.
use Rattle.std.specs.Prelude.{List, [], map, Result, OnErr}
use Rattle.air_core.specs.Tree.{Tree, Asserted, Interaction, SomeFirst, over_base}

pub record Appended {S F : Type 0} (G : S → S → List (Asserted F) → List (Interaction F) → Type 0) (a b : S) (ts : List (Tree F)) : Type 0 where
  pub all : G a b (map over_base ts) []

pub record AppendedSome {S F : Type 0} (G : S → S → List (Asserted F) → List (Interaction F) → Type 0) (a b : S) (ts : List (Tree F)) : Type 0 where
  pub some : SomeFirst (G a b) (map over_base ts) []

-- P holds where the result is an error. As a record it shows P to whoever proves it.
pub record OnFailure {T E : Type 0} (result : Result T E) (P : Type 0) : Type 0 where
  pub holds : OnErr result P
