-- A table of columns alone.
use Rattle.std.specs.Prelude.{ℕ, false, List, [], Option, None}
use Rattle.air_core.specs.Shape.{Declaration}

-- so many columns and so many public values, periodic columns, and a hint at a degree
abbrev pub plain_declaration : {F : Type 0} → (columns public_values : ℕ) → (periodic : List (List F)) → (hint : Option ℕ) → Declaration F
plain_declaration columns public_values periodic hint = record {
  width = columns;
  preprocessed = None;
  main_next = [];
  preprocessed_next = [];
  public_values = public_values;
  periodic = periodic;
  constraints = None;
  degree_hint = hint;
  boolean_trace = false;
}
