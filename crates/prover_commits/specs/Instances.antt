-- An instance of a batch as the table that it is.
use Rattle.std.specs.Prelude.{◌+◌, List}
use Rattle.p3_matrix.specs.Matrix.{height}
use Rattle.air_core.specs.Shape.{Declaration}
use Rattle.air_core.specs.Tree.{Tree}
use Rattle.p3_lookup.specs.Lookup.{LookupData}
use Rattle.batch_config.specs.Setting.{Setting, masks}
use Rattle.batch_setup.specs.Setup.{Instance, log_of}
use Rattle.law_valid.specs.Traced.{TracedTable}

-- the table of an instance with these lookups, where its AIR declares and constrains so: its degree bits are those of its trace's height
abbrev pub instance_table : {S F E C A : Type 0} → Setting S F E C → (A → Declaration F) → (A → List (Tree F)) → Instance A F → List (LookupData F) → TracedTable F
instance_table c declaration trees i lookups = record {
  table = record { declaration = declaration i.air; trees = trees i.air };
  lookups = lookups;
  publics = i.public_values;
  trace = i.trace;
  degree_bits = log_of (height i.trace) + masks c;
}
