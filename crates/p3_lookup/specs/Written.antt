-- Lookups as a program holds them: each expression is a list of nodes.
use Rattle.std.specs.Prelude.{◌++◌, List, map, string_bytes}
use Rattle.air_core.specs.declared.cells.Count.{Count}
use Rattle.air_core.specs.declared.node.Node.{Node}
use Rattle.air_core.specs.Tree.{Tree, Bus, local, global}
use Rattle.air_core.specs.Symbolic.{tree_of}
use Rattle.p3_lookup.specs.declared.kind.Kind.{Kind}
use Rattle.p3_lookup.specs.declared.kind.Kind.TheVariants.{Local, Global}
use Rattle.p3_lookup.specs.Lookup.{LookupData}

-- the bus that a kind names
abbrev pub bus_of_kind : Kind → Bus
bus_of_kind Local = local
bus_of_kind (Global name) = global (string_bytes name)

-- whom a lookup speaks to, its tuples, and a count for each
pub record Written (F : Type 0) : Type 0 where
  pub bus : Bus
  pub elements : List (List (List (Node F)))
  pub multiplicities : List (Count (List (Node F)))

abbrev pub tree_count : {F : Type 0} → Count (List (Node F)) → Count (Tree F)
tree_count c = record { value = tree_of c.value; bound = c.bound }

-- the lookup that is written
abbrev pub read : {F : Type 0} → Written F → LookupData F
read w = record { bus = w.bus; tuples = map (map tree_of) w.elements; counts = map tree_count w.multiplicities }

abbrev pub read_all : {F : Type 0} → List (Written F) → List (LookupData F)
read_all ws = map read ws

-- the tuples of both, on the bus of the first
abbrev pub merged_written : {F : Type 0} → Written F → Written F → Written F
merged_written k l = record { bus = k.bus; elements = k.elements ++ l.elements; multiplicities = k.multiplicities ++ l.multiplicities }
