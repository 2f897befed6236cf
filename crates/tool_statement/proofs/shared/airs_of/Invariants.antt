use Rattle.std.proofs.Common.{◌≡◌, map, take}
use Rattle.p3_field.specs.BabyBear.{baby_bear_ring}
use Rattle.batch_setup.specs.Packed.{source_of}
use Rattle.tool_tables.specs.Tool.{tool_declaration, tool_interactions, tool_trees}
use Rattle.tool_statement.specs.StatedTables.{sources_of}
use Rattle.tool_statement.proofs.shared.airs_of.Given as goal

abbrev pub invariant-loop-table : goal.invariant-loop-table
invariant-loop-table l = map (source_of (tool_declaration baby_bear_ring) (tool_trees baby_bear_ring) (tool_interactions baby_bear_ring)) l.airs.items ≡ sources_of (take l.table-index l.tables)
