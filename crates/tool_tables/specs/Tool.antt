-- One of the program's tables.
use Rattle.std.specs.Prelude.{List, [], map}
use Rattle.p3_field.specs.Ring.{Ring}
use Rattle.air_core.specs.Shape.{Declaration}
use Rattle.air_core.specs.Tree.{Tree, Interaction}
use Rattle.air_tables.specs.Swap.{swap_declaration, swap_trees}
use Rattle.blake3_prime.specs.Trees.{blake3_declaration, blake3_trees}
use Rattle.air_tables.specs.Wheel.{wheel_over, wheel_trees}
use Rattle.tool_tables.specs.Words.{words_declaration, words_interactions, words_width}
use Rattle.tool_tables.specs.declared.tool.ToolAir.{ToolAir}
use Rattle.tool_tables.specs.declared.tool.ToolAir.TheVariants.{Swap, Wheel, Words, Hash}

abbrev pub tool_declaration : {F : Type 0} → Ring F → ToolAir F → Declaration F
tool_declaration r (Swap a) = swap_declaration
tool_declaration r (Wheel a) = wheel_over r a.log_height (map (λ v. v.items) a.periodic.items)
tool_declaration r (Words a) = words_declaration (words_width a)
tool_declaration r (Hash a) = blake3_declaration

abbrev pub tool_trees : {F : Type 0} → Ring F → ToolAir F → List (Tree F)
tool_trees r (Swap a) = swap_trees
tool_trees r (Wheel a) = wheel_trees
tool_trees r (Words a) = []
tool_trees r (Hash a) = blake3_trees r

abbrev pub tool_interactions : {F : Type 0} → Ring F → ToolAir F → List (Interaction F)
tool_interactions r (Swap a) = []
tool_interactions r (Wheel a) = []
tool_interactions r (Words a) = words_interactions r a
tool_interactions r (Hash a) = []
