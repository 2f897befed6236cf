-- What holds of each of the program's tables.
use Rattle.std.proofs.Common.{◌≡◌, ℕ, ◌<◌, ◌∙◌, length, map, All, Some, rules}
use Rattle.std.proofs.lemmas.List.{length-map}
use Rattle.p3_field.specs.Ring.{Ring}
use Rattle.air_core.specs.Shape.{HasColumns, HasWholeRows, ReadsDeclared, IsInteraction, declared_shape, width_of}
use Rattle.air_core.specs.Laws.Declared.{counts-none}
use Rattle.blake3_prime.specs.Laws.Reads.{blake3_read}
use Rattle.tool_tables.specs.Laws.Words.{words-interactions_read}
use Rattle.tool_tables.specs.Tool.{tool_declaration, tool_trees, tool_interactions}
use Rattle.air_tables.specs.Laws.Wheel.{wheel-read}
use Rattle.tool_tables.specs.declared.tool.ToolAir.{ToolAir}
use Rattle.tool_tables.specs.declared.tool.ToolAir.TheVariants.{Swap, Wheel, Words, Hash}

module _ {F : Type 0} (r : Ring F) where
  pub tool-has_columns : (a : ToolAir F) → HasColumns (tool_declaration r a).preprocessed
  tool-has_columns (Swap a) = search rules
  tool-has_columns (Wheel a) = search rules
  tool-has_columns (Words a) = search rules
  tool-has_columns (Hash a) = tt

  pub tool-whole : (a : ToolAir F) → HasWholeRows (tool_declaration r a).preprocessed
  tool-whole (Swap a) = search rules
  tool-whole (Wheel a) = search rules
  tool-whole (Words a) = search rules
  tool-whole (Hash a) = tt

  pub tool-next : (a : ToolAir F) → All (λ c. c < (tool_declaration r a).width) (tool_declaration r a).main_next
  tool-next (Swap a) = search rules
  tool-next (Wheel a) = search rules
  tool-next (Words a) = search rules
  tool-next (Hash a) = search rules

  pub tool-preprocessed_next : (a : ToolAir F) → All (λ c. c < width_of (tool_declaration r a).preprocessed) (tool_declaration r a).preprocessed_next
  tool-preprocessed_next (Swap a) = search rules
  tool-preprocessed_next (Wheel a) = search rules
  tool-preprocessed_next (Words a) = search rules
  tool-preprocessed_next (Hash a) = search rules

  pub tool-counts : (a : ToolAir F) (n : ℕ) → (tool_declaration r a).constraints ≡ Some n → n ≡ length (tool_trees r a)
  tool-counts (Swap a) n e = counts-none n 5 e
  tool-counts (Wheel a) n e = counts-none n 1 e
  tool-counts (Words a) n e = counts-none n 0 e
  tool-counts (Hash a) n e = counts-none n _ e

  pub tool-read : (a : ToolAir F) → All (ReadsDeclared (declared_shape (tool_declaration r a))) (tool_trees r a)
  tool-read (Swap a) = search rules
  tool-read (Wheel a) = wheel-read r a.log_height (map (λ v. v.items) a.periodic.items) (length-map a.periodic.items (λ v. v.items) ∙ a.one_periodic)
  tool-read (Words a) = search rules
  tool-read (Hash a) = blake3_read r

  pub tool-interactions_read : (a : ToolAir F) → All (IsInteraction (declared_shape (tool_declaration r a))) (tool_interactions r a)
  tool-interactions_read (Swap a) = search rules
  tool-interactions_read (Wheel a) = search rules
  tool-interactions_read (Words a) = words-interactions_read r a
  tool-interactions_read (Hash a) = search rules
