-- The words that the tables send have one field each.
use Rattle.std.proofs.Common.{◌≡◌, List, [], ◌∷◌, length, All, sym, ◌∙◌, rules}
use Rattle.std.specs.List.{flat_map}
use Rattle.std.proofs.lemmas.List.Elements.{All-nil, All-append}
use Rattle.p3_field.specs.Ring.{Ring}
use Rattle.p3_lookup.specs.Bus.{HaveOneWidth}
use Rattle.p3_lookup.specs.Lookup.{LookupData, lookups_of}
use Rattle.tool_tables.specs.Tool.{tool_interactions}
use Rattle.tool_tables.specs.declared.tool.ToolAir.{ToolAir}
use Rattle.tool_tables.specs.declared.tool.ToolAir.TheVariants.{Swap, Wheel, Words, Hash}
use Rattle.tool_tables.specs.declared.words.WordsAir.TheVariants.{Take, Give}

-- lookups whose tuples have one field
abbrev pub SendsWords : {F : Type 0} → LookupData F → Type 0
SendsWords l = All (λ t. length t ≡ 1) l.tuples

words_have_one_width : {F : Type 0} (ls : List (LookupData F)) → All SendsWords ls → HaveOneWidth ls
words_have_one_width ls h i j d a b e = λ k s l. λ m t q. h j d b m t q ∙ sym (h i d a k s l)

module _ {F : Type 0} (r : Ring F) where
  sends_words : (a : ToolAir F) → All SendsWords (lookups_of (tool_interactions r a))
  sends_words (Swap a) = search rules
  sends_words (Wheel a) = search rules
  sends_words (Words Take) = search rules
  sends_words (Words Give) = search rules
  sends_words (Hash a) = search rules

  all_send_words : (airs : List (ToolAir F)) → All SendsWords (flat_map (λ a. lookups_of (tool_interactions r a)) airs)
  all_send_words [] = All-nil SendsWords
  all_send_words (a ∷ rest) = All-append SendsWords (lookups_of (tool_interactions r a)) (flat_map (λ b. lookups_of (tool_interactions r b)) rest) (sends_words a) (all_send_words rest)

  -- the tables' tuples have one width on each bus
  pub tools_have_one_width : (airs : List (ToolAir F)) → HaveOneWidth (flat_map (λ a. lookups_of (tool_interactions r a)) airs)
  tools_have_one_width airs = words_have_one_width (flat_map (λ a. lookups_of (tool_interactions r a)) airs) (all_send_words airs)
