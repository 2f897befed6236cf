-- The two tables of words: one takes its words from a bus, the other gives words to it. Neither has constraints of its own.
use Rattle.std.specs.Prelude.{ℕ, false, List, [], ◌∷◌, None}
use Rattle.p3_field.specs.Ring.{Ring}
use Rattle.air_core.specs.declared.cells.Cell.TheVariants.{Main}
use Rattle.air_core.specs.Shape.{Declaration}
use Rattle.air_core.specs.Tree.{Tree, Interaction, constant, cell, difference, global}
use Rattle.tool_tables.specs.declared.words.WordsAir.{WordsAir}
use Rattle.tool_tables.specs.declared.words.WordsAir.TheVariants.{Take, Give}

-- the bytes of the bus's name, `words`
abbrev pub words_bus : List ℕ
words_bus = 119 ∷ 111 ∷ 114 ∷ 100 ∷ 115 ∷ []

-- the word of the first column on the bus, so often
abbrev pub word_sent : {F : Type 0} → Tree F → (bound : ℕ) → Interaction F
word_sent count bound = record { bus = global words_bus; fields = cell (Main false 0) ∷ []; counts = record { value = count; bound = bound } ∷ [] }

-- a row takes its word once
abbrev pub take_interactions : {F : Type 0} → Ring F → List (Interaction F)
take_interactions r = word_sent (constant r.one) 1 ∷ []

-- a row gives its word as often as its second column says, which is sent as that number's negative
abbrev pub give_interactions : {F : Type 0} → Ring F → List (Interaction F)
give_interactions r = word_sent (difference (constant r.zero) (cell (Main false 1))) 1024 ∷ []

-- what a table's rows send, and how many columns it has
abbrev pub words_interactions : {F : Type 0} → Ring F → WordsAir → List (Interaction F)
words_interactions r Take = take_interactions r
words_interactions r Give = give_interactions r

abbrev pub words_width : WordsAir → ℕ
words_width Take = 1
words_width Give = 2

-- so many columns
abbrev pub words_declaration : {F : Type 0} → (width : ℕ) → Declaration F
words_declaration width = record {
  width = width;
  preprocessed = None;
  main_next = [];
  preprocessed_next = [];
  public_values = 0;
  periodic = [];
  constraints = None;
  degree_hint = None;
  boolean_trace = false;
}
