-- A table of one column of words, each of which is taken twice.
use Rattle.std.specs.Prelude.{List, [], ◌∷◌, Some}
use Rattle.p3_field.specs.Ring.{Ring}
use Rattle.air_core.specs.Shape.{Declaration}
use Rattle.air_core.specs.Tree.{Interaction, constant}
use Rattle.tool_tables.specs.Words.{word_sent, words_declaration}

-- one column, and a hint at degree 1
abbrev pub twice_declaration : {F : Type 0} → Declaration F
twice_declaration = record (words_declaration 1) { degree_hint = Some 1 }

-- a row takes its word once, and once more
abbrev pub twice_interactions : {F : Type 0} → Ring F → List (Interaction F)
twice_interactions r = word_sent (constant r.one) 1 ∷ word_sent (constant r.one) 1 ∷ []
