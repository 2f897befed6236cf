-- What tables of words send: it reads declared cells, and what was appended for a table that takes, or gives, was appended for the table.
use Rattle.std.proofs.Common.{◌≡◌, List, [], All, rules, sym, subst}
use Rattle.p3_field.specs.Ring.{Ring}
use Rattle.air_core.specs.Shape.{IsInteraction, declared_shape}
use Rattle.air_core.specs.Tree.{Asserted, Interaction, SomeFirst}
use Rattle.tool_tables.specs.Words.{give_interactions, take_interactions, words_declaration, words_interactions, words_width}
use Rattle.tool_tables.specs.declared.words.WordsAir.{WordsAir}
use Rattle.tool_tables.specs.declared.words.WordsAir.TheVariants.{Take, Give}

pub words-interactions_read : {F : Type 0} (r : Ring F) (a : WordsAir) → All (IsInteraction (declared_shape {F = F} (words_declaration (words_width a)))) (words_interactions r a)
words-interactions_read r Take = search rules
words-interactions_read r Give = search rules

module _ {B F : Type 0} (appends : B → B → List (Asserted F) → List (Interaction F) → Type 0) (r : Ring F) (a : WordsAir) (x y : B) where
  pub taken : a ≡ Take → appends x y [] (take_interactions r) → appends x y [] (words_interactions r a)
  taken e = subst (λ (b : WordsAir). appends x y [] (words_interactions r b)) (sym e)

  pub given : a ≡ Give → appends x y [] (give_interactions r) → appends x y [] (words_interactions r a)
  given e = subst (λ (b : WordsAir). appends x y [] (words_interactions r b)) (sym e)

  pub first-taken : a ≡ Take → SomeFirst (appends x y) [] (take_interactions r) → SomeFirst (appends x y) [] (words_interactions r a)
  first-taken e = subst (λ (b : WordsAir). SomeFirst (appends x y) [] (words_interactions r b)) (sym e)

  pub first-given : a ≡ Give → SomeFirst (appends x y) [] (give_interactions r) → SomeFirst (appends x y) [] (words_interactions r a)
  first-given e = subst (λ (b : WordsAir). SomeFirst (appends x y) [] (words_interactions r b)) (sym e)
