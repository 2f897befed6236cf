-- What is made of a table by itself.
use Rattle.std.proofs.Common.{◌≡◌, ℕ, ◌^◌, ◌<◌, List, [], ◌∷◌, length, Option, None, Some, refl, sym, ◌∙◌, ap, subst, arith}
use Rattle.std.specs.Prelude.{Ok, option_map, option_to_list}
use Rattle.std.proofs.lemmas.List.Elements.{All-nil}
use Rattle.p3_field.specs.Domain.{CosetData, subgroup}
use Rattle.p3_matrix.specs.Matrix.{FillsRows, Rows, height}
use Rattle.p3_lookup.specs.declared.terminal.LookupTerminal.{LookupTerminal}
use Rattle.p3_lookup.specs.Generated.{IsGenerated}
use Rattle.p3_lookup.specs.Honest.{Argument, RowHasInverses, running_sum}
use Rattle.p3_lookup.specs.Lookup.{LookupData}
use Rattle.p3_lookup.specs.Term.{HasInverses}
use Rattle.batch_config.specs.Setting.{Setting}
use Rattle.law_valid.specs.Traced.{TracedTable, log_rows}
use Rattle.law_committed.specs.Rows.{flattened_matrix}
use Rattle.law_honest.specs.HonestProof.{Prover, argument_of_table, permutation_columns, honest_terminal, where_some}
use Rattle.law_honest.specs.Laws.Answered.{columns_are, terminal_is}
use Rattle.prover_commits.specs.Columns.{AreFlattened, IsPermutationMade, IsReadyForColumns}

nothing : {A : Type 0} (xs : List A) → length xs ≡ 0 → xs ≡ []
nothing [] h = refl
nothing (x ∷ xs) h = absurd (omega (arith, h))

where_there : {A B : Type 0} (ls : List A) (x : B) → 0 < length ls → where_some ls x ≡ Some x
where_there [] x h = absurd (omega (arith, h))
where_there (l ∷ ls) x h = refl

module _ {S F E C : Type 0} (c : Setting S F E C) (p : Prover F E C) (t : TracedTable F) (challenges : List E) where
  -- a table without lookups has no denominators
  no_terms : (a : Argument F E) (row : ℕ) → a.lookups ≡ [] → RowHasInverses a row
  no_terms a row none = subst (λ (ls : List (LookupData F)). RowHasInverses (record a { lookups = ls }) row) (sym none) (All-nil (HasInverses a.ring))

  pub made_none : length t.lookups ≡ 0 → IsPermutationMade c p t challenges (None, None)
  unfolding honest_terminal
  made_none h =
      let none = nothing t.lookups h in
      record {
        fractions = λ row l. no_terms (argument_of_table c p t challenges) row none;
        matrix = ap (λ ls. option_to_list (where_some ls (subgroup c.field.ring t.degree_bits, flattened_matrix c.extension (permutation_columns c p t challenges)))) (sym none);
        terminal = ap (λ ls. where_some ls (running_sum (argument_of_table c p t challenges) (2 ^ log_rows c t))) (sym none);
      }

  pub made_some : IsReadyForColumns c t challenges → 0 < length t.lookups → (m : Rows E) (terminal : LookupTerminal E) → FillsRows m.values m.width
      → IsGenerated (argument_of_table c p t challenges) (height t.trace) (Ok (m, terminal)) → (d : CosetData F) (f : Rows F) → d ≡ subgroup c.field.ring t.degree_bits → f ≡ flattened_matrix c.extension m
      → IsPermutationMade c p t challenges (Some (d, f), Some terminal)
  made_some ready some m terminal fills G d f on flat =
      let tall = ready.rows in
      let own = columns_are c p t challenges some tall m terminal fills G in
      let whole : CosetData F × Rows F = (subgroup c.field.ring t.degree_bits, flattened_matrix c.extension (permutation_columns c p t challenges)) in
      let there : where_some t.lookups whole ≡ Some whole = where_there t.lookups whole some in
      record {
        fractions = λ row l. G.4 row (omega (arith, l, tall));
        matrix = (λ k. (on k, (flat ∙ ap (flattened_matrix c.extension) own) k) ∷ []) ∙ ap option_to_list (sym there);
        terminal = terminal_is c p t challenges some tall m terminal fills G;
      }

  -- so what is generated and flattened is what is made of the table
  pub made_flattened : IsReadyForColumns c t challenges → (d : CosetData F) → d ≡ subgroup c.field.ring t.degree_bits → (matrix : Option (Rows F)) (terminal : Option (LookupTerminal E))
      → AreFlattened c.extension (argument_of_table c p t challenges) (height t.trace) matrix terminal → IsPermutationMade c p t challenges (option_map (λ m. (d, m)) matrix, terminal)
  made_flattened ready d on None None A = made_none A
  made_flattened ready d on None (Some u) A = absurd A
  made_flattened ready d on (Some f) None A = absurd A
  made_flattened ready d on (Some f) (Some u) A = made_some ready A.0 A.1.0 u A.1.1 A.1.3 d f on A.1.2
