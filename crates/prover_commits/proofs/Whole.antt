-- What is made of all tables of a batch, for the challenges that are drawn.
use Rattle.std.proofs.Common.{◌≡◌, ℕ, ◌+◌, ◌*◌, ◌^◌, ◌<◌, List, [], ◌∷◌, ◌++◌, length, get_or, map, Option, None, Some, Result, Ok, Err, inl, inr, refl, sym, ◌∙◌, ap, subst, arith}
use Rattle.std.specs.Prelude.{IfOk, IfSome, option_map, option_to_list}
use Rattle.std.specs.Result.{IsErrAnd}
use Rattle.std.proofs.lemmas.Bool.{cases_lt}
use Rattle.std.proofs.lemmas.List.{map-append}
use Rattle.p3_field.specs.Checks.{FirstFails, NoneFails}
use Rattle.p3_field.specs.Domain.{CosetData}
use Rattle.p3_field.specs.Laws.Tabulate.{get_or-tabulate, tabulate_push, tabulate_same}
use Rattle.p3_matrix.specs.Matrix.{Rows, height}
use Rattle.air_core.specs.Shape.{HasColumns}
use Rattle.p3_lookup.specs.Generated.{IsFirstZeroOf}
use Rattle.p3_lookup.specs.declared.terminal.LookupTerminal.{LookupTerminal}
use Rattle.batch_config.specs.Setting.{masks}
use Rattle.law_valid.specs.Laws.Holding.{lookups_fit}
use Rattle.law_valid.specs.Traced.{declared, log_rows}
use Rattle.law_committed.specs.Fields.{FieldsLaws}
use Rattle.law_committed.specs.Traces.{IsSomeTall}
use Rattle.law_honest.specs.HonestProof.{AreCanonical, HasFractions, IsDenominatorZero, argument_of_table, challenges_at, permutation_matrices, honest_terminal, terminals}
use Rattle.law_honest.specs.Laws.Answered.{fault_is}
use Rattle.law_honest.specs.Laws.Flat.{flat_more, flat_same}
use Rattle.law_honest.specs.Laws.Ground.{denominator_event, one_lookup}
use Rattle.prover_answer.specs.Batch.{Batch, IsTracedAll, all_challenges, all_permutations, table_at, table_count}
use Rattle.prover_answer.specs.Proving.{HaveFractionsFor, IsPairGroundOf, fraction_part}
use Rattle.prover_answer.specs.Verdict.{IsProverRefusal, IsProverVerdict}
use Rattle.prover_answer.specs.declared.error.ProvingError.{ProvingError}
use Rattle.prover_answer.specs.declared.error.ProvingError.TheVariants.{LookupDenominatorZero, MultiplicityBound, OutOfMemory, Pcs, WitnessNotFound}
use Rattle.prover_commits.specs.Columns.{ArePermutationsMade, FractionsOf, IsFirstZeroInRow, IsAllMade, IsPermutationMade, IsMadeMore, IsReadyForColumns, IsZeroAt, NoneMade, challenges_of_table}

-- what is made of no table, and of one table more
module _ {S F E C : Type 0} (b : Batch S F E C) (challenges : List (List E)) where
  pub made_of_none : ArePermutationsMade b challenges 0 [] []
  made_of_none = record { fractions = λ i h. absurd (omega (arith, h)); columns_are = refl; terminals_are = refl }

  pub made_more : (n : ℕ) (columns more : List (CosetData F × Rows F)) (terminals later : List (Option (LookupTerminal E))) (matrix : Option (CosetData F × Rows F)) (terminal : Option (LookupTerminal E))
      → ArePermutationsMade b challenges n columns terminals → IsPermutationMade b.setting b.prover (table_at b n) (challenges_of_table b challenges n) (matrix, terminal)
      → more ≡ columns ++ option_to_list matrix → later ≡ terminals ++ terminal ∷ [] → ArePermutationsMade b challenges (n + 1) more later
  made_more n columns more terminals later matrix terminal A M added pushed =
      let f = λ (i : ℕ). permutation_matrices b.setting b.prover (table_at b i) (challenges_of_table b challenges i) in
      let t = λ (i : ℕ). honest_terminal b.setting b.prover (table_at b i) (challenges_of_table b challenges i) in
      let value : Option (LookupTerminal E) → Option E = option_map (λ x. x.0) in
      record {
        fractions = λ i h. elim (cases_lt i n) [
          | inl less ↦ A.fractions i less
          | inr over ↦ let e : n ≡ i = omega (arith, over, h) in subst (FractionsOf b challenges) e M.fractions
        ];
        columns_are = added ∙ ((λ k. A.columns_are k ++ M.matrix k) ∙ flat_more f n);
        terminals_are = ap (map value) pushed ∙ (map-append value terminals (terminal ∷ []) ∙ tabulate_push n t (map value terminals) (value terminal) A.terminals_are M.terminal);
      }

  pub made_until : (m n : ℕ) (columns : List (CosetData F × Rows F)) (terminals : List (Option (LookupTerminal E))) → ArePermutationsMade b challenges m columns terminals → m ≡ n → ArePermutationsMade b challenges n columns terminals
  made_until m n columns terminals A e = subst (λ k. ArePermutationsMade b challenges k columns terminals) e A

  -- what the exit of a `?` returns is the error of the call before it
  pub made_exit : {T R : Type 0} (m n : ℕ) (e : ProvingError R) (r : Result T (ProvingError R)) (columns : T → List (CosetData F × Rows F)) (ts : T → List (Option (LookupTerminal E)))
      → IsErrAnd r (λ y. y ≡ e) → NoneMade b challenges m e → IsMadeMore b challenges m n columns ts r
  made_exit m n e (Err y) columns ts p z = subst (NoneMade b challenges m) (sym p) z
  made_exit m n e (Ok x) columns ts p z = absurd p

  pub all_made_until : {T R : Type 0} (m n : ℕ) (r : Result T (ProvingError R)) (columns : T → List (CosetData F × Rows F)) (terminals : T → List (Option (LookupTerminal E)))
      → IsAllMade b challenges m columns terminals r → m ≡ n → IsAllMade b challenges n columns terminals r
  all_made_until m n r columns terminals A e = subst (λ k. IsAllMade b challenges k columns terminals r) e A

  -- the zero denominator of table n is the first
  pub zero_of_table : {R : Type 0} (m n : ℕ) (e : ProvingError R) → n < m → ((i : ℕ) → i < n → FractionsOf b challenges i)
      → IsZeroAt (argument_of_table b.setting b.prover (table_at b n) (challenges_of_table b challenges n)) (height (table_at b n).trace) n e → NoneMade b challenges m e
  zero_of_table m n (Pcs phase source) h before z = z
  zero_of_table m n (MultiplicityBound bus) h before z = z
  zero_of_table m n (LookupDenominatorZero i row) h before z =
      subst (λ k. IsFirstZeroInRow b challenges m k row) (sym z.0) (record { within = h; before = before; lookup = z.1.0; tuple = z.1.1; first = z.1.2 })
  zero_of_table m n (WitnessNotFound step) h before z = z
  zero_of_table m n OutOfMemory h before z = tt

module _ {S F E C : Type 0} (b : Batch S F E C) where
  -- the preprocessed trace of a traced table has its rows
  some_tall : (o : Option (Rows F)) (n m : ℕ) → m ≡ n → HasColumns o → IsSomeTall n o → IfSome o (λ r. height r ≡ m)
  some_tall None n m e some tall = tt
  some_tall (Some r) n m e some tall = tall.tall some ∙ sym e

  -- so its permutation columns can be asked for
  pub ready : (L : FieldsLaws b.setting.field b.setting.extension b.setting.two_adicity b.prover.inverse) (B : IsTracedAll b) → masks b.setting ≡ 0 → (i : ℕ) (own : List E) → i < table_count b
      → HasColumns (declared (table_at b i)).preprocessed → length own ≡ 2 * length (table_at b i).lookups → IsReadyForColumns b.setting (table_at b i) own
  ready L B plain i own h some long =
      let t = table_at b i in
      let T = B.traced i h in
      let small = (B.domains i h).fits in
      let rows = T.rows.tall in
      record {
        rows = rows;
        unmasked = omega (arith, plain);
        fits = omega (arith, plain, small);
        preprocessed = some_tall (declared t).preprocessed (2 ^ log_rows b.setting t) (height t.trace) rows some T.rows.preprocessed;
        lookups = lookups_fit b.setting b.prover.commitment_of b.statement b.traces b.degree_bits b.prover.inverse L B i h;
        challenges_long = long;
      }

-- for the challenges that are drawn after the value that is ground
module _ {S F E C : Type 0} (b : Batch S F E C) (B : IsTracedAll b) (K : AreCanonical b.setting.field.ring b.setting.order b.prover.canonical) (challenges : List (List E)) (w : Option F) (found : IsPairGroundOf b w)
    (drawn : challenges ≡ all_challenges b w) where
  abbrev drawn_at : Option F → ℕ → List E
  drawn_at v i = challenges_at b.setting b.prover b.statement b.traces b.degree_bits v i

  -- each table's are its own, whatever value is ground
  own : (v : Option F) → IsPairGroundOf b v → (i : ℕ) → i < table_count b → challenges_of_table b challenges i ≡ drawn_at v i
  own v also i h =
      let one = one_lookup b.setting b.prover b.statement b.traces b.degree_bits K w v found also in
      ap (λ l. get_or l i []) drawn ∙ (get_or-tabulate (table_count b) (drawn_at w) i [] h ∙ ap (λ u. drawn_at u i) one)

  all_own : ((i : ℕ) → i < table_count b → FractionsOf b challenges i) → (v : Option F) → IsPairGroundOf b v → HaveFractionsFor b v
  all_own all v also i h = subst (λ (l : List E). HasFractions b.setting b.prover (table_at b i) l) (own v also i h) (all i h)

  columns_drawn : (columns : List (CosetData F × Rows F)) (ts : List (Option (LookupTerminal E))) → ArePermutationsMade b challenges (table_count b) columns ts → (v : Option F) → IsPairGroundOf b v → columns ≡ all_permutations b v
  columns_drawn columns ts A v also =
      A.columns_are
      ∙ flat_same (λ i. permutation_matrices b.setting b.prover (table_at b i) (challenges_of_table b challenges i)) (λ i. permutation_matrices b.setting b.prover (table_at b i) (drawn_at v i)) (table_count b) (λ i. i)
      (λ i h. ap (permutation_matrices b.setting b.prover (table_at b i)) (own v also i h))

  terminals_drawn : (columns : List (CosetData F × Rows F)) (ts : List (Option (LookupTerminal E))) → ArePermutationsMade b challenges (table_count b) columns ts → (v : Option F) → IsPairGroundOf b v
      → map (option_map (λ t. t.0)) ts ≡ terminals b.setting b.prover b.statement b.traces b.degree_bits v
  terminals_drawn columns ts A v also =
      A.terminals_are
      ∙ tabulate_same (table_count b) (λ i. honest_terminal b.setting b.prover (table_at b i) (challenges_of_table b challenges i)) (λ i. honest_terminal b.setting b.prover (table_at b i) (drawn_at v i))
      (λ i h. ap (honest_terminal b.setting b.prover (table_at b i)) (own v also i h))

  -- the first zero denominator is the event
  event : (i row : ℕ) → IsFirstZeroInRow b challenges (table_count b) i row → IsDenominatorZero b.setting b.prover b.statement b.traces b.degree_bits i row
  event i row Z =
      let at = λ (j : ℕ) (l : j < i). own w found j (let h = Z.within in omega (arith, h, l)) in
      fault_is b.setting b.prover b.statement b.traces b.degree_bits w i row Z.lookup Z.tuple found Z.within
      (λ j l. subst (λ (ch : List E). HasFractions b.setting b.prover (table_at b j) ch) (at j l) (Z.before j l))
      (B.traced i Z.within).rows.tall
      (subst (λ (ch : List E). IsFirstZeroOf (argument_of_table b.setting b.prover (table_at b i) ch) (height (table_at b i).trace) row Z.lookup Z.tuple) (own w found i Z.within) Z.first)

  -- so the answer is that of the check
  pub verdict : {T R : Type 0} (r : Result T (ProvingError R)) (columns : T → List (CosetData F × Rows F)) (ts : T → List (Option (LookupTerminal E)))
      → IsAllMade b challenges (table_count b) columns ts r → IsProverVerdict (fraction_part b) r
  unfolding NoneFails FirstFails
  verdict (Ok x) columns ts A = (all_own A.fractions, tt)
  verdict {R = R} (Err e) columns ts Z = refused e Z
    where
      refused : (e : ProvingError R) → NoneMade b challenges (table_count b) e → IsProverRefusal (fraction_part b) e
      refused (Pcs phase source) z = absurd z
      refused (MultiplicityBound bus) z = absurd z
      refused (LookupDenominatorZero i row) z =
          let Z = event i row z in
          inr ((λ holds. denominator_event b.setting b.prover b.statement b.traces b.degree_bits K i row w Z found (holds w found)), (i, row, refl, Z))
      refused (WitnessNotFound step) z = absurd z
      refused OutOfMemory z = tt

  pub columns_answer : {T R : Type 0} (r : Result T (ProvingError R)) (columns : T → List (CosetData F × Rows F)) (ts : T → List (Option (LookupTerminal E)))
      → IsAllMade b challenges (table_count b) columns ts r → IfOk r (λ x. (v : Option F) → IsPairGroundOf b v → columns x ≡ all_permutations b v)
  columns_answer (Ok x) columns ts A = columns_drawn (columns x) (ts x) A
  columns_answer (Err e) columns ts Z = tt

  pub terminals_answer : {T R : Type 0} (r : Result T (ProvingError R)) (columns : T → List (CosetData F × Rows F)) (ts : T → List (Option (LookupTerminal E)))
      → IsAllMade b challenges (table_count b) columns ts r → IfOk r (λ x. (v : Option F) → IsPairGroundOf b v → map (option_map (λ t. t.0)) (ts x) ≡ terminals b.setting b.prover b.statement b.traces b.degree_bits v)
  terminals_answer (Ok x) columns ts A = terminals_drawn (columns x) (ts x) A
  terminals_answer (Err e) columns ts Z = tt
