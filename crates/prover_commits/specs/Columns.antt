-- The permutation columns that a prover makes, table by table, for lists of challenges. After Plonky3's p3-batch-stark (prove_batch).
use Rattle.std.specs.Prelude.{slice_index_or as get_or}
use Rattle.std.specs.Prelude.{◌≡◌, ℕ, ◌+◌, ◌*◌, ◌^◌, ◌<◌, ◌≤◌, List, [], length, map, All, IfSome, Option, None, Some, Result, Ok, Err, option_map, option_to_list}
use Rattle.std.specs.List.{flat_map}
use Rattle.p3_field.specs.Domain.{CosetData}
use Rattle.p3_field.specs.Field.{Extension}
use Rattle.p3_field.specs.Poly.{tabulate}
use Rattle.p3_matrix.specs.Matrix.{FillsRows, Rows, height}
use Rattle.p3_lookup.specs.Generated.{IsFirstZeroOf, IsGenerated, sent_shape}
use Rattle.p3_lookup.specs.Honest.{Argument}
use Rattle.p3_lookup.specs.Lookup.{IsLookup}
use Rattle.p3_lookup.specs.declared.terminal.LookupTerminal.{LookupTerminal}
use Rattle.batch_config.specs.Setting.{Setting}
use Rattle.law_committed.specs.Rows.{flattened_matrix}
use Rattle.law_valid.specs.Traced.{TracedTable, declared, log_rows}
use Rattle.law_honest.specs.HonestProof.{HasFractions, Prover, argument_of_table, permutation_matrices, honest_terminal}
use Rattle.prover_answer.specs.Batch.{Batch, table_at}
use Rattle.prover_answer.specs.declared.error.ProvingError.{ProvingError}
use Rattle.prover_answer.specs.declared.error.ProvingError.TheVariants.{LookupDenominatorZero, MultiplicityBound, OutOfMemory, Pcs, WitnessNotFound}

-- the first denominator that is zero in a table of n rows, which stands at this place: its row is named. Out of memory is free
abbrev pub IsZeroAt : {F E R : Type 0} → Argument F E → (n place : ℕ) → ProvingError R → Type 0
IsZeroAt a n place (Pcs phase source) = ⊥
IsZeroAt a n place (MultiplicityBound bus) = ⊥
IsZeroAt a n place (LookupDenominatorZero i row) = (i ≡ place) × ((lookup : ℕ) × (tuple : ℕ) × IsFirstZeroOf a n row lookup tuple)
IsZeroAt a n place (WitnessNotFound step) = ⊥
IsZeroAt a n place OutOfMemory = Unit {0}

-- What is made of a table of n rows: its permutation columns as they are generated, flattened, and its terminal, where it has lookups.
abbrev pub AreFlattened : {F E : Type 0} → Extension F E → Argument F E → (n : ℕ) → Option (Rows F) → Option (LookupTerminal E) → Type 0
AreFlattened e a n None None = length a.lookups ≡ 0
AreFlattened e a n None (Some t) = ⊥
AreFlattened e a n (Some f) None = ⊥
AreFlattened {E = E} e a n (Some f) (Some t) = (0 < length a.lookups) × ((m : Rows E) × FillsRows m.values m.width × (f ≡ flattened_matrix e m) × IsGenerated a n (Ok (m, t)))

-- of a table by itself, for the challenges of its lookups
module _ {S F E C : Type 0} (c : Setting S F E C) where
  -- Permutation columns can be asked for: nothing is masked, there is a domain of its rows, which its preprocessed trace also has, its lookups read what
  -- its traces have, and there are two challenges for each.
  pub record IsReadyForColumns (t : TracedTable F) (challenges : List E) : Type 0 where
    pub rows : height t.trace ≡ 2 ^ log_rows c t
    pub unmasked : log_rows c t ≡ t.degree_bits
    pub fits : t.degree_bits ≤ c.two_adicity
    pub preprocessed : IfSome (declared t).preprocessed (λ m. height m ≡ height t.trace)
    pub lookups : All (IsLookup (sent_shape t.trace (declared t).preprocessed t.publics)) t.lookups
    pub challenges_long : length challenges ≡ 2 * length t.lookups

  -- What is made of it: no denominator is zero, and there are its matrix of permutation columns and its terminal, where it has lookups.
  pub record IsPermutationMade (p : Prover F E C) (t : TracedTable F) (challenges : List E) (made : Option (CosetData F × Rows F) × Option (LookupTerminal E)) : Type 0 where
    pub fractions : HasFractions c p t challenges
    pub matrix : option_to_list made.0 ≡ permutation_matrices c p t challenges
    pub terminal : option_map (λ t. t.0) made.1 ≡ honest_terminal c p t challenges

-- of the tables of a batch, for a list of challenges for each
module _ {S F E C : Type 0} (b : Batch S F E C) (challenges : List (List E)) where
  abbrev pub challenges_of_table : ℕ → List E
  challenges_of_table i = get_or challenges i []

  abbrev pub FractionsOf : ℕ → Type 0
  FractionsOf i = HasFractions b.setting b.prover (table_at b i) (challenges_of_table i)

  -- n tables can be asked for
  abbrev pub AreReady : ℕ → Type 0
  AreReady n = (i : ℕ) → i < n → IsReadyForColumns b.setting (table_at b i) (challenges_of_table i)

  -- What is made of the first n tables: their matrices of permutation columns, and their terminals.
  pub record ArePermutationsMade (n : ℕ) (columns : List (CosetData F × Rows F)) (terminals : List (Option (LookupTerminal E))) : Type 0 where
    pub fractions : (i : ℕ) → i < n → FractionsOf i
    pub columns_are : columns ≡ flat_map (λ i. permutation_matrices b.setting b.prover (table_at b i) (challenges_of_table i)) (tabulate n (λ i. i))
    pub terminals_are : map (option_map (λ t. t.0)) terminals ≡ tabulate n (λ i. honest_terminal b.setting b.prover (table_at b i) (challenges_of_table i))

  -- Why nothing is made of n tables: a denominator is zero, the first by tables and then by rows. Out of memory is free.
  pub record IsFirstZeroInRow (n i row : ℕ) : Type 0 where
    pub within : i < n
    pub before : (j : ℕ) → j < i → FractionsOf j
    pub lookup : ℕ
    pub tuple : ℕ
    pub first : IsFirstZeroOf (argument_of_table b.setting b.prover (table_at b i) (challenges_of_table i)) (height (table_at b i).trace) row lookup tuple

  abbrev pub NoneMade : {R : Type 0} → (n : ℕ) → ProvingError R → Type 0
  NoneMade n (Pcs phase source) = ⊥
  NoneMade n (MultiplicityBound bus) = ⊥
  NoneMade n (LookupDenominatorZero i row) = IsFirstZeroInRow n i row
  NoneMade n (WitnessNotFound step) = ⊥
  NoneMade n OutOfMemory = Unit {0}

  -- the answer for one table more, after the first n of them, and for all m tables, where a value holds columns and terminals
  abbrev pub IsMadeMore : {T R : Type 0} → (m n : ℕ) → (T → List (CosetData F × Rows F)) → (T → List (Option (LookupTerminal E))) → Result T (ProvingError R) → Type 0
  IsMadeMore m n columns terminals (Ok r) = ArePermutationsMade (n + 1) (columns r) (terminals r)
  IsMadeMore m n columns terminals (Err e) = NoneMade m e

  abbrev pub IsAllMade : {T R : Type 0} → (m : ℕ) → (T → List (CosetData F × Rows F)) → (T → List (Option (LookupTerminal E))) → Result T (ProvingError R) → Type 0
  IsAllMade m columns terminals (Ok r) = ArePermutationsMade m (columns r) (terminals r)
  IsAllMade m columns terminals (Err e) = NoneMade m e
