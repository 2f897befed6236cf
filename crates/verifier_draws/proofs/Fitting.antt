-- What a statement and a proof give to the script fits its shape, where no check of the proof's shape fails.
use Rattle.std.proofs.Common.{◌≡◌, ℕ, suc, ◌<◌, Bool, List, [], ◌∷◌, ◌++◌, length, map, get_or, Option, Some, None, refl, sym, ◌∙◌, ap, arith, zero-add}
use Rattle.std.specs.Prelude.{count_by, is_some, option_map}
use Rattle.std.specs.List.{filter_map, list_any}
use Rattle.std.proofs.lemmas.List.{length-map, get_or-map, ext_get_or}
use Rattle.p3_field.specs.Checks.{NoneFails}
use Rattle.p3_field.specs.Laws.Checks.{none_before, none_after, none_at, holds_alone}
use Rattle.p3_field.specs.Ring.{Ring}
use Rattle.air_core.specs.Shape.{Declaration, width_of}
use Rattle.transcript_version.specs.declared.TranscriptVersion.{TranscriptVersion}
use Rattle.batch_transcript.specs.Fits.{FitsShape}
use Rattle.batch_statement.specs.Proof.{OpenedWithLookups, ProofData}
use Rattle.batch_statement.specs.Statement.{Statement, AirTable}
use Rattle.verifier_shape.specs.ShapeChecks.{HaveItemForEachTable, Bounds, IsRandomized, bus_bound_part, count_checks, is_some as is_some_number, opened_checks, opened_part, permutation_check, shape_checks, size_part, table_checks, main_checks, chunk_checks, preprocessed_checks, lookup_checks}
use Rattle.batch_statement.specs.Words.{has_some, is_there, no_table}
use Rattle.verifier_draws.specs.Draws.{given_of, script_shape}
use Rattle.verifier_draws.specs.Laws.Singles.{counts_more, counts_some}

there_is_some : {A : Type 0} (o : Option A) → is_some o ≡ is_there o
there_is_some None = refl
there_is_some (Some x) = refl

-- as many values are there as tables have lookups
terminals_counted : {A B : Type 0} (ts : List (Option A)) (xs : List (List B)) → length ts ≡ length xs
    → ((i : ℕ) → i < length ts → is_there (get_or ts i None) ≡ is_some_number (length (get_or xs i []))) → length (filter_map (λ t. t) ts) ≡ count_by has_some xs
terminals_counted [] [] e h = refl
terminals_counted [] (x ∷ xs) e h = absurd (omega (arith, e))
terminals_counted (t ∷ ts) [] e h = absurd (omega (arith, e))
terminals_counted (None ∷ ts) ([] ∷ xs) e h = rw zero-add (terminals_counted ts xs (omega (arith, e)) (λ i b. h (suc i) (omega arith)))
terminals_counted (None ∷ ts) ((y ∷ ys) ∷ xs) e h = let k = h 0 (omega arith) in cc
terminals_counted (Some t ∷ ts) ([] ∷ xs) e h = let k = h 0 (omega arith) in cc
terminals_counted (Some t ∷ ts) ((y ∷ ys) ∷ xs) e h = let k = terminals_counted ts xs (omega (arith, e)) (λ i b. h (suc i) (omega arith)) in ap suc k ∙ sym (counts_more xs y ys)

-- each table has its number of public values
publics_counted : {F : Type 0} (tables : List (AirTable F)) (publics : List (List F)) → length publics ≡ length tables
    → ((i : ℕ) → i < length tables → length (get_or publics i []) ≡ (get_or tables i no_table).declaration.public_values)
    → map length publics ≡ map (λ t. t.declaration.public_values) tables
publics_counted tables publics e h =
    let counts = map (λ t. t.declaration.public_values) tables in
    ext_get_or 0 (map length publics) counts
    (length-map publics length ∙ e ∙ sym (length-map tables (λ t. t.declaration.public_values)))
    (λ i b. let l : i < length publics = let m = length-map publics (length {A = _}) in omega (arith, m, b) in
    let k : i < length tables = omega (arith, l, e) in
    get_or-map length publics i [] 0 l ∙ h i k ∙ sym (get_or-map (λ t. t.declaration.public_values) tables i no_table 0 k))

-- what the checks of a table say of its public values and of its terminal
public_values_fit : {F E : Type 0} (R : Type 0) (i : ℕ) (d : Declaration F) (publics chunks dimension lookups : ℕ) (o : OpenedWithLookups E) (terminal : Bool)
    → NoneFails (table_checks {R = R} i d publics chunks dimension lookups o terminal) → publics ≡ d.public_values
unfolding table_checks NoneFails
public_values_fit R i d publics chunks dimension lookups o terminal h = h.0

terminal_fits : {F E : Type 0} (R : Type 0) (i : ℕ) (d : Declaration F) (publics chunks dimension lookups : ℕ) (o : OpenedWithLookups E) (terminal : Bool)
    → NoneFails (table_checks {R = R} i d publics chunks dimension lookups o terminal) → terminal ≡ is_some_number lookups
unfolding table_checks NoneFails
terminal_fits R i d publics chunks dimension lookups o terminal h =
    let k = none_after
    (main_checks {R = R} i d publics o.base ++ chunk_checks {R = R} i chunks dimension o.base ++ preprocessed_checks {R = R} i (width_of d.preprocessed) d.preprocessed_next o.base.preprocessed)
    (lookup_checks {R = R} i lookups dimension o terminal) h in
    k.1.0

some_mapped : {A B : Type 0} (f : A → B) (o : Option A) → is_some (option_map f o) ≡ is_some o
some_mapped f None = refl
some_mapped f (Some x) = refl

module _ {F E C P : Type 0} (R : Type 0) (f : Ring F) (b : Bounds) (s : Statement F C) (p : ProofData F E C P) where
  pub counts_right : NoneFails (shape_checks {R = R} f b s p) → HaveItemForEachTable s p
  unfolding shape_checks NoneFails
  counts_right h = h.0

  randomized : NoneFails (shape_checks {R = R} f b s p) → IsRandomized b.zk p
  unfolding shape_checks NoneFails
  randomized h = h.1.0

  opened : NoneFails (shape_checks {R = R} f b s p) → NoneFails (opened_part {R = R} f b s p)
  unfolding shape_checks
  opened h =
      let first = count_checks {R = R} b.zk s p ++ size_part {R = R} f b s p ++ bus_bound_part {R = R} b s p in
      none_after first (opened_part {R = R} f b s p) (none_before (first ++ opened_part {R = R} f b s p) (permutation_check {R = R} s p) h)

  permuted : NoneFails (shape_checks {R = R} f b s p) → is_there p.commitments.permutation ≡ list_any has_some s.common.lookups
  unfolding shape_checks
  permuted h =
      holds_alone _ (none_after (count_checks {R = R} b.zk s p ++ size_part {R = R} f b s p ++ bus_bound_part {R = R} b s p ++ opened_part {R = R} f b s p) (permutation_check {R = R} s p) h)

  opened_table : NoneFails (shape_checks {R = R} f b s p) → (i : ℕ) → i < length s.tables → NoneFails (opened_checks {R = R} f b.masks b.dimension s p i)
  opened_table h i l = none_at (opened_checks {R = R} f b.masks b.dimension s p) (length s.tables) i l (opened h)

  -- there is a value for each step
  pub fits : (version : TranscriptVersion) (lookup_bits ood_bits : ℕ) → NoneFails (shape_checks {R = R} f b s p) → FitsShape (script_shape version b.zk lookup_bits ood_bits s) (given_of s p)
  fits version lookup_bits ood_bits h =
      let counts = counts_right h in
      record {
        degree_bits = counts.degree_bits ∙ sym (length-map s.tables (λ t. t.declaration.width));
        publics = publics_counted s.tables s.publics counts.publics (λ i l. public_values_fit R i _ _ _ _ _ _ _ (opened_table h i l));
        preprocessed = some_mapped (λ g. g.commitment) s.common.preprocessed;
        permutation = there_is_some p.commitments.permutation ∙ permuted h ∙ sym (counts_some s.common.lookups);
        terminals =
            terminals_counted p.lookup_terminals s.common.lookups (counts.terminals ∙ sym counts.lookups)
            (λ i l. terminal_fits R i _ _ _ _ _ _ _ (opened_table h i (let e = counts.terminals in omega (arith, e, l))));
        randomization = let k = randomized h in there_is_some p.commitments.random ∙ k.committed;
      }
