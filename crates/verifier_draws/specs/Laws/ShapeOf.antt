-- The shape of a statement's script is one of batches.
use Rattle.std.proofs.Common.{◌≡◌, ℕ, ◌+◌, Bool, List, [], ◌∷◌, length, map, refl, sym, ◌∙◌, cond}
use Rattle.std.specs.Prelude.{count_by}
use Rattle.std.proofs.lemmas.List.{length-map}
use Rattle.std.proofs.lemmas.List.Sums.{sum_by-cons}
use Rattle.air_core.specs.Shape.{width_of}
use Rattle.transcript_version.specs.declared.TranscriptVersion.{TranscriptVersion}
use Rattle.transcript_version.specs.declared.TranscriptVersion.TheVariants.{V1, V2}
use Rattle.batch_transcript.specs.BatchScript.{is_positive}
use Rattle.batch_transcript.specs.Shapes.{HasCounts, IsShape}
use Rattle.batch_statement.specs.Statement.{Statement}
use Rattle.batch_statement.specs.Words.{has_some}
use Rattle.verifier_draws.specs.Draws.{lookup_counts_in, script_shape}

some_is_positive : {A : Type 0} (xs : List A) → has_some xs ≡ is_positive (length xs)
some_is_positive [] = refl
some_is_positive (x ∷ xs) = refl

-- as many tables have lookups as numbers of lookups aren't zero
counted : {A : Type 0} (xs : List (List A)) → count_by has_some xs ≡ count_by is_positive (map length xs)
counted [] = refl
counted {A} (x ∷ xs) =
    let e = sum_by-cons (λ (y : List A). cond (has_some y) 1 0) x xs in
    let f = sum_by-cons (λ n. cond (is_positive n) 1 0) (length x) (map length xs) in
    let same = some_is_positive x in
    let rest = counted xs in
    e ∙ (λ i. cond (same i) 1 0 + rest i) ∙ sym f

counts_fit : {A : Type 0} (version : TranscriptVersion) (xs : List (List A)) (n : ℕ) → length xs ≡ n → HasCounts version n (count_by has_some xs) (lookup_counts_in version xs)
counts_fit V1 xs n h = refl
counts_fit V2 xs n h = (length-map xs length ∙ h, counted xs)

pub is_shape : {F C : Type 0} (version : TranscriptVersion) (zk : Bool) (lookup_bits ood_bits : ℕ) (s : Statement F C) → length s.common.lookups ≡ length s.tables
    → IsShape (script_shape version zk lookup_bits ood_bits s)
is_shape version zk lookup_bits ood_bits s h =
    let widths = length-map s.tables (λ t. t.declaration.width) in
    record {
      publics = length-map s.tables (λ t. t.declaration.public_values) ∙ sym widths;
      preprocessed = length-map s.tables (λ t. width_of t.declaration.preprocessed) ∙ sym widths;
      counts = counts_fit version s.common.lookups _ (h ∙ sym widths);
    }
