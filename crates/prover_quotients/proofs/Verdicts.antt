-- The answers of what the backend is asked for the quotients of a batch, whose challenges are those of an honest proof.
use Rattle.std.proofs.Common.{◌≡◌, ℕ, zero, suc, ◌^◌, ◌<◌, List, [], ◌++◌, get_or, Option, Result, Ok, Err, inl, inr, sym, ◌∙◌, ap, subst, arith}
use Rattle.std.specs.Result.{IsErrAnd}
use Rattle.p3_field.specs.Checks.{Check, FirstFails, NoneFails, in_turn}
use Rattle.p3_field.specs.Laws.Checks.{first_after, first_parted, first_stops, none_append, none_at, none_of_each}
use Rattle.p3_field.specs.Laws.Tabulate.{get_or-tabulate}
use Rattle.p3_matrix.specs.Matrix.{Rows}
use Rattle.commit_core.specs.Commitments.{AreExtensions}
use Rattle.commit_core.specs.Failure.{NoneOf}
use Rattle.prover_answer.specs.Backend.{ProverBackend}
use Rattle.prover_answer.specs.Batch.{Batch, all_challenges, all_chunks, chunks_of, folding, log_parts_at, table_at, table_count}
use Rattle.prover_answer.specs.Laws.Verdicts.{answer_along, answer_before, answer_past, answer_exits, refusal_along, refusal_is}
use Rattle.prover_answer.specs.Proving.{IsPairGroundOf, IsPcsRefusal, extension_part, quotient_part}
use Rattle.prover_answer.specs.Verdict.{FirstRefused, IsProverAnswer, IsProverRefusal, IsProverVerdict}
use Rattle.prover_answer.specs.declared.error.ProvingError.{ProvingError}
use Rattle.batch_setup.specs.declared.error.ProverPhase.TheVariants.{QuotientEvaluations}
use Rattle.law_honest.specs.HonestProof.{AreCanonical, challenges_at, chunk_matrices}
use Rattle.law_honest.specs.Laws.Flat.{flat_same}
use Rattle.law_honest.specs.Laws.Ground.{one_lookup}
use Rattle.prover_quotients.specs.Asked.{committing, extending_at}
use Rattle.prover_quotients.specs.Tables.{chunks_below, chunks_by}

-- checks of n things in turn, each of which fails where the other does
module _ {R : Type 0} (f g : ℕ → List (Check R)) where
  none_as : (n : ℕ) → ((i : ℕ) → i < n → NoneFails (f i) → NoneFails (g i)) → NoneFails (in_turn n f) → NoneFails (in_turn n g)
  none_as n none h = none_of_each g n (λ i b. none i b (none_at f n i b h))

  first_as : (n : ℕ) (e : R) → ((i : ℕ) → i < n → NoneFails (f i) → NoneFails (g i)) → ((i : ℕ) → i < n → FirstFails (f i) e → FirstFails (g i) e) → FirstFails (in_turn n f) e → FirstFails (in_turn n g) e
  unfolding in_turn
  first_as zero e none first h = h
  first_as (suc n) e none first h = elim (first_parted (in_turn n f) (f n) e h) [
    | inl before ↦ first_stops (in_turn n g) (g n) e (first_as n e (λ i b. none i (omega (arith, b))) (λ i b. first i (omega (arith, b))) before)
    | inr here ↦ first_after (in_turn n g) (g n) e (none_as n (λ i b. none i (omega (arith, b))) here.0) (first n (omega arith) here.1)
  ]

module _ {S F E C D P R : Type 0} (k : ProverBackend S F E C D P R) (b : Batch S F E C) (K : AreCanonical b.setting.field.ring b.setting.order b.prover.canonical) (w : Option F) (G : IsPairGroundOf b w)
    (challenges : List (List E)) (alpha : E) (drawn : challenges ≡ all_challenges b w) (folds : alpha ≡ folding b w) where
  -- a table's chunks
  same_chunks : (v : Option F) → IsPairGroundOf b v → (i : ℕ) → i < table_count b → chunks_of b v i ≡ chunks_by b challenges alpha i
  same_chunks v H i l =
      let one = one_lookup b.setting b.prover b.statement b.traces b.degree_bits K v w H G in
      let own : get_or challenges i [] ≡ challenges_at b.setting b.prover b.statement b.traces b.degree_bits w i =
      ap (λ ls. get_or ls i []) drawn ∙ get_or-tabulate (table_count b) (challenges_at b.setting b.prover b.statement b.traces b.degree_bits w) i [] l in
      (λ j. chunks_of b (one j) i) ∙ (λ j. chunk_matrices b.setting b.prover (table_at b i) (sym own j) (sym folds j))

  none_here : (i : ℕ) → i < table_count b → NoneFails (extending_at k b challenges alpha i) → NoneFails (extension_part k b i)
  unfolding NoneFails
  none_here i l h = ((λ v H. subst (λ ms. NoneOf (k.extension_fault ms (2 ^ log_parts_at b i))) (sym (same_chunks v H i l)) h.0), tt)

  first_here : (i : ℕ) (e : ProvingError R) → i < table_count b → FirstFails (extending_at k b challenges alpha i) e → FirstFails (extension_part k b i) e
  unfolding FirstFails
  first_here i e l f = elim f [
    | inl later ↦ absurd later.1
    | inr here ↦
        let same = same_chunks w G i l in
        inr (
          (λ all. here.0 (subst (λ ms. NoneOf (k.extension_fault ms (2 ^ log_parts_at b i))) same (all w G))),
          (w, G, subst (λ ms. IsPcsRefusal QuotientEvaluations (k.extension_fault ms (2 ^ log_parts_at b i)) e) (sym same) here.1),
        )
  ]

  -- none of the tables is refused
  none_of_all : (n : ℕ) → n ≡ table_count b → NoneFails (in_turn n (extending_at k b challenges alpha)) → NoneFails (in_turn (table_count b) (extension_part k b))
  none_of_all n many h =
      none_as (extending_at k b challenges alpha) (extension_part k b) (table_count b) none_here
      (subst (λ m. NoneFails (in_turn m (extending_at k b challenges alpha))) many h)

  -- or one is
  refusal_of_all : (n : ℕ) (e : ProvingError R) → n ≡ table_count b → IsProverRefusal (in_turn n (extending_at k b challenges alpha)) e → IsProverRefusal (in_turn (table_count b) (extension_part k b)) e
  refusal_of_all n e many v =
      let f = extending_at k b challenges alpha in
      refusal_along (in_turn (table_count b) f) (in_turn (table_count b) (extension_part k b)) e (λ d. first_as f (extension_part k b) (table_count b) d none_here (λ i l. first_here i d l))
      (subst (λ m. IsProverRefusal (in_turn m f) e) many v)

  -- these are extensions of the chunks of all quotients
  abbrev pub ExtendAll : List (Rows F) → Type 0
  ExtendAll ldes = (v : Option F) → IsPairGroundOf b v → AreExtensions k.extends (all_chunks b v) ldes

  pub extend_all : (n : ℕ) (ldes : List (Rows F)) → n ≡ table_count b → AreExtensions k.extends (chunks_below b challenges alpha n) ldes → ExtendAll ldes
  extend_all n ldes many A = λ v H.
      let same : chunks_below b challenges alpha (table_count b) ≡ all_chunks b v = sym (flat_same (chunks_of b v) (chunks_by b challenges alpha) (table_count b) (λ i. i) (same_chunks v H)) in
      subst (λ ms. AreExtensions k.extends ms ldes) same (subst (λ m. AreExtensions k.extends (chunks_below b challenges alpha m) ldes) many A)

  -- the answer where a table is refused
  pub answer_refused : {T : Type 0} (n : ℕ) (e : ProvingError R) (r : Result T (ProvingError R)) → n ≡ table_count b → IsErrAnd r (λ y. y ≡ e) → IsProverRefusal (in_turn n (extending_at k b challenges alpha)) e
      → IsProverAnswer (in_turn (table_count b) (extension_part k b) ++ quotient_part k b) r
  answer_refused n e r many exit v =
      let xs = in_turn (table_count b) (extension_part k b) in
      answer_exits (xs ++ quotient_part k b) e r exit (answer_before xs (quotient_part k b) e (refusal_is xs e (refusal_of_all n e many v)))

  -- and where none is: that of the commitment to what extends all
  committed_refused : (ldes : List (Rows F)) → ExtendAll ldes → (e : ProvingError R) → FirstRefused (committing k ldes) e → FirstRefused (quotient_part k b) e
  unfolding FirstRefused
  committed_refused ldes A e f = elim f [
    | inl later ↦ absurd later.1
    | inr here ↦ inr (w, G, (ldes, A w G, here))
  ]

  committed_granted : (ldes : List (Rows F)) → ExtendAll ldes → NoneFails (committing k ldes) → NoneFails (quotient_part k b)
  unfolding NoneFails
  committed_granted ldes A h = ((λ v H. (ldes, A v H, h.0)), tt)

  pub answer_granted : {T : Type 0} (n : ℕ) (ldes : List (Rows F)) (r : Result T (ProvingError R)) → n ≡ table_count b → NoneFails (in_turn n (extending_at k b challenges alpha)) → ExtendAll ldes
      → IsProverVerdict (committing k ldes) r → IsProverAnswer (in_turn (table_count b) (extension_part k b) ++ quotient_part k b) r
  answer_granted n ldes (Ok t) many none A v = none_append (in_turn (table_count b) (extension_part k b)) (quotient_part k b) (none_of_all n many none) (committed_granted ldes A v)
  answer_granted n ldes (Err e) many none A v =
      let xs = in_turn (table_count b) (extension_part k b) in
      answer_past xs (quotient_part k b) e (none_of_all n many none) (answer_along (committing k ldes) (quotient_part k b) e (committed_refused ldes A) (refusal_is (committing k ldes) e v))
