-- The extensions of the chunks of some first tables.
use Rattle.std.proofs.Common.{◌≡◌, ℕ, ◌+◌, ◌^◌, List, [], ◌∷◌, ◌++◌, length, Result, IfOk, sym, ◌∙◌, ap, subst}
use Rattle.p3_field.specs.Checks.{Check, NoneFails, in_turn}
use Rattle.p3_field.specs.Domain.{CosetData}
use Rattle.p3_field.specs.Laws.Checks.{none_in_turn, none_of_none}
use Rattle.p3_field.specs.Laws.Tabulate.{length-tabulate}
use Rattle.p3_field.specs.Poly.{tabulate}
use Rattle.p3_matrix.specs.Matrix.{Rows}
use Rattle.commit_core.specs.Commitments.{AreExtensions}
use Rattle.commit_core.specs.Failure.{NoneOf}
use Rattle.prover_answer.specs.Batch.{Batch, log_parts_at}
use Rattle.prover_answer.specs.Proving.{IsPcsRefusal}
use Rattle.prover_answer.specs.Verdict.{IsProverVerdict}
use Rattle.prover_answer.specs.declared.error.ProvingError.{ProvingError}
use Rattle.batch_setup.specs.declared.error.ProverPhase.{ProverPhase}
use Rattle.batch_setup.specs.declared.error.ProverPhase.TheVariants.{QuotientEvaluations}
use Rattle.law_honest.specs.Laws.Flat.{flat_more}
use Rattle.law_acceptance.specs.Laws.Rounds.{each_paired, paired_append, paired_from}
use Rattle.prover_quotients.specs.Tables.{chunks_below, chunks_by}

-- the extensions of two lists of matrices one after another
extensions_append : {F D : Type 0} (extends : D → Rows F → Rows F → Type 0) (es fs : List (D × Rows F)) (ls ks : List (Rows F)) → AreExtensions extends es ls → AreExtensions extends fs ks → AreExtensions extends (es ++ fs) (ls ++ ks)
extensions_append {F} {D} extends es fs ls ks a b =
    let R : D × Rows F → Rows F → Type 0 = λ e l. extends e.0 e.1 l in
    each_paired R (es ++ fs) (ls ++ ks) (paired_append R es fs ls ks (paired_from R es ls a) (paired_from R fs ks b))

no_extensions : {F D : Type 0} (extends : D → Rows F → Rows F → Type 0) → AreExtensions extends [] []
no_extensions {F} {D} extends = let R : D × Rows F → Rows F → Type 0 = λ e l. extends e.0 e.1 l in each_paired R [] [] tt

-- how many items a list has that is a table
pub table_count : {A : Type 0} (n : ℕ) (u : ℕ → A) (xs : List A) → xs ≡ tabulate n u → length xs ≡ n
table_count n u xs e = ap length e ∙ length-tabulate n u

-- a check that asks for so many of some matrices, for the same matrices in other words
pub verdict_along : {T M R : Type 0} (phase : ProverPhase) (fault : List M → ℕ → R → Type 0) (xs ys : List M) (m n : ℕ) (r : Result T (ProvingError R)) → xs ≡ ys → m ≡ n
    → IsProverVerdict (record { refusal = IsPcsRefusal phase (fault xs m); holds = NoneOf (fault xs m) } ∷ []) r → IsProverVerdict (record { refusal = IsPcsRefusal phase (fault ys n); holds = NoneOf (fault ys n) } ∷ []) r
verdict_along phase fault xs ys m n r a b v =
    subst (λ y. IsProverVerdict (record { refusal = IsPcsRefusal phase (fault y n); holds = NoneOf (fault y n) } ∷ []) r) a
    (subst (λ k. IsProverVerdict (record { refusal = IsPcsRefusal phase (fault xs k); holds = NoneOf (fault xs k) } ∷ []) r) b v)

pub extensions_along : {F D X T : Type 0} (extends : D → Rows F → Rows F → Type 0) (items : T → List (Rows F)) (es fs : List (D × Rows F)) (r : Result T X) → es ≡ fs
    → IfOk r (λ v. AreExtensions extends es (items v)) → IfOk r (λ v. AreExtensions extends fs (items v))
extensions_along extends items es fs r a h = subst (λ y. IfOk r (λ v. AreExtensions extends y (items v))) a h

module _ {S F E C R : Type 0} (fault : List (CosetData F × Rows F) → ℕ → R → Type 0) (extends : CosetData F → Rows F → Rows F → Type 0) (b : Batch S F E C) (challenges : List (List E)) (alpha : E) where
  -- the check of table i
  abbrev pub extended_by : ℕ → List (Check (ProvingError R))
  extended_by i = record {
    refusal = IsPcsRefusal QuotientEvaluations (fault (chunks_by b challenges alpha i) (2 ^ log_parts_at b i));
    holds = NoneOf (fault (chunks_by b challenges alpha i) (2 ^ log_parts_at b i));
  } ∷ []

  -- none of the first n tables is refused, and these are the extensions
  pub record AreExtended (n : ℕ) (ldes : List (Rows F)) : Type 0 where
    pub none : NoneFails (in_turn n extended_by)
    pub extensions : AreExtensions extends (chunks_below b challenges alpha n) ldes

  pub none_extended : (ldes : List (Rows F)) → ldes ≡ [] → AreExtended 0 ldes
  none_extended ldes e = record { none = none_of_none extended_by; extensions = subst (AreExtensions extends []) (sym e) (no_extensions extends) }

  pub more_extended : (n : ℕ) (ldes own all : List (Rows F)) → AreExtended n ldes → NoneFails (extended_by n) → AreExtensions extends (chunks_by b challenges alpha n) own → all ≡ ldes ++ own → AreExtended (n + 1) all
  more_extended n ldes own all H none A is =
      let f = chunks_by b challenges alpha in
      let whole : chunks_below b challenges alpha n ++ f n ≡ chunks_below b challenges alpha (n + 1) = flat_more f n in
      record {
        none = none_in_turn extended_by n H.none none;
        extensions =
            subst (λ es. AreExtensions extends es all) whole
            (subst (AreExtensions extends (chunks_below b challenges alpha n ++ f n)) (sym is) (extensions_append extends (chunks_below b challenges alpha n) (f n) ldes own H.extensions A));
      }

  -- all tables
  pub all_extended : (n m : ℕ) (ldes : List (Rows F)) → AreExtended n ldes → n ≡ m → AreExtensions extends (chunks_below b challenges alpha m) ldes
  all_extended n m ldes H e = subst (λ k. AreExtensions extends (chunks_below b challenges alpha k) ldes) e H.extensions
