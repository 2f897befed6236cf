-- Where a backend refuses alike what is asked of one commitment, a refusal after checks that hold is that of the first check that fails.
use Rattle.std.specs.Prelude.{slice_get, All}
use Rattle.std.proofs.Common.{inl, inr, ◌≡◌, ℕ, zero, suc, ◌<◌, ◌≤◌, List, [], ◌∷◌, ◌++◌, length, Option, Some, Result, Ok, Err, sym, ◌∙◌, arith}
use Rattle.std.proofs.lemmas.Option.{slice_get_within}
use Rattle.p3_field.specs.Checks.{Check, FirstFails, in_turn}
use Rattle.p3_field.specs.Domain.{CosetData}
use Rattle.p3_matrix.specs.Matrix.{Rows}
use Rattle.commit_core.specs.Claims.{Request}
use Rattle.commit_core.specs.Commitments.{AreAskedAlike, AreExtensions}
use Rattle.p3_lookup.specs.Bound.{bus_load, capped}
use Rattle.p3_lookup.specs.Bus.{batch_buses, bus_count}
use Rattle.p3_lookup.specs.Term.{Term}
use Rattle.plain_pcs.specs.Laws.Listed.{item_at}
use Rattle.batch_config.specs.Setting.{masks}
use Rattle.verifier_shape.specs.ShapeChecks.{heights_of}
use Rattle.law_acceptance.specs.Rounds.{honest_rounds, opened_commitments_of}
use Rattle.prover_answer.specs.Backend.{ProverBackend}
use Rattle.prover_answer.specs.Batch.{Batch, all_chunks, table_count}
use Rattle.prover_answer.specs.Proving.{AreAsked, bound_part, extension_part, fraction_part, lookup_part, ood_part, opening_part, permutation_part, proving_checks, quotient_part, trace_part}
use Rattle.prover_answer.specs.Verdict.{FirstRefused, IsAnswerRefusal, IsProverAnswer, IsProverRefusal, IsProverVerdict}
use Rattle.prover_answer.specs.declared.error.ProvingError.{ProvingError}
use Rattle.prover_answer.specs.declared.error.ProvingError.TheVariants.{Pcs, MultiplicityBound, LookupDenominatorZero, WitnessNotFound, OutOfMemory}

-- a check that is refused doesn't hold
unfoldable pub AreExclusive : {R : Type 0} → List (Check R) → Type 0
AreExclusive [] = Unit {0}
AreExclusive (c ∷ cs) = ((e : _) → c.refusal e → c.holds → ⊥) × AreExclusive cs

module _ {R : Type 0} where
  exclusive_append : (xs ys : List (Check R)) → AreExclusive xs → AreExclusive ys → AreExclusive (xs ++ ys)
  unfolding AreExclusive
  exclusive_append [] ys f g = g
  exclusive_append (x ∷ xs) ys f g = (f.0, exclusive_append xs ys f.1 g)

  exclusive_in_turn : (f : ℕ → List (Check R)) (n : ℕ) → ((i : ℕ) → AreExclusive (f i)) → AreExclusive (in_turn n f)
  unfolding in_turn AreExclusive
  exclusive_in_turn f zero h = tt
  exclusive_in_turn f (suc n) h = exclusive_append (in_turn n f) (f n) (exclusive_in_turn f n h) (h n)

  first_of_refused : (cs : List (Check R)) (e : R) → AreExclusive cs → FirstRefused cs e → FirstFails cs e
  unfolding FirstRefused FirstFails AreExclusive
  first_of_refused [] e x v = absurd v
  first_of_refused (c ∷ cs) e x v = elim v [ inl later ↦ inl (later.0, first_of_refused cs e x.1 later.1) | inr here ↦ inr ((λ h. x.0 e here h), here) ]

refusal_is_first : {R : Type 0} (cs : List (Check (ProvingError R))) (e : ProvingError R) → AreExclusive cs → IsAnswerRefusal cs e → IsProverRefusal cs e
refusal_is_first cs (Pcs p s) x v = first_of_refused cs (Pcs p s) x v
refusal_is_first cs (MultiplicityBound b) x v = first_of_refused cs (MultiplicityBound b) x v
refusal_is_first cs (LookupDenominatorZero i r) x v = first_of_refused cs (LookupDenominatorZero i r) x v
refusal_is_first cs (WitnessNotFound s) x v = first_of_refused cs (WitnessNotFound s) x v
refusal_is_first cs OutOfMemory x v = tt

answer_is_first : {T R : Type 0} (cs : List (Check (ProvingError R))) (r : Result T (ProvingError R)) → AreExclusive cs → IsProverAnswer cs r → IsProverVerdict cs r
answer_is_first cs (Ok t) x v = v
answer_is_first cs (Err e) x v = refusal_is_first cs e x v

-- The backend refuses alike requests for the same points of the same commitments, and extensions of the same matrices.
pub record RefusesAlike {S F E C D P R : Type 0} (k : ProverBackend S F E C D P R) : Type 0 where
  pub opened : (requests others : List (Request D E)) (e : R) → AreAskedAlike k.holds requests others → k.open_fault requests e → k.open_fault others e
  pub extended : (matrices : List (CosetData F × Rows F)) (ldes others : List (Rows F)) (e : R) → AreExtensions k.extends matrices ldes → AreExtensions k.extends matrices others
      → k.ldes_fault ldes e → k.ldes_fault others e

module _ {S F E C : Type 0} (b : Batch S F E C) (R : Type 0) where
  abbrev load : ℕ → ℕ
  load bus = bus_load b.statement.common.lookups (heights_of (masks b.setting) b.degree_bits (table_count b)) bus

  abbrev bus_part : ℕ → List (Check (ProvingError R))
  bus_part bus = record { refusal = λ e. (e ≡ MultiplicityBound (capped bus)) × (b.setting.order ≤ load bus); holds = load bus < b.setting.order } ∷ []

  bus_exclusive : (bus : ℕ) → AreExclusive (bus_part bus)
  unfolding AreExclusive
  bus_exclusive bus = ((λ e r h. let q = r.1 in absurd (omega (arith, q, h))), tt)

  bound_exclusive : AreExclusive (bound_part b {R = R})
  bound_exclusive = exclusive_in_turn bus_part (bus_count (batch_buses b.statement.common.lookups)) bus_exclusive

  lookup_exclusive : AreExclusive (lookup_part b {R = R})
  unfolding AreExclusive
  lookup_exclusive = ((λ e r h. h r.1), tt)

  fraction_exclusive : AreExclusive (fraction_part b {R = R})
  unfolding AreExclusive
  fraction_exclusive = (
    λ e r h.
        let Z = r.3 in
        let here = h Z.witness Z.is_ground r.0 Z.within r.1 Z.first.within in
        let none : Term E = record { count = b.setting.extension.ring.zero; denominator = b.setting.extension.ring.zero } in
        here Z.lookup [] Z.first.first.within Z.tuple none Z.first.first.first.within (Z.first.first.first.zero none),
    tt,
  )

  ood_exclusive : AreExclusive (ood_part b {R = R})
  unfolding AreExclusive
  ood_exclusive = ((λ e r h. h r.1), tt)

module _ {S F E C D P R : Type 0} (k : ProverBackend S F E C D P R) (b : Batch S F E C) (A : RefusesAlike k) where
  -- two lists of requests for what is opened ask alike
  asked_alike : (w : Option F) (z : F) (requests others : List (Request D E)) → AreAsked k b w z requests → AreAsked k b w z others → AreAskedAlike k.holds requests others
  asked_alike w z requests others a o =
      let rounds = honest_rounds b.setting b.prover b.statement b.traces b.degree_bits w z in
      let opened = opened_commitments_of rounds in
      record {
        count = let n = a.ask.count in let m = o.ask.count in omega (arith, n, m);
        each = λ i q there r here.
            let within = slice_get_within others i q there in
            let (round, at) = item_at rounds i (let n = o.ask.count in omega (arith, n, within)) in
            let (c, of_it) = item_at opened i (let n = o.held.count in omega (arith, n, within)) in
            record {
              points_are = a.ask.each i r here round at ∙ sym (o.ask.each i q there round at);
              commitment = c.commitment;
              held = c.matrices;
              kept = c.matrices;
              held_is = a.held.each i c of_it r here;
              kept_is = o.held.each i c of_it q there;
            };
      }

  trace_exclusive : AreExclusive (trace_part k b)
  unfolding AreExclusive
  trace_exclusive = ((λ e r h. h r.0 r.2), tt)

  permutation_exclusive : AreExclusive (permutation_part k b)
  unfolding AreExclusive
  permutation_exclusive = ((λ e r h. h r.0 r.1 r.2.0 r.2.2), tt)

  extension_exclusive : (i : ℕ) → AreExclusive (extension_part k b i)
  unfolding AreExclusive
  extension_exclusive i = ((λ e r h. h r.0 r.1 r.2.0 r.2.2), tt)

  quotient_exclusive : AreExclusive (quotient_part k b)
  unfolding AreExclusive
  quotient_exclusive = (
    λ e r h.
        let told = r.2 in
        let free = h r.0 r.1 in
        free.2 told.2.0 (A.extended (all_chunks b r.0) told.0 free.0 told.2.0 told.1 free.1 told.2.2),
    tt,
  )

  opening_exclusive : AreExclusive (opening_part k b)
  unfolding AreExclusive
  opening_exclusive = (
    λ e r h.
        let told = r.3 in
        let free = h r.0 r.1 r.2 in
        free.2 told.2.0 (A.opened told.0 free.0 told.2.0 (asked_alike r.0 r.1 told.0 free.0 told.1 free.1) told.2.2),
    tt,
  )

  checks_exclusive : AreExclusive (proving_checks k b)
  checks_exclusive =
      exclusive_append (bound_part b) _ (bound_exclusive b R)
      (exclusive_append (trace_part k b) _ trace_exclusive
      (exclusive_append (lookup_part b) _ (lookup_exclusive b R)
      (exclusive_append (fraction_part b) _ (fraction_exclusive b R)
      (exclusive_append (permutation_part k b) _ permutation_exclusive
      (exclusive_append (in_turn (table_count b) (extension_part k b)) _ (exclusive_in_turn (extension_part k b) (table_count b) extension_exclusive)
      (exclusive_append (quotient_part k b) _ quotient_exclusive
      (exclusive_append (ood_part b) _ (ood_exclusive b R) opening_exclusive)))))))

  -- so the answer of the whole work is that of the first check that fails
  pub first_of_answer : {T : Type 0} (r : Result T (ProvingError R)) → IsProverAnswer (proving_checks k b) r → IsProverVerdict (proving_checks k b) r
  first_of_answer r v = answer_is_first (proving_checks k b) r checks_exclusive v
