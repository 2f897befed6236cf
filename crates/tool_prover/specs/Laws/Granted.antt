-- The plain scheme refuses nothing that a prover of a traced batch asks of it, where its subgroups are large enough.
use Rattle.std.proofs.Common.{◌≡◌, ℕ, zero, suc, ◌+◌, ◌*◌, ◌<◌, ◌≤◌, false, inl, inr, List, [], ◌∷◌, Some, length, map, Option, sym, ◌∙◌, ap, subst, arith}
use Rattle.std.specs.Prelude.{All, option_map, slice_get}
use Rattle.std.proofs.lemmas.Bool.{cases_lt}
use Rattle.std.proofs.lemmas.List.{length-map}
use Rattle.std.proofs.lemmas.Option.{slice_get-map, slice_get_within}
use Rattle.p3_field.specs.Domain.{CosetData, subgroup}
use Rattle.p3_field.specs.Checks.{IsFirstWithout}
use Rattle.p3_field.specs.Field.{FieldLaws, TwoAdicLaws}
use Rattle.p3_field.specs.Laws.SubgroupSelectors.{map_tabulate}
use Rattle.p3_field.specs.Ring.{RingLaws}
use Rattle.p3_matrix.specs.Matrix.{Rows}
use Rattle.air_core.specs.Laws.Lists.{all_tabulate}
use Rattle.commit_core.specs.Claims.{Request}
use Rattle.commit_core.specs.Commitments.{OpenedCommitment}
use Rattle.p3_lookup.specs.Bound.{HaveLoadsBelow}
use Rattle.plain_pcs.specs.Extension.{IsCommittable}
use Rattle.plain_pcs.specs.Laws.Extensions.{extended_height}
use Rattle.plain_pcs.specs.Laws.OpenedCommitments.{holding_count}
use Rattle.plain_pcs.specs.Laws.Listed.{item_at, item_has, lacking}
use Rattle.plain_pcs.specs.Refusals.{CommitFault, ExtensionsFault, HasSubgroupHeight, OpenFault}
use Rattle.plain_pcs.specs.Scheme.{PlainCommitmentData, Scheme}
use Rattle.plain_pcs.specs.declared.commitment.PlainProof.{PlainProof}
use Rattle.plain_pcs.specs.declared.error.PlainProverError.{PlainProverError}
use Rattle.plain_pcs.specs.declared.error.PlainProverError.TheVariants.{Commit, Open}
use Rattle.batch_config.specs.Setting.{masks}
use Rattle.batch_setup.specs.declared.error.ProverPhase.{ProverPhase}
use Rattle.batch_setup.specs.declared.error.ProverPhase.TheVariants.{PreprocessingCommitment, TraceCommitment, PermutationCommitment, QuotientEvaluations, QuotientCommitment, Opening}
use Rattle.verifier_shape.specs.ShapeChecks.{heights_of}
use Rattle.law_valid.specs.Traced.{TracedTable, declared}
use Rattle.law_valid.specs.Valid.{IsTraced}
use Rattle.prover_answer.specs.Backend.{ProverBackend}
use Rattle.prover_answer.specs.Batch.{Batch, all_chunks, all_permutations, chunks_of, main_matrices, table_at, table_count}
use Rattle.prover_answer.specs.PlainBackend.{plain_prover_backend}
use Rattle.prover_answer.specs.Proving.{AreAsked, fault_of_some}
use Rattle.prover_answer.specs.Telling.{IsOverloaded, PhaseTells}
use Rattle.law_committed.specs.Fields.{FieldsLaws}
use Rattle.law_acceptance.specs.Rounds.{OpenedMatrix, Round, committed_of, honest_rounds}
use Rattle.law_honest.specs.HonestProof.{alpha, challenges_at}
use Rattle.law_soundness.specs.PlainSetting.{plain_scheme}
use Rattle.tool_prover.specs.Laws.Sized.{IsSized, all_flat, chunks_sized, main_sized, permutations_sized}

-- no item is the first that lacks what all have
none_without : {X : Type 0} (P : X → Type 0) (xs : List X) (i : ℕ) → All P xs → IsFirstWithout P xs i → ⊥
none_without P xs i all F = let q = lacking P xs i F in q.2 (item_has P xs i q.0 all q.1)

none_lacks : {X : Type 0} (P : X → Type 0) (xs : List X) (i : ℕ) → ((k : ℕ) (x : X) → slice_get xs k ≡ Some x → P x) → IsFirstWithout P xs i → ⊥
none_lacks P xs i each F = let q = lacking P xs i F in q.2 (each i q.0 q.1)

module _ {F : Type 0} (s : Scheme F) (most widest : ℕ) (room : most + s.log_blowup ≤ s.most) where
  -- it commits to matrices of up to 2^most rows
  committable : (e : CosetData F × Rows F) → IsSized most widest e → IsCommittable s e.0 e.1
  committable e Z = record { has_columns = Z.has_columns; height_is = Z.height_is; fits = (let l = Z.low in let r = room in omega (arith, l, r)) }

  commits : (es : List (CosetData F × Rows F)) (e : PlainProverError) → All (IsSized most widest) es → CommitFault s es e → ⊥
  commits es (Commit i) all F =
      none_without (λ x. IsCommittable s x.0 x.1) es i (λ k d l. committable _ (all k d l)) F
  commits es (Open i) all F = F

  commits_some : (es : List (CosetData F × Rows F)) (e : PlainProverError) → All (IsSized most widest) es → fault_of_some (CommitFault s) es e → ⊥
  commits_some [] e all F = F
  commits_some (m ∷ ms) e all F = commits (m ∷ ms) e all F

-- the extensions of matrices have heights of subgroups
extended : {F : Type 0} (s : Scheme F) (ls : List (Rows F)) (e : PlainProverError) → ((i : ℕ) (l : Rows F) → slice_get ls i ≡ Some l → HasSubgroupHeight s.most l) → ExtensionsFault s ls e → ⊥
extended s ls (Commit i) each F = none_lacks (HasSubgroupHeight s.most) ls i each F
extended s ls (Open i) each F = F

-- it opens at as many lists of points as it holds matrices
asked_long : {F E : Type 0} (points : List (List E)) (matrices : List (OpenedMatrix F E)) → points ≡ map (λ o. o.points) matrices → length points ≡ length matrices
asked_long points matrices e = ap length e ∙ length-map matrices (λ o. o.points)

module _ {S F E : Type 0} (s : Scheme F) (rings : RingLaws s.field.ring) (fields : FieldLaws s.field.ring s.field.inv) (roots : TwoAdicLaws s.field.ring s.most s.field.root) (b : Batch S F E (PlainCommitmentData F)) {inverse : E → E} (L : FieldsLaws b.setting.field b.setting.extension b.setting.two_adicity inverse) (plain : b.setting.zk ≡ false)
    (traced : (i : ℕ) → i < table_count b → IsTraced b.setting (table_at b i)) (most widest : ℕ) (room : most + s.log_blowup ≤ s.most) (low : (i : ℕ) → i < table_count b → (table_at b i).degree_bits ≤ most)
    (narrow : (i : ℕ) → i < table_count b → (declared (table_at b i)).width ≤ widest) (few : (i : ℕ) → i < table_count b → (length (table_at b i).lookups + 1) * b.setting.extension.dimension ≤ widest)
    (dimension : b.setting.extension.dimension ≤ widest) where
  abbrev k : ProverBackend S F E (PlainCommitmentData F) (List (CosetData F × Rows F)) PlainProof PlainProverError
  k = plain_prover_backend s

  -- the matrices of a batch
  pub mains_sized : All (IsSized most widest) (main_matrices b)
  mains_sized =
      subst (All (IsSized most widest)) (sym (map_tabulate (λ (t : TracedTable F). (subgroup b.setting.field.ring t.degree_bits, t.trace)) (table_count b) (table_at b)))
      (all_tabulate (IsSized most widest) (table_count b) (λ i. (subgroup b.setting.field.ring (table_at b i).degree_bits, (table_at b i).trace))
      (λ i l. main_sized b.setting b.prover (table_at b i) [] L (traced i l) plain most widest (low i l) (narrow i l)))

  pub all_permutations_sized : (w : Option F) → All (IsSized most widest) (all_permutations b w)
  all_permutations_sized w =
      all_flat (IsSized most widest) _ (table_count b) (λ i. i)
      (λ i l. permutations_sized b.setting b.prover (table_at b i) (challenges_at b.setting b.prover b.statement b.traces b.degree_bits w i) L (traced i l) plain most widest (low i l) (few i l))

  chunks_of_sized : (w : Option F) (i : ℕ) → i < table_count b → All (IsSized most widest) (chunks_of b w i)
  chunks_of_sized w i l =
      chunks_sized b.setting b.prover (table_at b i) (challenges_at b.setting b.prover b.statement b.traces b.degree_bits w i) L (traced i l) plain most widest (low i l)
      (alpha b.setting b.prover b.statement b.traces b.degree_bits w) dimension

  pub all_chunks_sized : (w : Option F) → All (IsSized most widest) (all_chunks b w)
  all_chunks_sized w = all_flat (IsSized most widest) (chunks_of b w) (table_count b) (λ i. i) (chunks_of_sized w)

  -- what is asked to be opened has a list of points for each matrix
  asked_fits : (w : Option F) (z : F) (requests : List (Request (List (CosetData F × Rows F)) E)) → AreAsked k b w z requests → (j : ℕ) (r : Request (List (CosetData F × Rows F)) E) → slice_get requests j ≡ Some r
      → length r.points ≡ length r.prover_data
  asked_fits w z requests A j r at =
      let rounds = honest_rounds b.setting b.prover b.statement b.traces b.degree_bits w z in
      let hold : Round F E (PlainCommitmentData F) → OpenedCommitment (PlainCommitmentData F) F = λ x. record { commitment = x.commitment; matrices = committed_of x.matrices } in
      let within : j < length rounds = let l = slice_get_within requests j r at in omega (arith, l, A.ask.count) in
      let (round, there) = item_at rounds j within in
      let held_there : slice_get (map hold rounds) j ≡ Some (hold round) = slice_get-map hold rounds j ∙ ap (option_map hold) there in
      asked_long r.points round.matrices (A.ask.each j r at round there)
      ∙ (sym (length-map round.matrices (λ o. o.committed))
      ∙ holding_count s r.prover_data round.commitment (committed_of round.matrices) (A.held.each j (hold round) held_there r at))

  opens : (w : Option F) (z : F) (requests : List (Request (List (CosetData F × Rows F)) E)) (e : PlainProverError) → AreAsked k b w z requests → OpenFault requests e → ⊥
  opens w z requests (Commit i) A F = F
  opens w z requests (Open i) A F = none_lacks (λ r. length r.points ≡ length r.prover_data) requests i (asked_fits w z requests A) F

  -- so no phase is refused
  phase_granted : (phase : ProverPhase) (e : PlainProverError) → PhaseTells k b phase e → ⊥
  phase_granted PreprocessingCommitment e f = f
  phase_granted TraceCommitment e f = commits s most widest room (main_matrices b) e mains_sized f
  phase_granted PermutationCommitment e f = commits_some s most widest room (all_permutations b f.0) e (all_permutations_sized f.0) f.2
  phase_granted QuotientEvaluations e f = commits s most widest room (chunks_of b f.0 f.2.0) e (chunks_of_sized f.0 f.2.0 f.2.1) f.2.2
  phase_granted QuotientCommitment e f = extended s f.2.0 e (λ i l. extended_height s rings fields roots (all_chunks b f.0) f.2.0 f.2.1 i l) f.2.2
  phase_granted Opening e f = opens f.0 f.1 f.3.0 e f.3.1 f.3.2

-- where no bus is loaded too much, none is said to be
pub none_overloaded : {S F E : Type 0} (s : Scheme F) (b : Batch S F E (PlainCommitmentData F)) → HaveLoadsBelow b.setting.order b.statement.common.lookups (heights_of (masks b.setting) b.degree_bits (table_count b))
    → (bus : ℕ) → IsOverloaded (plain_prover_backend s) b bus → ⊥
none_overloaded s b bounded bus O = let less = bounded O.number O.within in let more = O.reaches in omega (arith, less, more)

-- a number that none of the first n passes
abbrev bound_of : (ℕ → ℕ) → ℕ → ℕ
bound_of g zero = 0
bound_of g (suc n) = bound_of g n + g n

within_bound : (g : ℕ → ℕ) (n i : ℕ) → i < n → g i ≤ bound_of g n
within_bound g zero i h = absurd (omega (arith, h))
within_bound g (suc n) i h = elim (cases_lt i n) [
  | inl below ↦ let q = within_bound g n i below in omega (arith, q)
  | inr above ↦ let same : n ≡ i = omega (arith, h, above) in subst (λ k. g k ≤ bound_of g n + g n) same (omega arith)
]

-- Of a batch of traced tables over the plain scheme no phase is refused, where the field has subgroups for the extensions of traces of all heights that are
-- allowed.
module _ {S F E : Type 0} (b : Batch S F E (PlainCommitmentData F)) (log_blowup : ℕ) {inverse : E → E} (L : FieldsLaws b.setting.field b.setting.extension b.setting.two_adicity inverse)
    (plain : b.setting.zk ≡ false) (room : b.setting.log_max + log_blowup ≤ b.setting.two_adicity) (traced : (i : ℕ) → i < table_count b → IsTraced b.setting (table_at b i)) where
  abbrev widths : ℕ → ℕ
  widths i = (declared (table_at b i)).width + (length (table_at b i).lookups + 1) * b.setting.extension.dimension

  abbrev widest : ℕ
  widest = bound_of widths (table_count b) + b.setting.extension.dimension

  width_within : (i : ℕ) → i < table_count b → (declared (table_at b i)).width + (length (table_at b i).lookups + 1) * b.setting.extension.dimension ≤ widest
  width_within i l = let q = within_bound widths (table_count b) i l in omega (arith, q)

  dimension_within : b.setting.extension.dimension ≤ widest
  dimension_within = omega arith

  pub batch_granted : (phase : ProverPhase) (e : PlainProverError) → PhaseTells (plain_prover_backend (plain_scheme b.setting log_blowup)) b phase e → ⊥
  batch_granted =
      phase_granted (plain_scheme b.setting log_blowup) L.below L.below_field L.roots b L plain traced b.setting.log_max widest room (λ i l. (traced i l).most)
      (λ i l. (let q = width_within i l in omega (arith, q))) (λ i l. (let q = width_within i l in omega (arith, q))) dimension_within
