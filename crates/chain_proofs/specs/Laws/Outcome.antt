-- What comes of proving a chain: its honest proof is accepted unless its point lies on the rows, and nothing but the grind before the point can be why there
-- is none.
use Rattle.std.specs.Int.{IsPowerOfTwo}
use Rattle.std.proofs.Common.{◌≡◌, ◌↔◌, ℕ, zero, suc, ◌+◌, ◌-◌, ◌^◌, ◌<◌, ◌≤◌, List, [], ◌∷◌, length, Result, Ok, Err, sym, ◌∙◌, ap, subst, arith}
use Rattle.std.specs.Prelude.{All, IfErr, IsErrAnd}
use Rattle.p3_field.specs.BabyBear.{baby_bear_ring}
use Rattle.p3_field.specs.Quartic.{quartic_inv}
use Rattle.p3_field.specs.declared.baby_bear.BabyBear.{BabyBear}
use Rattle.p3_field.specs.declared.quartic.QuarticExtension.{QuarticExtension}
use Rattle.p3_matrix.specs.Matrix.{Rows, height}
use Rattle.plain_pcs.specs.Scheme.{PlainCommitmentData}
use Rattle.plain_pcs.specs.declared.error.PlainProverError.{PlainProverError}
use Rattle.blake3_compress.specs.Generated.{input_of}
use Rattle.batch_setup.specs.Laws.Logarithms.{log_of_power}
use Rattle.batch_setup.specs.Setup.{Instance, log_of}
use Rattle.batch_setup.specs.SetupChecks.{AreWithinBounds}
use Rattle.batch_setup.specs.declared.error.ProverPhase.{ProverPhase}
use Rattle.batch_statement.specs.Statement.{Statement}
use Rattle.batch_statement.specs.Words.{bits_at}
use Rattle.batch_transcript.specs.declared.failure.GrindStep.TheVariants.{Lookup, Ood}
use Rattle.chain_air.specs.Chain.{AreEight}
use Rattle.chain_air.specs.Generated.{IsChainTrace, chain_trace, end_of, publics_between}
use Rattle.chain_air.specs.declared.air.ChainAir.{ChainAir}
use Rattle.law_acceptance.specs.Honest.{IsOutsideRows}
use Rattle.law_chain.specs.Committed.{CommittedChains}
use Rattle.law_committed.specs.Fields.{FieldsLaws, baby_bear_field, quartic_extension}
use Rattle.law_honest.specs.HonestProof.{IsDenominatorZero, LacksLookupGround, honest_proof}
use Rattle.law_joining.specs.Shaped.{IsShaped}
use Rattle.law_valid.specs.Traced.{log_rows}
use Rattle.prover_answer.specs.Batch.{table_at}
use Rattle.prover_answer.specs.PlainBackend.{plain_prover_backend}
use Rattle.prover_answer.specs.Telling.{Tells}
use Rattle.prover_answer.specs.declared.error.ProvingError.{ProvingError}
use Rattle.prover_answer.specs.declared.error.ProvingError.TheVariants.{LookupDenominatorZero, MultiplicityBound, OutOfMemory, Pcs, WitnessNotFound}
use Rattle.tool_airs.specs.Airs.{AirsBatch, AirsProof, AreMet, DrawsOutside, airs_batch, airs_common, airs_statement, drawn_point}
use Rattle.tool_airs.specs.Laws.Alone.{table_of}
use Rattle.tool_prover.specs.Laws.Granted.{batch_granted, none_overloaded}
use Rattle.tool_prover.specs.Laws.Within.{unmasked}
use Rattle.tool_prover.specs.Outside.{AvoidsRows}
use Rattle.transcript_version.specs.declared.TranscriptVersion.TheVariants.{V2}
use Rattle.tool_statement.specs.Config.{tool_backend, tool_scheme, tool_setting}
use Rattle.verifier_batch.specs.BatchChecks.{Accepted}
use Rattle.chain_proofs.specs.Laws.Table.{all_shaped, alone, bits_are, small_log, tall}
use Rattle.chain_proofs.specs.Laws.Within.{each, tables_traced}
use Rattle.chain_proofs.specs.Statement.{DrawsInside, HasStatedHeight, IsAcceptedProof, IsChainProof, IsChainRefusal, chain_batch, chain_instance, chain_statement, constraints, declared, none_sent}

-- what is made of the trace and the public values is the chain's instance, and its batch
module _ (start : List ℕ) (blocks : List (List ℕ)) (trace : Rows BabyBear) (values : List BabyBear) (trace_is : trace ≡ chain_trace baby_bear_ring start blocks)
    (values_are : values ≡ publics_between baby_bear_ring start (end_of start blocks)) where
  abbrev made : List (Instance ChainAir BabyBear)
  made = record { air = record {}; trace = trace; public_values = values } ∷ []

  same : made ≡ chain_instance start blocks ∷ []
  same = λ i. record { air = record {}; trace = trace_is i; public_values = values_are i } ∷ []

  pub made_shaped : IsPowerOfTwo (length blocks) → length blocks ≤ 8 → All (IsShaped (tool_setting V2) declared constraints none_sent) made
  made_shaped power few = subst (All (IsShaped (tool_setting V2) declared constraints none_sent)) (sym same) (all_shaped start blocks power few)

  pub carried : (P : AirsBatch → Type 0) → P (airs_batch declared constraints none_sent made) → P (chain_batch start blocks)
  carried P h = subst (λ (xs : List (Instance ChainAir BabyBear)). P (airs_batch declared constraints none_sent xs)) same h

-- the logarithm of the rows
pub log_is : (n log : ℕ) → n ≡ 2 ^ log → log_of n ≡ log
log_is n log e = log_of_power n log e

pub log_few : (n log : ℕ) → IsPowerOfTwo n → n ≤ 8 → n ≡ 2 ^ log → log ≤ 3
log_few n log power few e = let small = small_log n power few in let same = log_is n log e in omega (arith, small, same)

-- an error that is handed on
pub handed : {T : Type 0} (P : ProvingError PlainProverError → Type 0) (r : Result T (ProvingError PlainProverError)) (e : ProvingError PlainProverError) → IsErrAnd r (λ y. y ≡ e) → P e → IfErr r P
handed P (Err y) e p h = subst P (sym p) h
handed P (Ok t) e p h = absurd p

module _ (start : List ℕ) (blocks : List (List ℕ)) (power : IsPowerOfTwo (length blocks)) (few : length blocks ≤ 8) (L : FieldsLaws baby_bear_field quartic_extension 27 quartic_inv) where
  abbrev b : AirsBatch
  b = chain_batch start blocks

  -- no table has a lookup
  no_zero : (i row : ℕ) → IsDenominatorZero b.setting b.prover b.statement b.traces b.degree_bits i row → ⊥
  unfolding airs_common
  no_zero zero row h = let w = h.first.first.within in omega (arith, w)
  no_zero (suc i) row h = let w = h.within in omega (arith, w)

  no_pair : LacksLookupGround b.setting b.prover b.statement b.traces b.degree_bits → ⊥
  unfolding airs_common
  no_pair h = h

  granted : (e : PlainProverError) (phase : ProverPhase) → Tells (plain_prover_backend tool_scheme) b (Pcs phase e) → ⊥
  unfolding tool_setting
  granted e phase h = batch_granted b 1 L (unmasked V2) (omega arith) (tables_traced start blocks power few L) phase e h

  -- what a refusal tells, where the trace meets the constraints
  pub told : AreMet b → (e : ProvingError PlainProverError) → Tells (plain_prover_backend tool_scheme) b e → IsChainRefusal start blocks e
  told M (Pcs phase source) h = granted source phase h
  told M (MultiplicityBound bus) h = none_overloaded tool_scheme b M.bounded bus h
  told M (LookupDenominatorZero i row) h = no_zero i row h
  told M (WitnessNotFound Lookup) h = no_pair h
  told M (WitnessNotFound Ood) h = h
  told M OutOfMemory h = tt

  -- the point lies on no row exactly where it avoids the subgroup of the rows
  first_rows : log_rows (tool_setting V2) (table_at b 0) ≡ log_of (length blocks)
  unfolding tool_setting
  first_rows = let e = bits_are start blocks power few in omega (arith, e)

  own_rows : log_of (length blocks) ≡ log_rows (tool_setting V2) (table_of declared constraints none_sent alone (chain_instance start blocks))
  unfolding tool_setting
  own_rows = let e = bits_are start blocks power few in omega (arith, e)

  outside_is : (q : AirsProof) → DrawsOutside b q ↔ AvoidsRows (drawn_point b q) (log_of (length blocks))
  unfolding tool_setting
  outside_is q = (
    (λ d. subst (AvoidsRows (drawn_point b q)) first_rows (d 0 (omega arith))),
    (λ h. each start blocks power few L (λ t. IsOutsideRows (tool_setting V2) t (drawn_point b q)) (subst (AvoidsRows (drawn_point b q)) own_rows h)),
  )

  avoided : (q : AirsProof) (x : QuarticExtension) (log : ℕ) → x ≡ drawn_point b q → length blocks ≡ 2 ^ log → DrawsOutside b q ↔ AvoidsRows x log
  avoided q x log at size =
      subst (λ k. DrawsOutside b q ↔ AvoidsRows x k) (log_is (length blocks) log size) (subst (λ y. DrawsOutside b q ↔ AvoidsRows y (log_of (length blocks))) (sym at) (outside_is q))

  -- the point lies on a row
  pub inside : (q : AirsProof) (x : QuarticExtension) (log : ℕ) → IsChainProof start blocks q → x ≡ drawn_point b q → length blocks ≡ 2 ^ log → (AvoidsRows x log → ⊥) → DrawsInside start blocks
  inside q x log honest at size not = (q, honest, λ d. not ((avoided q x log at size).0 d))

  -- or on none
  pub outside : (q : AirsProof) (x : QuarticExtension) (log : ℕ) → IsChainProof start blocks q → x ≡ drawn_point b q → length blocks ≡ 2 ^ log → AvoidsRows x log
      → (DrawsOutside b q → Accepted (tool_setting V2) tool_backend b.statement q) → IsAcceptedProof start blocks q
  outside q x log honest at size avoids accepts =
      let d = (avoided q x log at size).1 avoids in
      record { honest = honest; outside = d; accepted = accepts d }

-- the words of the last chaining value
pub words_of_end : (start end : List ℕ) (blocks : List (List ℕ)) → end ≡ end_of start blocks → AreEight (input_of end) → AreEight (input_of (end_of start blocks))
words_of_end start end blocks e h = subst (λ ws. AreEight (input_of ws)) e h

-- the rows of the trace, where it is the chain's
pub rows_of_trace : (start : List ℕ) (blocks : List (List ℕ)) (trace : Rows BabyBear) → trace ≡ chain_trace baby_bear_ring start blocks → IsChainTrace baby_bear_ring start (end_of start blocks) trace
    → IsChainTrace baby_bear_ring start (end_of start blocks) (chain_trace baby_bear_ring start blocks)
rows_of_trace start blocks trace e h = subst (IsChainTrace baby_bear_ring start (end_of start blocks)) e h

-- the statement of a table with a chain's public values
pub stated : (start end : List ℕ) (k : ℕ) (values : List BabyBear) → values ≡ publics_between baby_bear_ring start end → (P : Statement BabyBear (PlainCommitmentData BabyBear) → Type 0)
    → P (airs_statement declared constraints none_sent (record {} ∷ []) (k ∷ []) (values ∷ [])) → P (chain_statement start end k)
stated start end k values e P h = subst (λ (vs : List (List BabyBear)). P (airs_statement declared constraints none_sent (record {} ∷ []) (k ∷ []) vs)) (λ i. e i ∷ []) h

pub few_rows : (k : ℕ) → k ≤ 3 → AreWithinBounds 0 26 (k ∷ [])
few_rows k few zero h = (omega arith, omega (arith, few))
few_rows k few (suc i) h = absurd (omega (arith, h))

-- the degree bits of the batch, and of its honest proof
batch_bits : (start : List ℕ) (blocks : List (List ℕ)) (k : ℕ) → length blocks ≡ 2 ^ k → log_of (height (chain_trace baby_bear_ring start blocks)) + 0 ≡ k
batch_bits start blocks k size =
    let rows : log_of (height (chain_trace baby_bear_ring start blocks)) ≡ log_of (length blocks) = ap log_of (tall start blocks) in
    let log = log_is (length blocks) k size in
    omega (arith, rows, log)

pub proof_height : (start : List ℕ) (blocks : List (List ℕ)) (k : ℕ) → length blocks ≡ 2 ^ k → (q : AirsProof) → IsChainProof start blocks q → HasStatedHeight k q.degree_bits
unfolding honest_proof
proof_height start blocks k size q B some = ap (λ (p : AirsProof). bits_at p.degree_bits 0) B.proof_is ∙ batch_bits start blocks k size

-- what is stated of the batch is what is stated of the chain
pub told_statement : (start end : List ℕ) (blocks : List (List ℕ)) (k : ℕ) → length blocks ≡ 2 ^ k → end ≡ end_of start blocks → (P : Statement BabyBear (PlainCommitmentData BabyBear) → Type 0)
    → P (chain_batch start blocks).statement → P (chain_statement start end k)
told_statement start end blocks k size e P h =
    subst (λ (n : ℕ). P (chain_statement start end n)) (batch_bits start blocks k size)
    (subst (λ (ws : List ℕ). P (chain_statement start ws (log_of (height (chain_trace baby_bear_ring start blocks)) + 0))) (sym e) h)
