-- What is set up for instances is their batch, and what the prover of batches says of it.
use Rattle.std.proofs.Common.{◌≡◌, ℕ, ◌+◌, ◌-◌, ◌^◌, ◌<◌, ◌≤◌, List, [], ◌∷◌, length, get_or, map, Option, Result, Ok, Err, refl, sym, ◌∙◌, ap, subst, arith}
use Rattle.std.specs.Prelude.{All, IfErr, replicate}
use Rattle.std.proofs.lemmas.List.{get_or-map, length-map}
use Rattle.p3_field.specs.Domain.{CosetData}
use Rattle.p3_field.specs.BabyBear.{baby_bear_ring}
use Rattle.p3_field.specs.Poly.{tabulate}
use Rattle.p3_field.specs.Quartic.{quartic_inv}
use Rattle.p3_field.specs.declared.baby_bear.BabyBear.{BabyBear}
use Rattle.p3_field.specs.declared.quartic.QuarticExtension.{QuarticExtension}
use Rattle.p3_challenger.specs.declared.sha256_challenger.Sha256Challenger.{Sha256Challenger}
use Rattle.p3_matrix.specs.Matrix.{Rows, height}
use Rattle.air_core.specs.Check.{HasHeight}
use Rattle.air_core.specs.Shape.{Declaration}
use Rattle.air_core.specs.Tree.{Interaction, Tree}
use Rattle.plain_pcs.specs.Scheme.{Blowup, PlainCommitmentData, Scheme}
use Rattle.plain_pcs.specs.declared.error.PlainProverError.{PlainProverError}
use Rattle.batch_config.specs.Setting.{Setting, masks}
use Rattle.batch_setup.specs.Laws.Logarithms.{log_of_power}
use Rattle.batch_setup.specs.Packed.{packed_at}
use Rattle.batch_setup.specs.Preprocessed.{IsPrepared}
use Rattle.batch_setup.specs.Setup.{ArePowers, Instance, airs_of, bits_of, log_of}
use Rattle.batch_setup.specs.SetupChecks.{AreWithinBounds}
use Rattle.batch_statement.specs.Statement.{Common, WellFormed, WrittenCommon, read_common}
use Rattle.law_acceptance.specs.Honest.{HaveFewRows, IsOutsideRows}
use Rattle.law_acceptance.specs.Laws.Airs.{few_rows}
use Rattle.law_committed.specs.Fields.{FieldsLaws, baby_bear_field, quartic_extension}
use Rattle.law_honest.specs.HonestProof.{IsBuilt}
use Rattle.law_joining.specs.Laws.Joined.{batch_kept, batch_traced}
use Rattle.law_joining.specs.Shaped.{IsShaped, IsWhole, Serves, source_of_instance}
use Rattle.law_valid.specs.Valid.{Valid}
use Rattle.prover_answer.specs.Batch.{Batch, HasProverData, IsTracedAll, batch_of, preprocessed_all, table_at, table_count}
use Rattle.prover_answer.specs.Laws.Telling.{refusal_tells}
use Rattle.prover_answer.specs.PlainBackend.{baby_bear_prover, plain_commits, plain_prover_backend}
use Rattle.prover_answer.specs.Proving.{AvoidsExcluded, IsHonestProof, proving_checks}
use Rattle.prover_answer.specs.Telling.{Tells}
use Rattle.prover_answer.specs.Verdict.{IsAnswerRefusal, IsProverAnswer, IsProverVerdict}
use Rattle.prover_answer.specs.declared.error.ProvingError.{ProvingError}
use Rattle.prover_answer.specs.declared.error.ProvingError.TheVariants.{LookupDenominatorZero, MultiplicityBound, OutOfMemory, Pcs, WitnessNotFound}
use Rattle.verifier_batch.specs.BatchChecks.{Accepted}
use Rattle.tool_airs.proofs.Made.{scheme_with}
use Rattle.tool_airs.specs.Laws.Serving.{serves}
use Rattle.tool_airs.specs.Airs.{AirsBatch, AirsProof, AreMet, DrawsOutside, HaveHeights, airs_batch, airs_common, drawn_point, prepared_entries, prepared_traces, same_value, sources_of_airs}
use Rattle.transcript_version.specs.declared.TranscriptVersion.TheVariants.{V2}
use Rattle.tool_statement.specs.Config.{backend_of, tool_backend, tool_scheme, tool_setting}

abbrev ToolSetting : Type 0
ToolSetting = Setting Sha256Challenger BabyBear QuarticExtension (PlainCommitmentData BabyBear)

abbrev one_bit : Blowup
one_bit = record { log_blowup = 1 }

none_more : {A F : Type 0} (instances : List (Instance A F)) (i : ℕ) (d : Instance A F) → i < length instances → get_or (bits_of 0 instances) i 0 ≡ log_of (height (get_or instances i d).trace)
none_more {A} {F} instances i d h =
    let none : log_of (height (get_or instances i d).trace) + 0 ≡ log_of (height (get_or instances i d).trace) = omega arith in
    get_or-map (λ (j : Instance A F). log_of (height j.trace) + 0) instances i d 0 h ∙ none

module _ {A : Type 0} (declaration : A → Declaration BabyBear) (trees : A → List (Tree BabyBear)) (interactions : A → List (Interaction BabyBear)) (instances : List (Instance A BabyBear))
    (shaped : All (IsShaped (tool_setting V2) declaration trees interactions) instances) where
  pub powers : ArePowers instances
  powers i d h = (shaped i d h).power

  air_at : (i : ℕ) (d : Instance A BabyBear) → i < length instances → get_or (airs_of instances) i d.air ≡ (get_or instances i d).air
  air_at i d h = get_or-map (λ (j : Instance A BabyBear). j.air) instances i d d.air h

  many : length (airs_of instances) ≡ length instances
  many = length-map instances (λ (j : Instance A BabyBear). j.air)

  pub low : (i : ℕ) → i < length (airs_of instances) → get_or (bits_of 0 instances) i 0 ≤ 26
  unfolding tool_setting
  low i h = from instances refl
    where
      from : (xs : List (Instance A BabyBear)) → xs ≡ instances → get_or (bits_of 0 instances) i 0 ≤ 26
      from [] e = let n : length instances ≡ 0 = ap length (sym e) in let m = many in absurd (omega (arith, h, m, n))
      from (d ∷ xs) e =
          let l : i < length instances = let m = many in omega (arith, h, m) in
          let bit = none_more instances i d l in
          let most = (shaped i d l).most in
          omega (arith, bit, most)

  pub bounds : (b : Blowup) → b ≡ one_bit → AreWithinBounds 0 (27 - b.log_blowup) (bits_of 0 instances)
  bounds b e =
      subst (λ (s : Blowup). AreWithinBounds 0 (27 - s.log_blowup) (bits_of 0 instances)) (sym e)
      (λ i h. (omega arith, low i (let n = length-map instances (λ (j : Instance A BabyBear). log_of (height j.trace) + 0) in let m = many in omega (arith, h, n, m))))

  pub high : HaveHeights declaration (airs_of instances) (bits_of 0 instances)
  high i a h = from instances refl
    where
      from : (xs : List (Instance A BabyBear)) → xs ≡ instances → HasHeight (declaration (get_or (airs_of instances) i a)).preprocessed (2 ^ get_or (bits_of 0 instances) i 0)
      from [] e = let n : length instances ≡ 0 = ap length (sym e) in let m = many in absurd (omega (arith, h, m, n))
      from (d ∷ xs) e =
          let l : i < length instances = let m = many in omega (arith, h, m) in
          let x = get_or instances i d in
          let H = shaped i d l in
          let k = H.power.0 in
          let p = H.power.1 in
          let air : get_or (airs_of instances) i a ≡ x.air = get_or-map (λ (j : Instance A BabyBear). j.air) instances i d a l in
          let tall : height x.trace ≡ 2 ^ get_or (bits_of 0 instances) i 0 = p ∙ ap (λ j. 2 ^ j) (sym (none_more instances i d l ∙ log_of_power (height x.trace) k p)) in
          subst (λ (y : A). HasHeight (declaration y).preprocessed (2 ^ get_or (bits_of 0 instances) i 0)) (sym air) (subst (HasHeight (declaration x.air).preprocessed) tall H.prepared)

  module _ (L : FieldsLaws baby_bear_field quartic_extension 27 quartic_inv) (whole : All (λ i. IsWhole (source_of_instance (tool_setting V2) declaration trees interactions i)) instances)
      (c : ToolSetting) (b : Blowup) (written : WrittenCommon BabyBear (PlainCommitmentData BabyBear)) (kept : Option (List (CosetData BabyBear × Rows BabyBear))) (c_is : c ≡ (tool_setting V2)) (b_is : b ≡ one_bit)
      (common_there : read_common written ≡ airs_common declaration trees interactions (airs_of instances) (bits_of 0 instances))
      (prepared : IsPrepared (plain_commits tool_scheme) (prepared_entries declaration trees interactions (airs_of instances) (bits_of 0 instances)) (prepared_traces declaration trees interactions (airs_of instances) (bits_of 0 instances)) written.preprocessed kept) where
    abbrev batch : AirsBatch
    batch = batch_of c (baby_bear_prover (scheme_with b)) declaration trees instances written

    abbrev shared : AirsBatch
    shared = airs_batch declaration trees interactions instances

    unmasked : masks c ≡ 0
    unfolding tool_setting
    unmasked = ap (λ (d : ToolSetting). masks d) c_is

    lookups_there : (read_common written).lookups ≡ tabulate (length (airs_of instances)) (packed_at baby_bear_ring 0 (sources_of_airs declaration trees interactions (airs_of instances)) (bits_of 0 instances) (replicate (length (airs_of instances)) 0))
    unfolding airs_common
    lookups_there = ap (λ (d : Common BabyBear (PlainCommitmentData BabyBear)). d.lookups) common_there

    same_batch : batch ≡ shared
    same_batch = λ i. record {
      setting = c_is i;
      prover = baby_bear_prover (scheme_with (b_is i));
      statement = record { tables = shared.statement.tables; publics = shared.statement.publics; common = common_there i };
      traces = shared.traces;
      degree_bits = bits_of (unmasked i) instances;
    }

    -- over the program's configuration itself
    module _ (formed : WellFormed (map declaration (airs_of instances)) (read_common written)) where
      abbrev plain_batch : AirsBatch
      plain_batch = batch_of (tool_setting V2) (baby_bear_prover tool_scheme) declaration trees instances written

      traced_plain : IsTracedAll plain_batch
      unfolding tool_setting
      traced_plain =
          batch_traced (tool_setting V2) quartic_inv (serves L) (baby_bear_prover tool_scheme) declaration trees interactions instances whole shaped (plain_commits tool_scheme) (λ es w K. K.commitment_is) (read_common written) kept
          lookups_there prepared formed

      half_same : plain_batch ≡ batch
      half_same = λ i. batch_of (sym c_is i) (baby_bear_prover (scheme_with (sym b_is i))) declaration trees instances written

      pub traced_there : IsTracedAll batch
      traced_there = subst (λ (B : AirsBatch). IsTracedAll B) half_same traced_plain

    pub kept_there : HasProverData (plain_commits (scheme_with b)) (preprocessed_all batch) batch.statement.common.preprocessed kept
    unfolding tool_setting
    kept_there =
        subst (λ (c' : ToolSetting). HasProverData (plain_commits (scheme_with b)) (preprocessed_all (batch_of c' (baby_bear_prover (scheme_with b)) declaration trees instances written)) written.preprocessed kept) (sym c_is)
        (subst (λ (s : Blowup). HasProverData (plain_commits (scheme_with s)) (preprocessed_all (batch_of (tool_setting V2) (baby_bear_prover (scheme_with s)) declaration trees instances written)) written.preprocessed kept) (sym b_is)
        (batch_kept (tool_setting V2) quartic_inv (serves L) (baby_bear_prover tool_scheme) declaration trees interactions instances whole shaped (plain_commits tool_scheme) (λ es w K. K.commitment_is) (read_common written) kept
        lookups_there prepared))

    pub proof_there : (proof : AirsProof) → IsHonestProof (plain_prover_backend (scheme_with b)) batch proof → IsBuilt shared.setting shared.prover shared.statement shared.traces shared.degree_bits proof
    proof_there proof P = subst (λ (B : AirsBatch). IsBuilt B.setting B.prover B.statement B.traces B.degree_bits proof) same_batch P.built

    pub point_there : (q : AirsProof) (x : QuarticExtension) → x ≡ drawn_point batch q → x ≡ drawn_point shared q
    point_there q x e = e ∙ ap (λ (B : AirsBatch). drawn_point B q) same_batch

    told : (e : ProvingError PlainProverError) → IsAnswerRefusal (proving_checks (plain_prover_backend tool_scheme) shared) e → Tells (plain_prover_backend tool_scheme) shared e
    told (Pcs phase source) h = refusal_tells (plain_prover_backend tool_scheme) shared (Pcs phase source) h
    told (MultiplicityBound bus) h = refusal_tells (plain_prover_backend tool_scheme) shared (MultiplicityBound bus) h
    told (LookupDenominatorZero i row) h = refusal_tells (plain_prover_backend tool_scheme) shared (LookupDenominatorZero i row) h
    told (WitnessNotFound step) h = refusal_tells (plain_prover_backend tool_scheme) shared (WitnessNotFound step) h
    told OutOfMemory h = tt

    pub refusal_there : {T : Type 0} (r : Result T (ProvingError PlainProverError)) → IsProverAnswer (proving_checks (plain_prover_backend (scheme_with b)) batch) r → IfErr r (Tells (plain_prover_backend tool_scheme) shared)
    refusal_there (Ok x) h = tt
    refusal_there (Err e) h =
        told e
        (subst (λ (B : AirsBatch). IsAnswerRefusal (proving_checks (plain_prover_backend tool_scheme) B) e) same_batch
        (subst (λ (s : Blowup). IsAnswerRefusal (proving_checks (plain_prover_backend (scheme_with s)) batch) e) b_is h))

    pub first_there : {T : Type 0} (r : Result T (ProvingError PlainProverError)) → IsProverVerdict (proving_checks (plain_prover_backend (scheme_with b)) batch) r
        → IsProverVerdict (proving_checks (plain_prover_backend tool_scheme) shared) r
    first_there r h =
        subst (λ (B : AirsBatch). IsProverVerdict (proving_checks (plain_prover_backend tool_scheme) B) r) same_batch
        (subst (λ (s : Blowup). IsProverVerdict (proving_checks (plain_prover_backend (scheme_with s)) batch) r) b_is h)

    abbrev pub AcceptsThen : AirsProof → Type 0
    AcceptsThen q =
        HaveFewRows batch.setting batch.statement batch.traces batch.degree_bits
        → Valid batch.setting same_value batch.prover.commitment_of batch.statement batch.traces batch.degree_bits
        → ((i : ℕ) → i < length instances → IsOutsideRows batch.setting (table_at batch i) (drawn_point batch q))
        → AvoidsExcluded (plain_prover_backend (scheme_with b)) batch q.lookup_pow_witness q.ood_pow_witness → Accepted batch.setting (backend_of (scheme_with b)) batch.statement q

    module _ (formed : WellFormed (map declaration (airs_of instances)) (read_common written)) where
      valid_there : AreMet shared → Valid batch.setting same_value batch.prover.commitment_of batch.statement batch.traces batch.degree_bits
      valid_there M =
          subst (λ (B : AirsBatch). Valid B.setting same_value B.prover.commitment_of B.statement B.traces B.degree_bits) (sym same_batch)
          (record { batch = subst (λ (B : AirsBatch). IsTracedAll B) same_batch (traced_there formed); holds = M.holds; fits = M.fits; bounded = M.bounded; balanced = M.balanced })

      low_there : c.two_adicity < 63
      unfolding tool_setting
      low_there = subst (λ (d : ToolSetting). d.two_adicity < 63) (sym c_is) (omega arith)

      few_there : HaveFewRows batch.setting batch.statement batch.traces batch.degree_bits
      few_there = few_rows batch.setting batch.prover.commitment_of batch.statement batch.traces batch.degree_bits low_there (traced_there formed)

      outside_there : (q : AirsProof) → DrawsOutside shared q → (i : ℕ) → i < length instances
          → IsOutsideRows batch.setting (table_at batch i) (drawn_point batch q)
      outside_there q d i l =
          let n : table_count shared ≡ length instances = length-map (airs_of instances) (λ (a : A). record { declaration = declaration a; trees = trees a }) ∙ many in
          subst (λ (B : AirsBatch). IsOutsideRows B.setting (table_at B i) (drawn_point B q)) (sym same_batch) (d i (omega (arith, l, n)))

      pub accepted_there : (q : AirsProof) → AcceptsThen q → AreMet shared → DrawsOutside shared q → Accepted (tool_setting V2) tool_backend shared.statement q
      unfolding tool_backend
      accepted_there q h M d =
          subst (λ (B : AirsBatch). Accepted B.setting (backend_of tool_scheme) B.statement q) same_batch
          (subst (λ (s : Blowup). Accepted batch.setting (backend_of (scheme_with s)) batch.statement q) b_is
          (h few_there (valid_there M) (outside_there q d) (λ i o l j p m k x n f. f)))
