-- Tables of any AIRs over the program's configuration: what prover and verifier share of them, what is stated, and the batch that is proved.
use Rattle.std.specs.Prelude.{◌≡◌, ◌⊎◌, ℕ, ◌^◌, ◌<◌, ◌≤◌, ◌==◌, Bool, List, length, map, replicate, sum, All, Option, Some}
use Rattle.std.specs.Prelude.{slice_index_or as get_or}
use Rattle.p3_field.specs.BabyBear.{baby_bear_ring}
use Rattle.p3_field.specs.Checks.{Check}
use Rattle.p3_field.specs.Domain.{CosetData}
use Rattle.p3_field.specs.Poly.{tabulate}
use Rattle.p3_field.specs.Quartic.{quartic_ring}
use Rattle.p3_field.specs.declared.baby_bear.BabyBear.{BabyBear}
use Rattle.p3_field.specs.declared.quartic.QuarticExtension.{QuarticExtension}
use Rattle.p3_challenger.specs.declared.sha256_challenger.Sha256Challenger.{Sha256Challenger}
use Rattle.p3_matrix.specs.Matrix.{Rows}
use Rattle.air_core.specs.Check.{HasHeight}
use Rattle.air_core.specs.Shape.{Declaration}
use Rattle.air_core.specs.Tree.{Interaction, Tree}
use Rattle.p3_lookup.specs.Bound.{HaveLoadsBelow}
use Rattle.p3_uni_stark.specs.declared.error.InvalidProofShapeError.TheVariants.{DegreeBitsTooSmall, DegreeBitsTooLarge}
use Rattle.p3_uni_stark.specs.declared.error.VerificationError.TheVariants.{InvalidProofShape}
use Rattle.plain_pcs.specs.Scheme.{PlainCommitmentData}
use Rattle.plain_pcs.specs.declared.commitment.PlainProof.{PlainProof}
use Rattle.plain_pcs.specs.declared.error.PlainError.{PlainError}
use Rattle.batch_config.specs.Setting.{masks}
use Rattle.batch_setup.specs.Packed.{Source, packed_at, source_of}
use Rattle.batch_setup.specs.Preprocessed.{committed_below, entry_at}
use Rattle.batch_setup.specs.Setup.{Instance, airs_of, bits_of}
use Rattle.batch_statement.specs.Proof.{ProofData}
use Rattle.batch_statement.specs.Statement.{Common, Statement, tables_of}
use Rattle.batch_statement.specs.Words.{bits_at}
use Rattle.batch_statement.specs.declared.error.BatchVerificationError.{BatchVerificationError}
use Rattle.batch_statement.specs.declared.error.BatchVerificationError.TheVariants.{Verification}
use Rattle.batch_statement.specs.declared.preprocessed.PreprocessedInstanceMeta.{PreprocessedInstanceMeta}
use Rattle.verifier_shape.specs.ShapeChecks.{heights_of}
use Rattle.law_committed.specs.Batch.{IsUnluckyAlphaOfBatch, IsUnluckyZetaOfBatch}
use Rattle.law_committed.specs.Fields.{baby_bear_field, quartic_extension}
use Rattle.law_committed.specs.Identity.{chunk_count_of}
use Rattle.law_committed.specs.Unlucky.{AreDistinct}
use Rattle.law_soundness.specs.CommittedBatch.{chunk_count, committed_batch, committed_quotient}
use Rattle.law_soundness.specs.UnluckyCounts.{most_alphas, most_zetas}
use Rattle.law_acceptance.specs.Honest.{IsOutsideRows}
use Rattle.law_honest.specs.HonestProof.{zeta}
use Rattle.law_valid.specs.Traced.{all_traced}
use Rattle.law_valid.specs.Valid.{AllFit, AreBalanced, OwnHold}
use Rattle.prover_answer.specs.Batch.{Batch, table_at, table_count}
use Rattle.prover_answer.specs.PlainBackend.{baby_bear_prover}
use Rattle.transcript_version.specs.declared.TranscriptVersion.TheVariants.{V2}
use Rattle.tool_statement.specs.Config.{tool_scheme, tool_setting}
use Rattle.tool_statement.specs.StatedTables.{preprocessed_commitment_of}

abbrev pub AirsProof : Type 0
AirsProof = ProofData BabyBear QuarticExtension (PlainCommitmentData BabyBear) PlainProof

abbrev pub AirsBatch : Type 0
AirsBatch = Batch Sha256Challenger BabyBear QuarticExtension (PlainCommitmentData BabyBear)

-- whether two values are equal
abbrev pub same_value : BabyBear → BabyBear → Bool
same_value x y = x.value == y.value

-- each AIR's preprocessed trace has as many rows as its table, where the tables have these degree bits
abbrev pub HaveHeights : {A : Type 0} → (A → Declaration BabyBear) → List A → (degree_bits : List ℕ) → Type 0
HaveHeights {A} declaration airs degree_bits = (i : ℕ) (a : A) → i < length airs → HasHeight (declaration (get_or airs i a)).preprocessed (2 ^ get_or degree_bits i 0)

module _ {A : Type 0} (declaration : A → Declaration BabyBear) (trees : A → List (Tree BabyBear)) (interactions : A → List (Interaction BabyBear)) where
  abbrev pub sources_of_airs : List A → List (Source BabyBear)
  sources_of_airs airs = map (source_of declaration trees interactions) airs

  -- the AIRs' preprocessed traces in order, and each table's entry
  abbrev pub prepared_traces : List A → (degree_bits : List ℕ) → List (CosetData BabyBear × Rows BabyBear)
  prepared_traces airs degree_bits = committed_below baby_bear_ring.one (sources_of_airs airs) degree_bits (length airs)

  abbrev pub prepared_entries : List A → (degree_bits : List ℕ) → List (Option PreprocessedInstanceMeta)
  prepared_entries airs degree_bits = tabulate (length airs) (entry_at baby_bear_ring.one (sources_of_airs airs) degree_bits)

  -- what prover and verifier share: the commitment to these traces, and each table's lookups
  unfoldable pub airs_common : List A → (degree_bits : List ℕ) → Common BabyBear (PlainCommitmentData BabyBear)
  airs_common airs degree_bits = record {
    preprocessed = preprocessed_commitment_of (prepared_entries airs degree_bits) (prepared_traces airs degree_bits);
    lookups = tabulate (length airs) (packed_at baby_bear_ring 0 (sources_of_airs airs) degree_bits (replicate (length airs) 0));
  }

  -- what is stated: the tables of these AIRs, with these degree bits and public values
  abbrev pub airs_statement : List A → (degree_bits : List ℕ) → List (List BabyBear) → Statement BabyBear (PlainCommitmentData BabyBear)
  airs_statement airs degree_bits publics = record { tables = tables_of declaration trees airs; publics = publics; common = airs_common airs degree_bits }

  -- the batch of instances
  abbrev pub airs_batch : List (Instance A BabyBear) → AirsBatch
  airs_batch instances = record {
    setting = (tool_setting V2);
    prover = baby_bear_prover tool_scheme;
    statement = airs_statement (airs_of instances) (bits_of 0 instances) (map (λ i. i.public_values) instances);
    traces = map (λ i. i.trace) instances;
    degree_bits = bits_of 0 instances;
  }

-- The traces of a batch meet its constraints: the AIRs' are zero on each row, all fit their quotient's chunks, no bus may carry counts that add up to the order
-- of the field, and all buses are balanced.
pub record AreMet (b : AirsBatch) : Type 0 where
  pub holds : (i : ℕ) → i < table_count b → OwnHold b.setting (table_at b i)
  pub fits : (i : ℕ) → i < table_count b → AllFit b.setting (table_at b i)
  pub bounded : HaveLoadsBelow b.setting.order b.statement.common.lookups (heights_of (masks b.setting) b.degree_bits (length b.statement.tables))
  pub balanced : AreBalanced b.setting same_value (all_traced b.statement b.traces b.degree_bits)

-- the point of the proof's openings
abbrev pub drawn_point : AirsBatch → AirsProof → QuarticExtension
drawn_point b q = zeta b.setting b.prover b.statement b.traces b.degree_bits q.lookup_pow_witness q.ood_pow_witness

-- which lies on the rows of no table
abbrev pub DrawsOutside : AirsBatch → AirsProof → Type 0
DrawsOutside b q = (i : ℕ) → i < table_count b → IsOutsideRows b.setting (table_at b i) (drawn_point b q)

-- a table has 2^log_rows rows, by the proof's degree bits
abbrev pub height_check : (table log_rows : ℕ) → AirsProof → Check (BatchVerificationError PlainError)
height_check table log_rows p =
    let got = bits_at p.degree_bits table in
    record {
      refusal = λ e. ((got < log_rows) × (e ≡ Verification (InvalidProofShape (DegreeBitsTooSmall (Some table) log_rows got))))
          ⊎ ((log_rows < got) × (e ≡ Verification (InvalidProofShape (DegreeBitsTooLarge (Some table) log_rows got))));
      holds = got ≡ log_rows;
    }

-- How few challenges are unlucky for the tables that a proof commits to: lists of them without repetitions are no longer than these sums over the tables.
-- The number of a quotient's chunks, which the second counts with, is the one that the verifier counts.
pub record HasFewUnlucky (s : Statement BabyBear (PlainCommitmentData BabyBear)) (p : AirsProof) : Type 0 where
  pub alphas : let batch = committed_batch (tool_setting V2) 1 s p in
      (alphas : List QuarticExtension) → AreDistinct quartic_ring.zero alphas → All (IsUnluckyAlphaOfBatch baby_bear_field quartic_extension batch) alphas → length alphas ≤ sum (map most_alphas batch)
  pub zetas : let batch = committed_batch (tool_setting V2) 1 s p in
      (alpha : QuarticExtension) (zetas : List QuarticExtension) → AreDistinct quartic_ring.zero zetas → All (IsUnluckyZetaOfBatch baby_bear_field quartic_extension batch alpha) zetas → length zetas ≤ sum (map most_zetas batch)
  pub chunks : (i : ℕ) → i < length s.tables → chunk_count_of (committed_quotient (tool_setting V2) 1 s p i) ≡ chunk_count (tool_setting V2) s p i
