-- What each refusal of a prover tells: the fact that it names.
use Rattle.std.specs.Prelude.{◌≡◌, ℕ, ◌^◌, ◌<◌, ◌≤◌, List, Option, ⊤}
use Rattle.p3_matrix.specs.Matrix.{Rows}
use Rattle.commit_core.specs.Claims.{Request}
use Rattle.commit_core.specs.Commitments.{AreExtensions}
use Rattle.p3_lookup.specs.Bound.{bus_load, capped}
use Rattle.p3_lookup.specs.Bus.{batch_buses, bus_count}
use Rattle.batch_config.specs.Setting.{masks}
use Rattle.batch_setup.specs.declared.error.ProverPhase.{ProverPhase}
use Rattle.batch_setup.specs.declared.error.ProverPhase.TheVariants.{PreprocessingCommitment, TraceCommitment, PermutationCommitment, QuotientEvaluations, QuotientCommitment, Opening}
use Rattle.verifier_shape.specs.ShapeChecks.{heights_of}
use Rattle.batch_transcript.specs.declared.failure.GrindStep.TheVariants.{Lookup, Ood}
use Rattle.law_honest.specs.HonestProof.{IsDenominatorZero, LacksLookupGround, LacksOodGround}
use Rattle.prover_answer.specs.Backend.{ProverBackend}
use Rattle.prover_answer.specs.Batch.{Batch, all_chunks, all_permutations, chunks_of, log_parts_at, main_matrices, table_count}
use Rattle.prover_answer.specs.Proving.{AreAsked, IsGroundOf, IsPairGroundOf, fault_of_some}
use Rattle.prover_answer.specs.declared.error.ProvingError.{ProvingError}
use Rattle.prover_answer.specs.declared.error.ProvingError.TheVariants.{LookupDenominatorZero, MultiplicityBound, OutOfMemory, Pcs, WitnessNotFound}

module _ {S F E C D P R : Type 0} (k : ProverBackend S F E C D P R) (b : Batch S F E C) where
  -- the counts on this bus may add up to the order of the field
  pub record IsOverloaded (bus : ℕ) : Type 0 where
    pub number : ℕ
    pub named : bus ≡ capped number
    pub within : number < bus_count (batch_buses b.statement.common.lookups)
    pub reaches : b.setting.order ≤ bus_load b.statement.common.lookups (heights_of (masks b.setting) b.degree_bits (table_count b)) number

  -- why the backend refuses what it is asked in a phase
  abbrev pub PhaseTells : ProverPhase → R → Type 0
  PhaseTells PreprocessingCommitment source = ⊥
  PhaseTells TraceCommitment source = k.commit_fault (main_matrices b) source
  PhaseTells PermutationCommitment source = (w : Option F) × IsPairGroundOf b w × fault_of_some k.commit_fault (all_permutations b w) source
  PhaseTells QuotientEvaluations source = (w : Option F) × IsPairGroundOf b w × ((i : ℕ) × (i < table_count b) × k.extension_fault (chunks_of b w i) (2 ^ log_parts_at b i) source)
  PhaseTells QuotientCommitment source = (w : Option F) × IsPairGroundOf b w × ((ldes : List (Rows F)) × AreExtensions k.extends (all_chunks b w) ldes × k.ldes_fault ldes source)
  PhaseTells Opening source = (w : Option F) × (z : F) × IsGroundOf b w z × ((requests : List (Request D E)) × AreAsked k b w z requests × k.open_fault requests source)

  abbrev pub Tells : ProvingError R → Type 0
  Tells (Pcs phase source) = PhaseTells phase source
  Tells (MultiplicityBound bus) = IsOverloaded bus
  Tells (LookupDenominatorZero instance row) = IsDenominatorZero b.setting b.prover b.statement b.traces b.degree_bits instance row
  Tells (WitnessNotFound Lookup) = LacksLookupGround b.setting b.prover b.statement b.traces b.degree_bits
  Tells (WitnessNotFound Ood) = LacksOodGround b.setting b.prover b.statement b.traces b.degree_bits
  Tells OutOfMemory = ⊤
