-- Why a balanced job has no proof: the plain scheme refuses nothing, and no bus is loaded too much, so an event came.
use Rattle.std.proofs.Common.{◌≤◌, List, length, arith}
use Rattle.std.specs.Prelude.{All}
use Rattle.p3_field.specs.declared.baby_bear.BabyBear.{BabyBear}
use Rattle.p3_lookup.specs.Bound.{HaveLoadsBelow}
use Rattle.plain_pcs.specs.declared.error.PlainProverError.{PlainProverError}
use Rattle.batch_config.specs.Setting.{masks}
use Rattle.verifier_shape.specs.ShapeChecks.{heights_of}
use Rattle.batch_transcript.specs.declared.failure.GrindStep.TheVariants.{Lookup, Ood}
use Rattle.prover_answer.specs.Batch.{table_count}
use Rattle.prover_answer.specs.PlainBackend.{plain_prover_backend}
use Rattle.prover_answer.specs.Telling.{Tells}
use Rattle.prover_answer.specs.declared.error.ProvingError.{ProvingError}
use Rattle.prover_answer.specs.declared.error.ProvingError.TheVariants.{LookupDenominatorZero, MultiplicityBound, OutOfMemory, Pcs, WitnessNotFound}
use Rattle.transcript_version.specs.declared.TranscriptVersion.{TranscriptVersion}
use Rattle.tool_statement.specs.Config.{tool_scheme, tool_setting}
use Rattle.law_tool_valid.specs.Job.{IsJobTableWithin, JobTable}
use Rattle.tool_prover.specs.JobAnswer.{IsTold}
use Rattle.tool_prover.specs.JobBatch.{job_batch}
use Rattle.tool_prover.specs.Laws.Granted.{batch_granted, none_overloaded}
use Rattle.tool_prover.specs.Laws.JobTables.{tables_traced}
use Rattle.tool_prover.specs.Laws.Within.{fields, unmasked}

module _ (version : TranscriptVersion) (job : List (JobTable BabyBear)) (many : length job ≤ 8) (within : All IsJobTableWithin job)
    (bounded : let b = job_batch version job in HaveLoadsBelow b.setting.order b.statement.common.lookups (heights_of (masks b.setting) b.degree_bits (table_count b))) where
  -- what a refusal of the job's batch tells
  pub told : (e : ProvingError PlainProverError) → Tells (plain_prover_backend tool_scheme) (job_batch version job) e → IsTold version job e
  unfolding tool_setting
  told (Pcs phase source) h = batch_granted (job_batch version job) 1 (fields version job many within) (unmasked version) (omega arith) (tables_traced version job within) phase source h
  told (MultiplicityBound bus) h = none_overloaded tool_scheme (job_batch version job) bounded bus h
  told (LookupDenominatorZero i row) h = h
  told (WitnessNotFound Lookup) h = h
  told (WitnessNotFound Ood) h = h
  told OutOfMemory h = tt
