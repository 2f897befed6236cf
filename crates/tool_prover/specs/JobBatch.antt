-- A job as a batch that is proved, over the program's configuration.
use Rattle.std.specs.Prelude.{List, map}
use Rattle.p3_field.specs.BabyBear.{baby_bear_ring}
use Rattle.p3_field.specs.declared.baby_bear.BabyBear.{BabyBear}
use Rattle.p3_field.specs.declared.quartic.QuarticExtension.{QuarticExtension}
use Rattle.p3_challenger.specs.declared.sha256_challenger.Sha256Challenger.{Sha256Challenger}
use Rattle.plain_pcs.specs.Scheme.{PlainCommitmentData}
use Rattle.law_honest.specs.HonestProof.{Prover}
use Rattle.prover_answer.specs.Batch.{Batch}
use Rattle.prover_answer.specs.PlainBackend.{baby_bear_prover}
use Rattle.transcript_version.specs.declared.TranscriptVersion.{TranscriptVersion}
use Rattle.tool_jobs.specs.Stated.{statement_of}
use Rattle.tool_statement.specs.Config.{tool_scheme, tool_setting}
use Rattle.tool_statement.specs.StatedTables.{tool_statement}
use Rattle.law_tool_valid.specs.Job.{JobTable, job_log_height_of, trace_of}

-- the program's prover: inverses in the extension, a value's canonical number, and the plain scheme's commitments
unfoldable pub tool_prover : Prover BabyBear QuarticExtension (PlainCommitmentData BabyBear)
tool_prover = baby_bear_prover tool_scheme

-- a job's statement, with its traces and the logarithms of their heights, over the transcript of a version
abbrev pub job_batch : TranscriptVersion → List (JobTable BabyBear) → Batch Sha256Challenger BabyBear QuarticExtension (PlainCommitmentData BabyBear)
job_batch version job = record {
  setting = tool_setting version;
  prover = tool_prover;
  statement = tool_statement (map statement_of job);
  traces = map (trace_of baby_bear_ring) job;
  degree_bits = map job_log_height_of job;
}
