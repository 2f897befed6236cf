-- The drawn point lies on no table's rows exactly where it avoids the subgroups of the stated heights.
use Rattle.std.proofs.Common.{◌≡◌, ◌↔◌, ℕ, cond, List, length, get_or, map, sym, ◌∙◌, ap, subst, arith}
use Rattle.std.specs.Prelude.{All}
use Rattle.std.proofs.lemmas.List.{get_or_default, length-map}
use Rattle.p3_field.specs.declared.baby_bear.BabyBear.{BabyBear}
use Rattle.batch_config.specs.Setting.{masks}
use Rattle.law_valid.specs.Traced.{log_rows}
use Rattle.prover_answer.specs.Batch.{table_at}
use Rattle.transcript_version.specs.declared.TranscriptVersion.{TranscriptVersion}
use Rattle.tool_proof_text.specs.ProofText.{ToolProofData}
use Rattle.tool_jobs.specs.Laws.Statements.{statements-heights}
use Rattle.tool_jobs.specs.Stated.{statement_of}
use Rattle.tool_statement.specs.Config.{tool_setting}
use Rattle.tool_statement.specs.StatedTables.{log_heights_of}
use Rattle.law_tool_valid.specs.Job.{JobTable, job_log_height_of}
use Rattle.tool_prover.specs.JobAnswer.{DrawsOutside, drawn_point}
use Rattle.tool_prover.specs.JobBatch.{job_batch}
use Rattle.tool_prover.specs.Outside.{AvoidsRows}
use Rattle.tool_prover.specs.Laws.JobTables.{tool_serves}

module _ (version : TranscriptVersion) (job : List (JobTable BabyBear)) where
  abbrev heights : List ℕ
  heights = log_heights_of (map statement_of job)

  -- the rows of a table
  rows_there : (i : ℕ) → log_rows (tool_setting version) (table_at (job_batch version job) i) ≡ get_or heights i 0
  rows_there i =
      let none : masks (tool_setting version) ≡ 0 = ap (λ z. cond z 1 0) (tool_serves version).plain in
      let stated : get_or heights i 0 ≡ get_or (map job_log_height_of job) i 0 = ap (λ hs. get_or hs i 0) (statements-heights job) in
      omega (arith, none, stated)

  long : length heights ≡ length job
  long = ap length (statements-heights job) ∙ length-map job (job_log_height_of {F = BabyBear})

  pub outside_is : (q : ToolProofData) → DrawsOutside version job q ↔ All (AvoidsRows (drawn_point version job q)) heights
  unfolding tool_setting
  outside_is q = (
    (λ out i d l.
        let here = out i (let n = long in omega (arith, l, n)) in
        subst (AvoidsRows (drawn_point version job q)) (rows_there i ∙ get_or_default heights i 0 d l) here),
    (λ all i l. subst (AvoidsRows (drawn_point version job q)) (sym (rows_there i)) (all i 0 (let n = long in omega (arith, l, n)))),
  )
