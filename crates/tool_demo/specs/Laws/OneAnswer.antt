-- A number has at most one answer, where each job has one.
use Rattle.std.proofs.Common.{ℕ, List, refl, sym, ◌∙◌, ap}
use Rattle.p3_field.specs.declared.baby_bear.BabyBear.{BabyBear}
use Rattle.transcript_version.specs.declared.TranscriptVersion.TheVariants.{V2}
use Rattle.law_tool_valid.specs.Job.{JobTable}
use Rattle.tool_prover.specs.JobAnswer.{IsJobAnswer}
use Rattle.tool_demo.specs.Demo.{demo_job}
use Rattle.tool_demo.specs.DemoAnswer.{IsDemoAnswer, demo_text, line_count}
use Rattle.tool_verifier.specs.FileAnswer.{SameAnswer}
use Rattle.tool_verifier.specs.declared.status.Status.{Status}
use Rattle.tool_verifier.specs.declared.status.Status.TheVariants.{Done, Refused, Usage, BadInput, ReadFault, WriteFault, TooLarge, OutOfMemory}

module _ (one : (job : List (JobTable BabyBear)) (s t : Status) (x y : List ℕ) → IsJobAnswer V2 job s x → IsJobAnswer V2 job t y → SameAnswer s t x y) (number : ℕ) where
  pub one_answer : (s t : Status) (x y : List ℕ) → IsDemoAnswer number s x → IsDemoAnswer number t y → SameAnswer s t x y
  unfolding IsDemoAnswer
  one_answer Done Done x y a b =
      let same = one (demo_job number) Done Done a.0 b.0 a.1 b.1 in
      (refl, a.2 ∙ (ap (λ (file : List ℕ). demo_text number (line_count file)) same.1 ∙ sym b.2))
  one_answer Done Refused x y a b = let same = one (demo_job number) Done Refused a.0 y a.1 b in absurd (let e = same.0 in cc)
  one_answer Refused Done x y a b = let same = one (demo_job number) Refused Done x b.0 a b.1 in absurd (let e = same.0 in cc)
  one_answer Refused Refused x y a b = one (demo_job number) Refused Refused x y a b
  one_answer Done Usage x y a b = absurd b
  one_answer Done BadInput x y a b = absurd b
  one_answer Done ReadFault x y a b = absurd b
  one_answer Done WriteFault x y a b = absurd b
  one_answer Done TooLarge x y a b = absurd b
  one_answer Done OutOfMemory x y a b = absurd b
  one_answer Refused Usage x y a b = absurd b
  one_answer Refused BadInput x y a b = absurd b
  one_answer Refused ReadFault x y a b = absurd b
  one_answer Refused WriteFault x y a b = absurd b
  one_answer Refused TooLarge x y a b = absurd b
  one_answer Refused OutOfMemory x y a b = absurd b
  one_answer Usage t x y a b = absurd a
  one_answer BadInput t x y a b = absurd a
  one_answer ReadFault t x y a b = absurd a
  one_answer WriteFault t x y a b = absurd a
  one_answer TooLarge t x y a b = absurd a
  one_answer OutOfMemory t x y a b = absurd a
