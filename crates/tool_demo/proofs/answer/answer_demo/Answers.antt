use Rattle.std.proofs.Common.{◌≡◌, ℕ, List, refl, sym, ◌∙◌, ap, subst}
use Rattle.p3_field.specs.declared.baby_bear.BabyBear.{BabyBear}
use Rattle.transcript_version.specs.declared.TranscriptVersion.TheVariants.{V2}
use Rattle.law_tool_valid.specs.Job.{JobTable}
use Rattle.tool_jobs.specs.Jobs.{JobWithin, read_tables}
use Rattle.tool_prover.specs.JobAnswer.{IsJobAnswer}
use Rattle.tool_demo.specs.Demo.{demo_job}
use Rattle.tool_demo.specs.DemoAnswer.{IsDemoAnswer, demo_text, line_count}
use Rattle.tool_verifier.specs.declared.status.Status.{Status}
use Rattle.tool_verifier.specs.declared.status.Status.TheVariants.{Done, Refused, Usage, BadInput, ReadFault, WriteFault, TooLarge, OutOfMemory}
use Rattle.tool_demo.proofs.answer.answer_demo.Goals as goal

-- the answer for a job that is proved: the line of its file,
done_is : (number : ℕ) (job : List (JobTable BabyBear)) (s : Status) (file text : List ℕ) → job ≡ demo_job number → s ≡ Done
    → IsJobAnswer V2 job s file → text ≡ demo_text number (line_count file) → IsDemoAnswer number Done text
unfolding IsDemoAnswer
done_is number job s file text e is a line =
    (file, subst (λ (j : List (JobTable BabyBear)). IsJobAnswer V2 j Done file) e (subst (λ (t : Status). IsJobAnswer V2 job t file) is a), line)

-- and else the job's own
own : (number : ℕ) (s : Status) (text : List ℕ) → (s ≡ Done → ⊥) → IsJobAnswer V2 (demo_job number) s text → IsDemoAnswer number s text
unfolding IsDemoAnswer IsJobAnswer
own number Done text n a = absurd (n refl)
own number Refused text n a = a
own number Usage text n a = a
own number BadInput text n a = a
own number ReadFault text n a = a
own number WriteFault text n a = a
own number OutOfMemory text n a = a
own number TooLarge text n a = a

other_is : (number : ℕ) (job : List (JobTable BabyBear)) (s : Status) (text : List ℕ) → job ≡ demo_job number → (s ≡ Done → ⊥) → IsJobAnswer V2 job s text → IsDemoAnswer number s text
other_is number job s text e n a = own number s text n (subst (λ (j : List (JobTable BabyBear)). IsJobAnswer V2 j s text) e a)

pub answer_prove-requires : goal.answer_prove-requires
answer_prove-requires c = subst (λ (j : List _). JobWithin (read_tables j)) (sym c.deref.ensures.value) c.in_ok-job.ensures.within

pub returns-in-Done : goal.returns-in-Done
returns-in-Done c =
    let answer = c.in_ok-answer.answer in
    done_is c.args.number (read_tables c.deref.result.now) answer.status answer.text.items c.in_ok-demo_line-in-Done.field-0.items
    (ap read_tables c.deref.ensures.value ∙ c.in_ok-job.ensures.job) c.in-Done.is c.in_ok-answer.ensures
    (c.in_ok-demo_line-in-Done.ensures ∙ ap (λ (l : List ℕ). demo_text c.args.number (line_count l)) c.deref-in-Done.ensures.value)

pub returns : goal.returns
returns c =
    let answer = c.in_ok-answer.answer in
    other_is c.args.number (read_tables c.deref.result.now) answer.status answer.text.items (ap read_tables c.deref.ensures.value ∙ c.in_ok-job.ensures.job)
    c.in_default.not-Done c.in_ok-answer.ensures
