use Rattle.tool_lines.specs.Laws.Stops.{handed-on, own-items, same-reads, same-stops, then-first, then-reads, then-second}
use Rattle.stark_chain.specs.Laws.Texts.{blocks-grammar, same-job, words-grammar}
use Rattle.stark_chain.specs.Seen.{read_job}
use Rattle.stark_chain.specs.Texts.{JobWithin, job_numbers}
use Rattle.stark_chain.proofs.job.WholeChainJobForm.read.Goals as goal

pub returns-in_err-start : goal.returns-in_err-start
returns-in_err-start c = handed-on read_job JobWithin job_numbers _ _ _ c.in_err-start.field-0.0 c.from_residual.ensures.1
    (λ m. same-stops same-job (then-first blocks-grammar (c.in_err-start.ensures m)))

pub returns-in_err-blocks : goal.returns-in_err-blocks
returns-in_err-blocks c = handed-on read_job JobWithin job_numbers _ _ _ c.in_err-blocks.field-0.0 c.from_residual-in_err-blocks.ensures.1
    (λ m. same-stops same-job (then-second (words-grammar 8) c.in_ok-start.ensures (c.in_err-blocks.ensures m)))

pub returns : goal.returns
unfolding same-job
returns c = same-reads same-job (then-reads c.in_ok-start.ensures (own-items c.in_ok-blocks.blocks.items c.in_ok-blocks.ensures))
