use Rattle.std.proofs.Common.{◌≡◌, ◌++◌, ◌∙◌, ap, ℕ, List}
use Rattle.tool_lines.specs.Texts.{line_text}
use Rattle.tool_lines.specs.Laws.Back.{text-reads-back}
use Rattle.tool_jobs.specs.Jobs.{job_numbers, read_tables}
use Rattle.tool_jobs.specs.Laws.Texts.{job-grammar}
use Rattle.tool_jobs.proofs.text.write_job.Goals as goal

pub returns-clause-reads_back : goal.returns-clause-reads_back
returns-clause-reads_back c fits =
    let job = read_tables c.args.job.now in
    let text : c.print_list.new.out.items ≡ line_text (job_numbers job)
    = c.in_ok-print_list.ensures ∙ ap (λ (l : List ℕ). l ++ line_text (job_numbers job)) c.new-text.ensures.items in
    text-reads-back job-grammar job c.print_list.new.out.items fits text
