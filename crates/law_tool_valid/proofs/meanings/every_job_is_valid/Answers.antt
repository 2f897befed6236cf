use Rattle.std.specs.Prelude.{◌≡◌}
use Rattle.law_tool_valid.specs.Laws.Program.{program_is_valid}
use Rattle.law_tool_valid.proofs.meanings.every_job_is_valid.Goals as goal

pub returns : goal.returns
returns g k c inverse eq job airs budgets commitment_of common kept Z J A lookups prepared formed =
    program_is_valid c inverse Z eq job J airs A budgets (λ es w. w.0 ≡ commitment_of es) commitment_of (λ es w e. e) common kept prepared lookups formed
