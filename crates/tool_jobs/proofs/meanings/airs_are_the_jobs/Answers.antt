use Rattle.tool_jobs.specs.Laws.Airs.{are-airs}
use Rattle.tool_jobs.proofs.meanings.airs_are_the_jobs.Goals as goal

pub returns : goal.returns
returns g c = λ r job airs e. are-airs r job airs e
