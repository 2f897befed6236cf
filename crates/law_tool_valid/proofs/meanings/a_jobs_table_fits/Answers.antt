use Rattle.law_tool_valid.specs.Laws.Fits.{job_fits, job_sized}
use Rattle.law_tool_valid.proofs.meanings.a_jobs_table_fits.Goals as goal

pub returns : goal.returns
returns g c = record { fits = λ r j n chunks pos enough. job_fits r j n chunks pos enough; sized = λ r j n pos. job_sized r j n pos }
