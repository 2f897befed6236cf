use Rattle.law_tool_valid.specs.Laws.Tables.{kind_holds}
use Rattle.law_tool_valid.proofs.meanings.a_jobs_table_holds.Goals as goal

pub returns : goal.returns
returns g c f e top inverse j L W served low = kind_holds f e top inverse L j W served low
