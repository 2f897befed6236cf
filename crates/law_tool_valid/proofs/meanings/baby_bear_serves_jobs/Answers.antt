use Rattle.law_tool_valid.specs.Laws.BabyBear.{baby_bear_serves}
use Rattle.law_tool_valid.proofs.meanings.baby_bear_serves_jobs.Goals as goal

pub returns : goal.returns
returns g c challenger initial log_max lookup_bits ood_bits version enough = baby_bear_serves challenger initial log_max lookup_bits ood_bits version enough
