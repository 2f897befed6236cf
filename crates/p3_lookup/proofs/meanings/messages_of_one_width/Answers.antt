use Rattle.p3_lookup.specs.Laws.Batch.{widths_pass_on}
use Rattle.p3_lookup.proofs.meanings.messages_of_one_width.Goals as goal

pub returns : goal.returns
returns g c tables = widths_pass_on tables
