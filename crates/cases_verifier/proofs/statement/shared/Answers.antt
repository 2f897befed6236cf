use Rattle.cases_verifier.proofs.statement.shared.Goals as goal

pub from_airs_and_degrees-requires-clause-widths : goal.from_airs_and_degrees-requires-clause-widths
from_airs_and_degrees-requires-clause-widths g c = c.tables_send_one_width.ensures c.args.airs.now
