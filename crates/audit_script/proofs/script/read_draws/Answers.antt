use Rattle.audit_script.specs.Steps.{draws_told}
use Rattle.audit_script.specs.Laws.Steps.{some_draws}
use Rattle.audit_script.proofs.script.read_draws.Goals as goal

pub returns-else-tables-eq0 : goal.returns-else-tables-eq0
returns-else-tables-eq0 g c =
    some_draws g.EF.RingCore.ring c.args.tables (record { state = c.args.challenger; challenges = c.args.challenges.now; passed = c.args.passed.now })
    (draws_told c.with_lookups.result) c.if-tables-eq0.false c.with_lookups.ensures
