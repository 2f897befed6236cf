use Rattle.std.proofs.Common.{length}
use Rattle.commit_core.proofs.Periods.{greatest_divided}
use Rattle.commit_core.proofs.periodic.PeriodicColumns.max_period.Goals as goal

pub returns-clause-divided : goal.returns-clause-divided
returns-clause-divided g c n is =
    greatest_divided (λ v. length v.items) c.args.self.now.height c.args.self.now.columns.now c.greatest_length.result n c.args.self.now.fit c.greatest_length.ensures is
