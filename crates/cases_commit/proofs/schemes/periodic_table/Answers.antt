use Rattle.std.proofs.Common.{All, length, subst}
use Rattle.commit_core.specs.Periodic.{IsPeriod}
use Rattle.cases_commit.proofs.schemes.periodic_table.Goals as goal

pub build_periodic_lde_table-requires-clause-fit : goal.build_periodic_lde_table-requires-clause-fit
build_periodic_lde_table-requires-clause-fit g c = subst (λ n. All (λ v. IsPeriod n (length v.items)) c.args.columns.now) c.size-size.ensures.size c.in-Ok.ensures.2
