use Rattle.std.proofs.Common.{◌<◌, List, length, map, subst}
use Rattle.std.specs.List.{All}
use Rattle.commit_core.specs.Periodic.{IsPeriod}
use Rattle.p3_field.specs.declared.baby_bear.BabyBear.{BabyBear}
use Rattle.cases_batch.proofs.Periods.{all_mapped, columns_filled}
use Rattle.cases_batch.proofs.tables.have_periods.Goals as goal

pub returns-in-Ok-clause-fit : goal.returns-in-Ok-clause-fit
returns-in-Ok-clause-fit g c = λ h.
    let P : List (List BabyBear) → Type 0 = λ ls. All (λ (l : List BabyBear). IsPeriod c.args.rows (length l)) ls in
    subst P c.periodic_columns.ensures (all_mapped (λ (l : List BabyBear). IsPeriod c.args.rows (length l)) (λ v. v.items) c.periodic_columns.result.now c.in-Ok.ensures.2)

pub returns-in-Ok-clause-filled : goal.returns-in-Ok-clause-filled
returns-in-Ok-clause-filled g c = λ h.
    let P : List (List BabyBear) → Type 0 = λ ls. All (λ (l : List BabyBear). IsPeriod c.args.rows (length l)) ls in
    columns_filled c.args.rows _
    (subst P c.periodic_columns.ensures (all_mapped (λ (l : List BabyBear). IsPeriod c.args.rows (length l)) (λ v. v.items) c.periodic_columns.result.now c.in-Ok.ensures.2))
