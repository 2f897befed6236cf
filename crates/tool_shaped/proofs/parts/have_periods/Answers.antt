use Rattle.std.proofs.Common.{List, length, refl, subst, sym}
use Rattle.std.specs.Prelude.{All}
use Rattle.p3_field.specs.Laws.Checks.{none_first}
use Rattle.air_core.specs.Laws.Reads.{not_true}
use Rattle.commit_core.specs.Laws.Periods.{all_pass}
use Rattle.commit_core.specs.Periodic.{IsPeriod}
use Rattle.tool_shaped.proofs.Turns.{all_mapped, all_of_mapped}
use Rattle.tool_shaped.proofs.parts.have_periods.Goals as goal

pub returns-in-Ok : goal.returns-in-Ok
returns-in-Ok g c =
    let P : List (List g.row.F.Denot) → Type 0 = λ ls. All (λ (l : List g.row.F.Denot). IsPeriod c.args.rows (length l)) ls in (
      (λ h. subst P c.periodic_columns.ensures (all_mapped (λ (l : List g.row.F.Denot). IsPeriod c.args.rows (length l)) (λ v. v.items) c.periodic_columns.result.now c.in-Ok.ensures.2)),
      λ h. refl,
    )

pub returns-in-Err : goal.returns-in-Err
returns-in-Err g c =
    let P : List (List g.row.F.Denot) → Type 0 = λ ls. All (λ (l : List g.row.F.Denot). IsPeriod c.args.rows (length l)) ls in (
      (λ h. absurd (not_true h)),
      λ h. absurd (none_first _ _
          (all_pass c.args.rows _
          (all_mapped (IsPeriod c.args.rows) (λ v. length v.items) c.periodic_columns.result.now
          (all_of_mapped (λ (l : List g.row.F.Denot). IsPeriod c.args.rows (length l)) (λ v. v.items) c.periodic_columns.result.now (subst P (sym c.periodic_columns.ensures) h)))) c.in-Err.ensures),
    )
