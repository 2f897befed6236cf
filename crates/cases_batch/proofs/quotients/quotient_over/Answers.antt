use Rattle.std.proofs.Common.{ℕ, List, length, refl, subst}
use Rattle.std.specs.List.{All}
use Rattle.commit_core.specs.Periodic.{IsPeriod}
use Rattle.p3_field.specs.declared.baby_bear.BabyBear.{BabyBear}
use Rattle.cases_batch.proofs.quotients.quotient_over.Goals as goal

pub quotient_values-requires-clause-periods : goal.quotient_values-requires-clause-periods
quotient_values-requires-clause-periods g c =
    let P : ℕ → Type 0 = λ n. All (λ (l : List BabyBear). IsPeriod n (length l)) (g.A.BaseAir.declaration c.args.air.now).periodic in
    subst P c.size.ensures (c.if-not-have_periods.ensures.fit refl)
