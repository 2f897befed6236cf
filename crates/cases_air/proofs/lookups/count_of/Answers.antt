use Rattle.std.proofs.Common.{List, subst, sym}
use Rattle.p3_field.specs.declared.baby_bear.BabyBear.{BabyBear}
use Rattle.air_core.specs.declared.node.Node.{Node}
use Rattle.cases_air.specs.Taken.{IsSendableByColumn}
use Rattle.cases_air.proofs.Taken.{constant_sendable}
use Rattle.cases_air.proofs.lookups.count_of.Goals as goal

pub returns : goal.returns
returns c =
    let P : List (Node BabyBear) → Type 0 = λ l. IsSendableByColumn l in
    subst P (sym c.in_ok-value.ensures) (constant_sendable _)
