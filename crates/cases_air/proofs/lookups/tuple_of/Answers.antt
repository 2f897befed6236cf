use Rattle.std.proofs.Common.{List, subst, sym}
use Rattle.std.specs.Prelude.{All}
use Rattle.std.proofs.lemmas.List.Elements.{All-append}
use Rattle.p3_field.specs.declared.baby_bear.BabyBear.{BabyBear}
use Rattle.air_core.specs.declared.node.Node.{Node}
use Rattle.cases_air.specs.Taken.{IsSendableByColumn}
use Rattle.cases_air.proofs.Taken.{cell_sendable, none_of, one_of}
use Rattle.cases_air.proofs.lookups.tuple_of.Goals as goal

pub loop-letter-init : goal.loop-letter-init
loop-letter-init c =
    let Q : List (List (Node BabyBear)) → Type 0 = λ ls. All IsSendableByColumn ls in
    subst Q (sym c.new-fields.ensures.items) (none_of IsSendableByColumn)

pub loop-letter-preserved : goal.loop-letter-preserved
loop-letter-preserved c =
    let P : List (Node BabyBear) → Type 0 = λ l. IsSendableByColumn l in
    let Q : List (List (Node BabyBear)) → Type 0 = λ ls. All IsSendableByColumn ls in
    let cell = subst P (sym c.in_ok-leaf.ensures) (cell_sendable _) in
    subst Q (sym c.in_ok-push.ensures.items) (All-append IsSendableByColumn _ _ c.loop-letter.invariant (one_of IsSendableByColumn _ cell))
