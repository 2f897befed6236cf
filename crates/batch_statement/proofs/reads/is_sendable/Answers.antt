use Rattle.std.proofs.Common.{◌≡◌, List, All, map, take, refl, sym, ◌∙◌, subst, arith}
use Rattle.std.proofs.lemmas.Grind.{common_steps}
use Rattle.air_core.specs.declared.node.Node.{Node}
use Rattle.air_core.specs.Shape.{declared_shape, ReadsSendable}
use Rattle.air_core.specs.Symbolic.{tree_of}
use Rattle.air_core.specs.Laws.Reads.{not_true}
use Rattle.batch_statement.proofs.Turns.{one_more, at_item}
use Rattle.batch_statement.proofs.reads.is_sendable.Goals as goal

pub loop-expression-preserved : goal.loop-expression-preserved
loop-expression-preserved g c =
    let s = declared_shape (g.A.BaseAir.declaration c.args.air.now) in
    one_more (tree_of {F = g.row.F.Denot}) (ReadsSendable s) c.args.tuple.now c.loop-expression.expression-index c.expression-item.result c.loop-expression-test.true c.expression-item.is
    c.loop-expression.invariant (c.reads_sendable.ensures.0 c.if-not-reads_sendable.false)

pub returns-then-not-reads_sendable : goal.returns-then-not-reads_sendable
returns-then-not-reads_sendable g c =
    let s = declared_shape (g.A.BaseAir.declaration c.args.air.now) in (
      (λ h. absurd (not_true h)),
      λ h. sym c.if-not-reads_sendable.true ∙ c.reads_sendable.ensures.1 (at_item (tree_of {F = g.row.F.Denot}) (ReadsSendable s) c.args.tuple.now c.loop-expression.expression-index c.expression-item.result c.loop-expression-test.true c.expression-item.is h),
    )

pub returns : goal.returns
returns g c =
    let s = declared_shape (g.A.BaseAir.declaration c.args.air.now) in
    let all : take c.loop-expression.expression-index c.args.tuple.now ≡ c.args.tuple.now = grind (arith, common_steps) in
    let Q : List (List (Node g.row.F.Denot)) → Type 0 = λ ys. All (ReadsSendable s) (map tree_of ys) in
    ((λ h. subst Q all c.loop-expression.invariant), λ h. refl)
