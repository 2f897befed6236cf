use Rattle.std.proofs.Common.{◌≡◌, List, All, map, take, refl, sym, ◌∙◌, subst, arith}
use Rattle.std.proofs.lemmas.Grind.{common_steps}
use Rattle.air_core.specs.declared.cells.Count.{Count}
use Rattle.air_core.specs.declared.node.Node.{Node}
use Rattle.air_core.specs.Shape.{declared_shape, ReadsSendable}
use Rattle.air_core.specs.Tree.{Tree}
use Rattle.p3_lookup.specs.Written.{tree_count}
use Rattle.air_core.specs.Laws.Reads.{not_true}
use Rattle.batch_statement.proofs.Turns.{one_more, at_item}
use Rattle.batch_statement.proofs.reads.counts_are_sendable.Goals as goal

pub loop-count-preserved : goal.loop-count-preserved
loop-count-preserved g c =
    let s = declared_shape (g.A.BaseAir.declaration c.args.air.now) in
    one_more (tree_count {F = g.row.F.Denot}) (λ (k : Count (Tree g.row.F.Denot)). ReadsSendable s k.value) c.args.counts.now c.loop-count.count-index c.count-item.result c.loop-count-test.true c.count-item.is
    c.loop-count.invariant (c.reads_sendable.ensures.0 c.if-not-reads_sendable.false)

pub returns-then-not-reads_sendable : goal.returns-then-not-reads_sendable
returns-then-not-reads_sendable g c =
    let s = declared_shape (g.A.BaseAir.declaration c.args.air.now) in (
      (λ h. absurd (not_true h)),
      λ h. sym c.if-not-reads_sendable.true ∙ c.reads_sendable.ensures.1 (at_item (tree_count {F = g.row.F.Denot}) (λ (k : Count (Tree g.row.F.Denot)). ReadsSendable s k.value) c.args.counts.now c.loop-count.count-index c.count-item.result c.loop-count-test.true c.count-item.is h),
    )

pub returns : goal.returns
returns g c =
    let s = declared_shape (g.A.BaseAir.declaration c.args.air.now) in
    let all : take c.loop-count.count-index c.args.counts.now ≡ c.args.counts.now = grind (arith, common_steps) in
    let Q : List (Count (List (Node g.row.F.Denot))) → Type 0 = λ ys. All (λ (k : Count (Tree g.row.F.Denot)). ReadsSendable s k.value) (map tree_count ys) in
    ((λ h. subst Q all c.loop-count.invariant), λ h. refl)
