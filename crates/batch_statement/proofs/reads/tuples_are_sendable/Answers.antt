use Rattle.std.proofs.Common.{◌≡◌, List, All, map, take, Vec, Global, refl, sym, ◌∙◌, subst, arith}
use Rattle.std.proofs.lemmas.Grind.{common_steps}
use Rattle.air_core.specs.declared.node.Node.{Node}
use Rattle.air_core.specs.declared.symbolic.SymbolicExpression.{SymbolicExpression}
use Rattle.air_core.specs.Shape.{declared_shape, ReadsSendable}
use Rattle.air_core.specs.Symbolic.{tree_of}
use Rattle.air_core.specs.Tree.{Tree}
use Rattle.air_core.specs.Laws.Reads.{not_true}
use Rattle.batch_statement.proofs.Turns.{one_more, at_item}
use Rattle.batch_statement.proofs.reads.tuples_are_sendable.Goals as goal

pub loop-tuple-preserved : goal.loop-tuple-preserved
loop-tuple-preserved g c =
    let s = declared_shape (g.A.BaseAir.declaration c.args.air.now) in
    let trees : Vec (SymbolicExpression g.row.F.Denot) Global → List (Tree g.row.F.Denot) = λ v. map tree_of v.items in
    let P : List (List (Node g.row.F.Denot)) → Type 0 = λ xs. All (ReadsSendable s) (map tree_of xs) in
    one_more trees (All (ReadsSendable s)) c.args.tuples.now c.loop-tuple.tuple-index c.tuple-item.result c.loop-tuple-test.true c.tuple-item.is c.loop-tuple.invariant
    (subst P c.deref.ensures.value (c.is_sendable.ensures.0 c.if-not-is_sendable.false))

pub returns-then-not-is_sendable : goal.returns-then-not-is_sendable
returns-then-not-is_sendable g c =
    let s = declared_shape (g.A.BaseAir.declaration c.args.air.now) in
    let trees : Vec (SymbolicExpression g.row.F.Denot) Global → List (Tree g.row.F.Denot) = λ v. map tree_of v.items in
    let P : List (List (Node g.row.F.Denot)) → Type 0 = λ xs. All (ReadsSendable s) (map tree_of xs) in (
      (λ h. absurd (not_true h)),
      λ h. sym c.if-not-is_sendable.true ∙ c.is_sendable.ensures.1 (subst P (sym c.deref.ensures.value) (at_item trees (All (ReadsSendable s)) c.args.tuples.now c.loop-tuple.tuple-index c.tuple-item.result c.loop-tuple-test.true c.tuple-item.is h)),
    )

pub returns : goal.returns
returns g c =
    let s = declared_shape (g.A.BaseAir.declaration c.args.air.now) in
    let all : take c.loop-tuple.tuple-index c.args.tuples.now ≡ c.args.tuples.now = grind (arith, common_steps) in
    let Q : List (Vec (SymbolicExpression g.row.F.Denot) Global) → Type 0 = λ ys. All (All (ReadsSendable s)) (map (λ v. map tree_of v.items) ys) in
    ((λ h. subst Q all c.loop-tuple.invariant), λ h. refl)
