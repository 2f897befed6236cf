use Rattle.std.proofs.Common.{◌≡◌, ◌+◌, ◌<◌, List, [], ◌∷◌, ◌++◌, All, map, take, get_or, length, refl, sym, ap, ◌∙◌, subst, arith}
use Rattle.std.proofs.lemmas.List.{take_more, map-append, length-map, get_or-map}
use Rattle.std.proofs.lemmas.List.Elements.{All-push}
use Rattle.std.proofs.lemmas.Grind.{common_steps}
use Rattle.air_core.specs.declared.node.Node.{Node}
use Rattle.air_core.specs.Shape.{declared_shape, ReadsSendable}
use Rattle.air_core.specs.Symbolic.{tree_of}
use Rattle.air_core.specs.Tree.{Tree}
use Rattle.air_core.specs.Laws.Reads.{not_true}
use Rattle.air_core.proofs.reads.all_sendable.Goals as goal

pub loop-expression-preserved : goal.loop-expression-preserved
loop-expression-preserved g c =
    let s = declared_shape (g.A.BaseAir.declaration c.args.air.now) in
    let xs = c.args.expressions.now in
    let i = c.loop-expression.expression-index in
    let x = c.expression-item.result in
    let taken : take (i + 1) xs ≡ take i xs ++ x ∷ [] = take_more xs i x c.loop-expression-test.true ∙ ap (λ (y : List (Node g.row.F.Denot)). take i xs ++ y ∷ []) (sym c.expression-item.is) in
    let Q : List (Tree g.row.F.Denot) → Type 0 = λ ts. All (ReadsSendable s) ts in
    subst Q (sym (ap (map tree_of) taken ∙ map-append tree_of (take i xs) (x ∷ [])))
    (All-push (ReadsSendable s) (map tree_of (take i xs)) (tree_of x) c.loop-expression.invariant (c.reads_sendable.ensures.0 c.if-not-reads_sendable.false))

pub returns-then-not-reads_sendable : goal.returns-then-not-reads_sendable
returns-then-not-reads_sendable g c =
    let s = declared_shape (g.A.BaseAir.declaration c.args.air.now) in
    let xs = c.args.expressions.now in
    let i = c.loop-expression.expression-index in
    let x = c.expression-item.result in
    let lt : i < length (map tree_of xs) = omega (arith, c.loop-expression-test.true, length-map xs (tree_of {F = g.row.F.Denot})) in
    let here : get_or (map tree_of xs) i (tree_of x) ≡ tree_of x = get_or-map tree_of xs i x (tree_of x) c.loop-expression-test.true ∙ ap tree_of (sym c.expression-item.is) in
    let P : Tree g.row.F.Denot → Type 0 = λ t. ReadsSendable s t in
    ((λ h. absurd (not_true h)), λ h. sym c.if-not-reads_sendable.true ∙ c.reads_sendable.ensures.1 (subst P here (h i (tree_of x) lt)))

pub returns : goal.returns
returns g c =
    let s = declared_shape (g.A.BaseAir.declaration c.args.air.now) in
    let xs = c.args.expressions.now in
    let all : take c.loop-expression.expression-index xs ≡ xs = grind (arith, common_steps) in
    let Q : List (List (Node g.row.F.Denot)) → Type 0 = λ ys. All (ReadsSendable s) (map tree_of ys) in
    ((λ h. subst Q all c.loop-expression.invariant), λ h. refl)
