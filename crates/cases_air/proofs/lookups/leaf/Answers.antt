use Rattle.std.proofs.Common.{◌≡◌, ◌++◌, ◌∷◌, [], List, subst, sym, ◌∙◌, ap, lit<}
use Rattle.air_core.specs.Symbolic.{IsExpression, OrderedFrom}
use Rattle.air_core.specs.declared.node.Node.{Node}
use Rattle.p3_field.specs.declared.baby_bear.BabyBear.{BabyBear}
use Rattle.cases_air.proofs.lookups.leaf.Goals as goal

pub new-requires : goal.new-requires
unfolding OrderedFrom
new-requires c =
    let P : List (Node BabyBear) → Type 0 = λ l. IsExpression l in
    let e : c.push.new.self.items ≡ c.args.node ∷ [] = c.in_ok-push.ensures.items ∙ ap (λ l. l ++ c.args.node ∷ []) c.new-nodes.ensures.items in
    subst P (sym e) (record { rooted = lit< tt; ordered = (c.requires, tt) })
