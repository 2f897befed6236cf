use Rattle.std.proofs.Common.{◌≡◌, ℕ, ◌∷◌, [], List, subst, sym}
use Rattle.air_core.specs.Degree.{HasPeriod}
use Rattle.air_core.specs.Shape.{ReadsIn}
use Rattle.air_core.specs.Symbolic.{tree_of, trees_after}
use Rattle.air_core.specs.declared.node.Node.{Node}
use Rattle.air_core.specs.declared.node.Node.TheVariants.{Constant, Base, Extension, Sum, Difference, Product}
use Rattle.p3_field.specs.declared.baby_bear.BabyBear.{BabyBear}
use Rattle.cases_batch.specs.Leaves.{IsLeaf}
use Rattle.cases_batch.proofs.expressions.degrees.Goals as goal

-- a leaf's tree reads what the leaf does
leaf_reads : (periods : List ℕ) (n : Node BabyBear) → IsLeaf periods n → ReadsIn (HasPeriod periods) (λ x. Unit {0}) (tree_of (n ∷ []))
unfolding trees_after
leaf_reads periods (Constant x) h = tt
leaf_reads periods (Base c) h = h
leaf_reads periods (Extension c) h = tt
leaf_reads periods (Sum i j) h = absurd h
leaf_reads periods (Difference i j) h = absurd h
leaf_reads periods (Product i j) h = absurd h

pub poly_degree-requires-clause-periods : goal.poly_degree-requires-clause-periods
poly_degree-requires-clause-periods c =
    let P : List (Node BabyBear) → Type 0 = λ e. ReadsIn (HasPeriod (c.number.result ∷ [])) (λ x. Unit {0}) (tree_of e) in
    subst P (sym c.in_ok-expression.ensures) (leaf_reads (c.number.result ∷ []) c.node.result c.node.ensures.leaf)
