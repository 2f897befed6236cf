-- The laws of builders that compute values at one point, for the folders of tables with lookups.
use Rattle.std.proofs.Common.{◌≡◌, refl}
use Rattle.p3_field.specs.Ring.{Ring}
use Rattle.air_core.specs.CellValues.{CellValues, reading_at}
use Rattle.air_core.specs.Tree.{Tree, eval_tree}
use Rattle.air_core.specs.Operation.{Operation, tree_by, value_by}
use Rattle.air_core.specs.Laws.Operation.{ReadsBy, value_by-tree}
use Rattle.p3_uni_stark.specs.Laws.Folders.{value_persists}

-- a reading at values computes as their ring does
pub by_ring : {F E : Type 0} (s : Ring E) (embed : F → E) (v : CellValues E) → ReadsBy s (reading_at s embed v)
by_ring s embed v = record { adds = λ x y. refl; subs = λ x y. refl; muls = λ x y. refl }

-- the value of an operation on values of trees is the value of its tree in each state that reads the same
pub value_by_persists : {F E S : Type 0} (s : Ring E) (embed : F → E) (values : S → CellValues E) (p q : S) (op : Operation) (x y z : E) (t u : Tree F) → q ≡ p
    → x ≡ eval_tree (reading_at s embed (values p)) t → y ≡ eval_tree (reading_at s embed (values p)) u → z ≡ value_by s op x y → z ≡ eval_tree (reading_at s embed (values q)) (tree_by op t u)
value_by_persists s embed values p q op x y z t u h k l e =
    value_persists (λ r. reading_at s embed (values r)) p q z (tree_by op t u) h
    (value_by-tree s (reading_at s embed (values p)) (by_ring s embed (values p)) op x y z t u k l e)
