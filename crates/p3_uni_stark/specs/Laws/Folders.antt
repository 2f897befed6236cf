-- The laws of builders for the folders.
use Rattle.std.proofs.Common.{◌≡◌, List, ◌++◌, map, refl, sym, ◌∙◌, ap, subst}
use Rattle.std.proofs.lemmas.List.{map-append}
use Rattle.std.proofs.lemmas.Simd.{map-map}
use Rattle.p3_field.specs.Ring.{Ring, RingLaws}
use Rattle.p3_field.specs.Field.{RingHom}
use Rattle.air_core.specs.Tree.{Tree, Asserted, Reading, eval_tree, eval_asserted, over_base}
use Rattle.air_core.specs.declared.cells.Cell.{Cell}
use Rattle.air_core.specs.CellValues.{cell_in}
use Rattle.air_core.specs.Laws.CellValues.{cell_image}
use Rattle.air_core.specs.PointValues.{point_cell}
use Rattle.air_core.specs.Operation.{Operation, tree_by, value_by}
use Rattle.air_core.specs.Laws.Operation.{ReadsBy, value_by-tree, embedded-value_by}
use Rattle.p3_uni_stark.specs.Point.{PointValues, point_cells, point_shape, point_reading, embedded}
use Rattle.p3_uni_stark.specs.Fold.{fold_from, Sum, weighed_from}
use Rattle.p3_uni_stark.specs.Laws.Folds.{fold_after, weighed_after}
use Rattle.p3_uni_stark.specs.Laws.Point.{embedded_cells}

-- a value in a state is the tree's value in each state that reads the same
pub value_persists : {F E S : Type 0} (reads : S → Reading F E) (p q : S) (e : E) (t : Tree F) → q ≡ p → e ≡ eval_tree (reads p) t → e ≡ eval_tree (reads q) t
value_persists {F = F} {E = E} {S = S} reads p q e t h k = let P : S → Type 0 = λ r. e ≡ eval_tree (reads r) t in subst P (sym h) k

by_ring : {F E : Type 0} (s : Ring E) (embed : F → E) (p : PointValues F E) → ReadsBy s (point_reading s embed p)
by_ring s embed p = record { adds = λ x y. refl; subs = λ x y. refl; muls = λ x y. refl }

-- the value of an operation on values of trees is the value of its tree in each state that reads the same
pub value_by_persists : {F E S : Type 0} (s : Ring E) (embed : F → E) (values : S → PointValues F E) (p q : S) (op : Operation) (x y z : E) (t u : Tree F) → q ≡ p
    → x ≡ eval_tree (point_reading s embed (values p)) t → y ≡ eval_tree (point_reading s embed (values p)) u → z ≡ value_by s op x y → z ≡ eval_tree (point_reading s embed (values q)) (tree_by op t u)
value_by_persists s embed values p q op x y z t u h k l e =
    value_persists (λ r. point_reading s embed (values r)) p q z (tree_by op t u) h
    (value_by-tree s (point_reading s embed (values p)) (by_ring s embed (values p)) op x y z t u k l e)

-- the same of values of the base field, which go into the extension
pub base_value_by_persists : {F E S : Type 0} (f : Ring F) (L : RingLaws f) (s : Ring E) (M : RingLaws s) (embed : F → E) (H : RingHom f s embed) (values : S → PointValues F E) (p q : S)
    (op : Operation) (x y z : F) (t u : Tree F) → q ≡ p
    → embed x ≡ eval_tree (point_reading s embed (values p)) t → embed y ≡ eval_tree (point_reading s embed (values p)) u → z ≡ value_by f op x y → embed z ≡ eval_tree (point_reading s embed (values q)) (tree_by op t u)
base_value_by_persists f L s M embed H values p q op x y z t u h k l e =
    value_persists (λ r. point_reading s embed (values r)) p q (embed z) (tree_by op t u) h
    (embedded-value_by f L s M embed H (point_reading s embed (values p)) (by_ring s embed (values p)) op x y z t u k l e)

-- states that read the same have the same cells
pub shape_along : {F E S : Type 0} (values : S → PointValues F E) (p q : S) → q ≡ p → point_shape (values q) ≡ point_shape (values p)
shape_along {S = S} values p q h = ap (λ (s : S). point_shape (values s)) h

-- the values of trees that are asserted over the base field
pub base_values : {F E : Type 0} (r : Reading F E) (ts : List (Tree F)) → map (eval_asserted r) (map over_base ts) ≡ map (eval_tree r) ts
base_values r ts = map-map (eval_asserted r) over_base ts

-- trees folded after others, where the values and the challenge stay
pub folded_along : {F E S : Type 0} (s : Ring E) (reads : S → Reading F E) (alpha : S → E) (p q : S) (a b c : E) (t u : List (Asserted F)) → q ≡ p
    → b ≡ fold_from s (alpha p) a (map (eval_asserted (reads p)) t) → c ≡ fold_from s (alpha q) b (map (eval_asserted (reads q)) u) → c ≡ fold_from s (alpha p) a (map (eval_asserted (reads p)) (t ++ u))
folded_along {F = F} {E = E} {S = S} s reads alpha p q a b c t u h k l =
    let P : S → Type 0 = λ r. c ≡ fold_from s (alpha r) b (map (eval_asserted (reads r)) u) in
    let value : Asserted F → E = eval_asserted (reads p) in
    subst P h l ∙ (ap (λ v. fold_from s (alpha p) v (map value u)) k
    ∙ (fold_after s (alpha p) a (map value t) (map value u) ∙ ap (fold_from s (alpha p) a) (sym (map-append value t u))))

-- trees weighed after others
pub weighed_along : {F E S : Type 0} (s : Ring E) (reads : S → Reading F E) (p q : S) (a b c : Sum E) (t u : List (Asserted F)) → q ≡ p
    → b ≡ weighed_from s a (map (eval_asserted (reads p)) t) → c ≡ weighed_from s b (map (eval_asserted (reads q)) u) → c ≡ weighed_from s a (map (eval_asserted (reads p)) (t ++ u))
weighed_along {F = F} {E = E} {S = S} s reads p q a b c t u h k l =
    let P : S → Type 0 = λ r. c ≡ weighed_from s b (map (eval_asserted (reads r)) u) in
    let value : Asserted F → E = eval_asserted (reads p) in
    subst P h l ∙ (ap (λ v. weighed_from s v (map value u)) k
    ∙ (weighed_after s a (map value t) (map value u) ∙ ap (weighed_from s a) (sym (map-append value t u))))

-- the image of a cell's value is its value among the images
pub image_of_cell : {A B : Type 0} (embed : A → B) (z : A) (w : B) → embed z ≡ w → (p : PointValues A A) (c : Cell)
    → embed (point_cell z (λ x. x) p c) ≡ point_cell w embed (embedded embed p) c
image_of_cell embed z w e p c = cell_image embed z w e (point_cells z (λ x. x) p) c ∙ ap (λ v. cell_in w v c) (sym (embedded_cells z w embed p e))
