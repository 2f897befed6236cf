-- Values of trees at a row, as trees are asserted.
use Rattle.std.proofs.Common.{◌≡◌, ◌++◌, List, [], ◌∷◌, map, refl, sym, ◌∙◌, ap, subst, append_assoc, append-nil}
use Rattle.std.proofs.lemmas.List.{map-append}
use Rattle.p3_field.specs.Ring.{Ring, RingLaws}
use Rattle.p3_field.specs.Field.{RingHom}
use Rattle.air_core.specs.Tree.{Tree, Asserted}
use Rattle.air_core.specs.Operation.{Operation, tree_by, value_by}
use Rattle.air_core.specs.RowCheck.{Row, CheckedRow, Adds, row_reading, tree_value_at_row, row_shape}
use Rattle.air_core.specs.Laws.Operation.{ReadsBy, value_by-tree, embedded-value_by}

pub row-along : {F E : Type 0} (a b c : CheckedRow F E) → b.row ≡ a.row → c.row ≡ b.row → c.row ≡ a.row
row-along a b c h k = k ∙ h

pub row_shape-row : {F E : Type 0} (a b : CheckedRow F E) → b.row ≡ a.row → row_shape b.row ≡ row_shape a.row
row_shape-row {F = F} {E = E} a b h = ap (λ (r : Row F E). row_shape r) h

-- a value at a row is the value at an equal row
pub value_at-row : {F E : Type 0} (f : Ring F) (e : Ring E) (embed : F → E) (a b : CheckedRow F E) → b.row ≡ a.row → (x : E) (t : Tree F)
    → x ≡ tree_value_at_row f e embed a.row t → x ≡ tree_value_at_row f e embed b.row t
value_at-row {F = F} {E = E} f e embed a b h x t k = let P : Row F E → Type 0 = λ r. x ≡ tree_value_at_row f e embed r t in subst P (sym h) k

by_ring : {F E : Type 0} (f : Ring F) (e : Ring E) (embed : F → E) (r : Row F E) → ReadsBy e (row_reading f e embed r)
by_ring f e embed r = record { adds = λ x y. refl; subs = λ x y. refl; muls = λ x y. refl }

-- the value of an operation on values of trees is its tree's
pub value_by-at : {F E : Type 0} (f : Ring F) (e : Ring E) (embed : F → E) (a b : CheckedRow F E) → b.row ≡ a.row → (op : Operation) (x y z : E) (s t : Tree F)
    → x ≡ tree_value_at_row f e embed a.row s → y ≡ tree_value_at_row f e embed a.row t → z ≡ value_by e op x y → z ≡ tree_value_at_row f e embed b.row (tree_by op s t)
value_by-at f e embed a b h op x y z s t k l q =
    value_at-row f e embed a b h z (tree_by op s t) (value_by-tree e (row_reading f e embed a.row) (by_ring f e embed a.row) op x y z s t k l q)

pub embedded-value_at : {F E : Type 0} (f : Ring F) (L : RingLaws f) (e : Ring E) (M : RingLaws e) (embed : F → E) (H : RingHom f e embed) (a b : CheckedRow F E)
    → b.row ≡ a.row → (op : Operation) (x y z : F) (s t : Tree F)
    → embed x ≡ tree_value_at_row f e embed a.row s → embed y ≡ tree_value_at_row f e embed a.row t → z ≡ value_by f op x y → embed z ≡ tree_value_at_row f e embed b.row (tree_by op s t)
embedded-value_at f L e M embed H a b h op x y z s t k l q =
    value_at-row f e embed a b h (embed z) (tree_by op s t)
    (embedded-value_by f L e M embed H (row_reading f e embed a.row) (by_ring f e embed a.row) op x y z s t k l q)

pub adds-same : {F E : Type 0} (f : Ring F) (e : Ring E) (embed : F → E) (a : CheckedRow F E) → Adds f e embed a a []
adds-same f e embed a = record { row = refl; values = sym (append-nil a.values) }

pub adds-along : {F E : Type 0} (f : Ring F) (e : Ring E) (embed : F → E) (a b c : CheckedRow F E) (s t : List (Asserted F))
    → Adds f e embed a b s → Adds f e embed b c t → Adds f e embed a c (s ++ t)
adds-along {F = F} {E = E} f e embed a b c s t h k =
    let v : Asserted F → E = λ u. tree_value_at_row f e embed a.row u.tree in
    let P : Row F E → Type 0 = λ r. c.values ≡ b.values ++ map (λ u. tree_value_at_row f e embed r u.tree) t in
    let more : c.values ≡ b.values ++ map v t = subst P h.row k.values in
    record {
      row = k.row ∙ h.row;
      values = more ∙ ap (λ (l : List E). l ++ map v t) h.values ∙ append_assoc a.values (map v s) (map v t) ∙ ap (λ (l : List E). a.values ++ l) (sym (map-append v s t));
    }

-- the value of an asserted tree kept after the others
pub keeping-adds : {F E : Type 0} (f : Ring F) (e : Ring E) (embed : F → E) (a b : CheckedRow F E) (x : E) (t : Asserted F) → x ≡ tree_value_at_row f e embed a.row t.tree
    → b ≡ record a { values = a.values ++ x ∷ [] } → Adds f e embed a b (t ∷ [])
keeping-adds {F = F} {E = E} f e embed a b x t h k = record {
  row = ap (λ (c : CheckedRow F E). c.row) k;
  values = ap (λ (c : CheckedRow F E). c.values) k ∙ ap (λ (y : E). a.values ++ y ∷ []) h;
}

pub unchanged-adds : {F E : Type 0} (f : Ring F) (e : Ring E) (embed : F → E) (a b : CheckedRow F E) → b ≡ a → Adds f e embed a b []
unchanged-adds {F = F} {E = E} f e embed a b k = let P : CheckedRow F E → Type 0 = λ c. Adds f e embed a c [] in subst P (sym k) (adds-same f e embed a)
