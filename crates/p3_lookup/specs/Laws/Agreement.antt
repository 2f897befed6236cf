-- What is sent has one value in the base field and, embedded, in the extension: a reading over the extension whose
-- sendable cells are embedded values gives each tree that a lookup sends its embedded value.
use Rattle.std.proofs.Common.{◌≡◌, List, [], ◌∷◌, get_or, refl, sym, arith}
use Rattle.std.specs.Prelude.{All}
use Rattle.std.proofs.lemmas.List.Elements.{All-head, All-tail, All-cons}
use Rattle.p3_field.specs.Ring.{Ring, RingLaws}
use Rattle.p3_field.specs.Field.{RingHom}
use Rattle.p3_field.specs.Laws.Extended.{hom_neg}
use Rattle.air_core.specs.declared.cells.Cell.{Cell}
use Rattle.air_core.specs.declared.cells.Count.{Count}
use Rattle.air_core.specs.declared.cells.ExtCell.{ExtCell}
use Rattle.air_core.specs.Tree.{Tree, constant, cell, ext_cell, sum, difference, product, eval_tree}
use Rattle.air_core.specs.Shape.{Shape, Declares, IsSendable, ReadsSendable}
use Rattle.p3_lookup.specs.Lookup.{LookupData, ReadsSent, pair_up, sent}
use Rattle.p3_lookup.specs.Rows.{reading_with, AgreeOnSent}

module _ {F E : Type 0} (f : Ring F) (fL : RingLaws f) (e : Ring E) (L : RingLaws e) (embed : F → E) (H : RingHom f e embed)
    (s : Shape) (cells : Cell → F) (ext : ExtCell → F) (at : Cell → E) (at_ext : ExtCell → E)
    (agree : (c : Cell) → Declares s c → IsSendable c → at c ≡ embed (cells c)) where
  abbrev pub base_value : Tree F → E
  base_value t = embed (eval_tree (reading_with f (λ x. x) cells ext) t)

  abbrev pub own_value : Tree F → E
  own_value t = eval_tree (reading_with e embed at at_ext) t

  pub agree_tree : (t : Tree F) → ReadsSendable s t → base_value t ≡ own_value t
  agree_tree (constant x) h = refl
  agree_tree (cell c) h = sym (agree c h.0 h.1)
  agree_tree (ext_cell c) h = absurd h
  agree_tree (sum x y) h = cc (H.keeps_add (eval_tree (reading_with f (λ z. z) cells ext) x) (eval_tree (reading_with f (λ z. z) cells ext) y), agree_tree x h.0, agree_tree y h.1)
  agree_tree (difference x y) h =
      let u = eval_tree (reading_with f (λ z. z) cells ext) x in
      let v = eval_tree (reading_with f (λ z. z) cells ext) y in
      cc (H.keeps_add u (f.neg v), hom_neg f fL e L embed H v, agree_tree x h.0, agree_tree y h.1)
  agree_tree (product x y) h = cc (H.keeps_mul (eval_tree (reading_with f (λ z. z) cells ext) x) (eval_tree (reading_with f (λ z. z) cells ext) y), agree_tree x h.0, agree_tree y h.1)

  agree_tuple : (ts : List (Tree F)) → All (ReadsSendable s) ts → All (λ t. base_value t ≡ own_value t) ts
  agree_tuple ts h = λ k d lt. agree_tree (get_or ts k d) (h k d lt)

  agree_pairs : (ts : List (List (Tree F))) (cs : List (Count (Tree F))) → All (All (ReadsSendable s)) ts → All (λ c. ReadsSendable s c.value) cs
      → All (AgreeOnSent base_value own_value) (pair_up ts cs)
  agree_pairs [] cs h k = λ i d lt. absurd (omega (arith, lt))
  agree_pairs (t ∷ ts) [] h k = λ i d lt. absurd (omega (arith, lt))
  agree_pairs (t ∷ ts) (c ∷ cs) h k =
      let P : List (Tree F) → Type 0 = λ u. All (ReadsSendable s) u in
      let Q : Count (Tree F) → Type 0 = λ u. ReadsSendable s u.value in
      All-cons (AgreeOnSent base_value own_value) (record { tuple = t; count = c.value }) (pair_up ts cs)
      (agree_tuple t (All-head P t ts h), agree_tree c.value (All-head Q c cs k))
      (agree_pairs ts cs (All-tail P t ts h) (All-tail Q c cs k))

  pub agree_sent : (l : LookupData F) → ReadsSent s l → All (AgreeOnSent base_value own_value) (sent l)
  agree_sent l h = agree_pairs l.tuples l.counts h.tuples h.counts
