-- A tree has one value: it goes along the maps that keep its operations, where these take the cells that it reads to one another.
use Rattle.std.proofs.Common.{◌≡◌, refl, ◌∙◌, ap}
use Rattle.p3_field.specs.Ring.{Ring, RingLaws}
use Rattle.p3_field.specs.Field.{RingHom}
use Rattle.p3_field.specs.Laws.Extended.{hom_neg}
use Rattle.air_core.specs.declared.cells.Cell.{Cell}
use Rattle.air_core.specs.declared.cells.ExtCell.{ExtCell}
use Rattle.air_core.specs.Maps.{reading_over, Keeps, AgreeOn}
use Rattle.air_core.specs.Shape.{Shape, Declares, DeclaresExt, ReadsIn, ReadsDeclared}
use Rattle.air_core.specs.Tree.{Tree, Reading, eval_tree, constant, cell, ext_cell, sum, difference, product}

-- what holds of each cell holds of those that a tree reads
pub reads_all : {F : Type 0} (P : Cell → Type 0) (Q : ExtCell → Type 0) → ((c : Cell) → P c) → ((c : ExtCell) → Q c) → (t : Tree F) → ReadsIn P Q t
reads_all P Q p q (constant x) = tt
reads_all P Q p q (cell c) = p c
reads_all P Q p q (ext_cell c) = q c
reads_all P Q p q (sum x y) = (reads_all P Q p q x, reads_all P Q p q y)
reads_all P Q p q (difference x y) = (reads_all P Q p q x, reads_all P Q p q y)
reads_all P Q p q (product x y) = (reads_all P Q p q x, reads_all P Q p q y)

-- what one property of cells gives of another holds of what a tree reads
pub reads_more : {F : Type 0} (P P' : Cell → Type 0) (Q Q' : ExtCell → Type 0) → ((c : Cell) → P c → P' c) → ((c : ExtCell) → Q c → Q' c)
    → (t : Tree F) → ReadsIn P Q t → ReadsIn P' Q' t
reads_more P P' Q Q' p q (constant x) h = tt
reads_more P P' Q Q' p q (cell c) h = p c h
reads_more P P' Q Q' p q (ext_cell c) h = q c h
reads_more P P' Q Q' p q (sum x y) h = (reads_more P P' Q Q' p q x h.0, reads_more P P' Q Q' p q y h.1)
reads_more P P' Q Q' p q (difference x y) h = (reads_more P P' Q Q' p q x h.0, reads_more P P' Q Q' p q y h.1)
reads_more P P' Q Q' p q (product x y) h = (reads_more P P' Q Q' p q x h.0, reads_more P P' Q Q' p q y h.1)

-- a tree's value goes along a map that keeps its operations, where the map takes the cells that it reads to one another
pub value_along : {F E G : Type 0} (a : Reading F E) (b : Reading F G) (f : E → G) → Keeps a b f → (t : Tree F) → AgreeOn a b f t
    → f (eval_tree a t) ≡ eval_tree b t
value_along a b f K (constant x) h = K.from x
value_along a b f K (cell c) h = h
value_along a b f K (ext_cell c) h = h
value_along a b f K (sum x y) h = K.add (eval_tree a x) (eval_tree a y) ∙ (λ i. b.add (value_along a b f K x h.0 i) (value_along a b f K y h.1 i))
value_along a b f K (difference x y) h = K.sub (eval_tree a x) (eval_tree a y) ∙ (λ i. b.sub (value_along a b f K x h.0 i) (value_along a b f K y h.1 i))
value_along a b f K (product x y) h = K.mul (eval_tree a x) (eval_tree a y) ∙ (λ i. b.mul (value_along a b f K x h.0 i) (value_along a b f K y h.1 i))

-- each value keeps its operations
pub itself_keeps : {F E : Type 0} (r : Ring E) (embed : F → E) (at at' : Cell → E) (at_ext at_ext' : ExtCell → E)
    → Keeps (reading_over r embed at at_ext) (reading_over r embed at' at_ext') (λ x. x)
itself_keeps r embed at at' at_ext at_ext' = record { from = λ x. refl; add = λ x y. refl; sub = λ x y. refl; mul = λ x y. refl }

-- two readings over one ring that agree on the cells that a tree reads give it one value
pub one_value : {F E : Type 0} (r : Ring E) (embed : F → E) (at at' : Cell → E) (at_ext at_ext' : ExtCell → E) (t : Tree F)
    → ReadsIn (λ c. at c ≡ at' c) (λ c. at_ext c ≡ at_ext' c) t → eval_tree (reading_over r embed at at_ext) t ≡ eval_tree (reading_over r embed at' at_ext') t
one_value r embed at at' at_ext at_ext' t h =
    value_along (reading_over r embed at at_ext) (reading_over r embed at' at_ext') (λ x. x) (itself_keeps r embed at at' at_ext at_ext') t h

-- and so two readings that agree on the declared cells, where the tree reads these alone
pub one_declared_value : {F E : Type 0} (r : Ring E) (embed : F → E) (at at' : Cell → E) (at_ext at_ext' : ExtCell → E) (s : Shape) (t : Tree F)
    → ((c : Cell) → Declares s c → at c ≡ at' c) → ((c : ExtCell) → DeclaresExt s c → at_ext c ≡ at_ext' c) → ReadsDeclared s t
    → eval_tree (reading_over r embed at at_ext) t ≡ eval_tree (reading_over r embed at' at_ext') t
one_declared_value r embed at at' at_ext at_ext' s t same same_ext declared =
    one_value r embed at at' at_ext at_ext' t
    (reads_more (Declares s) (λ c. at c ≡ at' c) (DeclaresExt s) (λ c. at_ext c ≡ at_ext' c) same same_ext t declared)

module _ {E G : Type 0} (r : Ring E) (L : RingLaws r) (s : Ring G) (M : RingLaws s) (f : E → G) (H : RingHom r s f) where
  -- a map of rings keeps the operations over them, where constants go into the second ring through the first
  pub hom_keeps : {F : Type 0} (embed : F → E) (at : Cell → E) (at' : Cell → G) (at_ext : ExtCell → E) (at_ext' : ExtCell → G)
      → Keeps (reading_over r embed at at_ext) (reading_over s (λ x. f (embed x)) at' at_ext') f
  hom_keeps embed at at' at_ext at_ext' = record {
    from = λ x. refl;
    add = λ x y. H.keeps_add x y;
    sub = λ x y. H.keeps_add x (r.neg y) ∙ ap (s.add (f x)) (hom_neg r L s M f H y);
    mul = λ x y. H.keeps_mul x y;
  }

  -- the image of a tree's value is its value at the images
  pub value_at_images : {F : Type 0} (embed : F → E) (at : Cell → E) (at_ext : ExtCell → E) (t : Tree F)
      → f (eval_tree (reading_over r embed at at_ext) t) ≡ eval_tree (reading_over s (λ x. f (embed x)) (λ c. f (at c)) (λ c. f (at_ext c))) t
  value_at_images embed at at_ext t =
      value_along (reading_over r embed at at_ext) (reading_over s (λ x. f (embed x)) (λ c. f (at c)) (λ c. f (at_ext c))) f
      (hom_keeps embed at (λ c. f (at c)) at_ext (λ c. f (at_ext c))) t
      (reads_all (λ c. f (at c) ≡ f (at c)) (λ c. f (at_ext c) ≡ f (at_ext c)) (λ c. refl) (λ c. refl) t)
