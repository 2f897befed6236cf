-- The values of a committed table are those of its cells' polynomials, and a tree's value is its polynomial's.
use Rattle.std.proofs.Common.{◌≡◌, ℕ, ◌+◌, List, [], ◌∷◌, map, refl, ◌∙◌, ap}
use Rattle.p3_field.specs.Ring.{RingLaws}
use Rattle.p3_field.specs.Field.{TwoAdic, Extension, combine}
use Rattle.p3_field.specs.Poly.{eval_poly, eval_poly_in, tabulate, scale_poly}
use Rattle.p3_field.specs.Laws.Algebra.{mul_zero}
use Rattle.p3_field.specs.Laws.Values.{eval_add, eval_scale, eval_shift_arg}
use Rattle.p3_field.specs.Laws.Tabulate.{tabulate_same}
use Rattle.p3_field.specs.Laws.SubgroupSelectors.{map_tabulate}
use Rattle.air_core.specs.CellValues.{reading_at, map_values}
use Rattle.air_core.specs.Laws.CellValues.{value_at_point}
use Rattle.air_core.specs.Tree.{Tree, eval_tree}
use Rattle.law_committed.specs.Committed.{CommittedTable, next_point, periodic_poly, flattened_width, flattened, permutation_at, committed_values_at, reading}
use Rattle.law_committed.specs.Polynomials.{over, combined_poly, next_poly, permutation_poly, cell_polys, tree_poly}

-- a map after a map is their composite
pub maps : {X Y Z : Type 0} (g : Y → Z) (f : X → Y) (h : X → Z) → ((x : X) → g (f x) ≡ h x) → (xs : List X) → map g (map f xs) ≡ map h xs
maps g f h e [] = refl
maps g f h e (x ∷ xs) = λ i. e x i ∷ maps g f h e xs i

-- a map that undoes another gives the list back
pub maps_back : {X Y : Type 0} (g : Y → X) (f : X → Y) → ((x : X) → g (f x) ≡ x) → (xs : List X) → map g (map f xs) ≡ xs
maps_back g f e [] = refl
maps_back g f e (x ∷ xs) = λ i. e x i ∷ maps_back g f e xs i

-- the images of a table's items
pub map_of_tabulate : {X Y : Type 0} (g : X → Y) (n : ℕ) (t : ℕ → X) (u : ℕ → Y) → ((j : ℕ) → g (t j) ≡ u j) → map g (tabulate n t) ≡ tabulate n u
map_of_tabulate g n t u e = map_tabulate g n t ∙ tabulate_same n (λ j. g (t j)) u (λ j h. e j)

module _ {F E : Type 0} (e : Extension F E) (M : RingLaws e.ring) where
  -- a constant has one value
  pub constant_value : (c x : E) → eval_poly e.ring (c ∷ []) x ≡ c
  constant_value c x = ap (e.ring.add c) (mul_zero e.ring M x) ∙ M.add_zero c

  -- the value of a sum of polynomials times basis elements is that of their values
  pub combined_value : (k : ℕ) (gs : List (List F)) (x : E) → eval_poly e.ring (combined_poly e k gs) x ≡ combine e.ring e.basis k (map (λ g. eval_poly_in e g x) gs)
  combined_value k [] x = refl
  combined_value k (g ∷ gs) x =
      let s = e.ring in
      let G = scale_poly s (e.basis k) (over e g) in
      let v = eval_poly_in e g x in
      eval_add s M G (combined_poly e (k + 1) gs) x
      ∙ (λ i. s.add ((eval_scale s M (e.basis k) (over e g) x ∙ M.mul_comm (e.basis k) v) i) (combined_value (k + 1) gs x i))

  module _ (f : TwoAdic F) (t : CommittedTable F E) where
    -- the value of g(hX) at x is that of g at the next point
    next_value : (x : E) (g : List E) → eval_poly e.ring (next_poly f e t g) x ≡ eval_poly e.ring g (next_point f e t x)
    next_value x g = eval_shift_arg e.ring M (e.embed (f.root t.log_height)) g x

    columns_values : (x : E) (columns : List (List F)) → map (λ p. eval_poly e.ring p x) (map (over e) columns) ≡ map (λ g. eval_poly_in e g x) columns
    columns_values x columns = maps (λ p. eval_poly e.ring p x) (over e) (λ g. eval_poly_in e g x) (λ g. refl) columns

    next_columns_values : (x : E) (columns : List (List F))
        → map (λ p. eval_poly e.ring p x) (map (λ g. next_poly f e t (over e g)) columns) ≡ map (λ g. eval_poly_in e g (next_point f e t x)) columns
    next_columns_values x columns =
        maps (λ p. eval_poly e.ring p x) (λ g. next_poly f e t (over e g)) (λ g. eval_poly_in e g (next_point f e t x)) (λ g. next_value x (over e g)) columns

    constants_values : (x : E) (cs : List E) → map (λ p. eval_poly e.ring p x) (map (λ c. c ∷ []) cs) ≡ cs
    constants_values x cs = maps_back (λ p. eval_poly e.ring p x) (λ c. c ∷ []) (λ c. constant_value c x) cs

    -- the values of the cells' polynomials at x are the table's
    pub values_are : (x : E) → map_values (λ p. eval_poly e.ring p x) (cell_polys f e t) ≡ committed_values_at f e t x
    values_are x =
        let V : List E → E = λ p. eval_poly e.ring p x in
        let n = flattened_width f e t in
        let y = next_point f e t x in
        let at : (j : ℕ) (z : E) → eval_poly e.ring (permutation_poly f e t j) z ≡ combine e.ring e.basis 0 (map (λ g. eval_poly_in e g z) (flattened f e t j)) =
        λ j z. combined_value 0 (flattened f e t j) z in
        let local : map V (tabulate n (permutation_poly f e t)) ≡ permutation_at f e t x =
        map_of_tabulate V n (permutation_poly f e t) (λ j. combine e.ring e.basis 0 (map (λ g. eval_poly_in e g x) (flattened f e t j))) (λ j. at j x) in
        let next : map V (tabulate n (λ j. next_poly f e t (permutation_poly f e t j))) ≡ permutation_at f e t y =
        map_of_tabulate V n (λ j. next_poly f e t (permutation_poly f e t j)) (λ j. combine e.ring e.basis 0 (map (λ g. eval_poly_in e g y) (flattened f e t j)))
        (λ j. next_value x (permutation_poly f e t j) ∙ at j y) in
        let periods : map V (map (λ column. over e (periodic_poly f e t column)) t.periodic) ≡ map (λ column. eval_poly_in e (periodic_poly f e t column) x) t.periodic =
        maps V (λ column. over e (periodic_poly f e t column)) (λ column. eval_poly_in e (periodic_poly f e t column) x) (λ column. refl) t.periodic in
        let publics : map V (map (λ c. e.embed c ∷ []) t.public_values) ≡ map e.embed t.public_values =
        maps V (λ c. e.embed c ∷ []) e.embed (λ c. constant_value (e.embed c) x) t.public_values in
        λ i. record (committed_values_at f e t x) {
          main_local = columns_values x t.main i;
          main_next = next_columns_values x t.main i;
          preprocessed_local = columns_values x t.preprocessed i;
          preprocessed_next = next_columns_values x t.preprocessed i;
          periodic = periods i;
          public_values = publics i;
          permutation_local = local i;
          permutation_next = next i;
          challenges = constants_values x t.challenges i;
          terminals = constants_values x t.terminals i;
        }

    -- a tree's value at x is its polynomial's
    pub tree_value : (x : E) (tree : Tree F) → eval_poly e.ring (tree_poly f e t tree) x ≡ eval_tree (reading f e t x) tree
    tree_value x tree =
        value_at_point e.ring M e.embed (cell_polys f e t) x tree ∙ ap (λ v. eval_tree (reading_at e.ring e.embed v) tree) (values_are x)
