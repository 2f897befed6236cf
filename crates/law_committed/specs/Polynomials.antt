-- A committed table's cells and constraints as polynomials over the larger field.
use Rattle.std.specs.Prelude.{ℕ, ◌+◌, List, [], ◌∷◌, map}
use Rattle.p3_field.specs.Field.{TwoAdic, Extension}
use Rattle.p3_field.specs.Poly.{tabulate, add_poly, scale_poly, shift_arg}
use Rattle.p3_field.specs.Domain.{first_selector, last_selector, transition_selector}
use Rattle.air_core.specs.CellValues.{CellValues, poly_reading}
use Rattle.air_core.specs.Tree.{Tree, eval_tree}
use Rattle.law_committed.specs.Committed.{CommittedTable, trace_domain, periodic_poly, flattened_width, flattened}

-- a polynomial over F as one over E
abbrev pub over : {F E : Type 0} → Extension F E → List F → List E
over e g = map e.embed g

-- the sum of each polynomial times the basis element at its place, from place k on
abbrev pub combined_poly : {F E : Type 0} → Extension F E → ℕ → List (List F) → List E
combined_poly e k [] = []
combined_poly e k (g ∷ gs) = add_poly e.ring (scale_poly e.ring (e.basis k) (over e g)) (combined_poly e (k + 1) gs)

module _ {F E : Type 0} (f : TwoAdic F) (e : Extension F E) (t : CommittedTable F E) where
  -- g(hX), where h generates the domain of the rows: its values are those of g at the next points
  abbrev pub next_poly : List E → List E
  next_poly g = shift_arg e.ring (e.embed (f.root t.log_height)) g

  -- the polynomials of the permutation columns
  abbrev pub permutation_poly : ℕ → List E
  permutation_poly j = combined_poly e 0 (flattened f e t j)

  -- the polynomials of the cells
  abbrev pub cell_polys : CellValues (List E)
  cell_polys = record {
    main_local = map (over e) t.main;
    main_next = map (λ g. next_poly (over e g)) t.main;
    preprocessed_local = map (over e) t.preprocessed;
    preprocessed_next = map (λ g. next_poly (over e g)) t.preprocessed;
    periodic = map (λ column. over e (periodic_poly f e t column)) t.periodic;
    public_values = map (λ x. e.embed x ∷ []) t.public_values;
    first_row = over e (first_selector f.ring f.inv (trace_domain f e t));
    last_row = over e (last_selector f.ring f.inv f.root (trace_domain f e t));
    transition = over e (transition_selector f.ring f.inv f.root (trace_domain f e t));
    permutation_local = tabulate (flattened_width f e t) permutation_poly;
    permutation_next = tabulate (flattened_width f e t) (λ j. next_poly (permutation_poly j));
    challenges = map (λ x. x ∷ []) t.challenges;
    terminals = map (λ x. x ∷ []) t.terminals;
  }

  -- a tree's polynomial
  abbrev pub tree_poly : Tree F → List E
  tree_poly tree = eval_tree (poly_reading e.ring e.embed cell_polys) tree
