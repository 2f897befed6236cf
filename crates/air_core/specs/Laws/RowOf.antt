-- The row that a table's slices and tests make up.
use Rattle.std.proofs.Common.{◌≡◌, ℕ, ◌+◌, ◌%◌, ◌++◌, Bool, List, [], map, ◌∙◌, ap}
use Rattle.std.specs.Prelude.{nat_eq}
use Rattle.p3_field.specs.Ring.{Ring}
use Rattle.p3_matrix.specs.Matrix.{height, row_at}
use Rattle.std.proofs.lemmas.Simd.{map-map}
use Rattle.air_core.specs.Tree.{Tree, over_base}
use Rattle.air_core.specs.RowCheck.{Row, tree_value_at_row}
use Rattle.air_core.specs.Check.{TableTraces, table_row, row_values, preprocessed_row, periodic_row}

abbrev pub row_with : {F : Type 0} → List F → List F → List F → List F → List F → List F → Bool → Bool → Row F F
row_with a b c e p public first last = record {
  main_local = a;
  main_next = b;
  preprocessed_local = c;
  preprocessed_next = e;
  periodic = p;
  public_values = public;
  is_first_row = first;
  is_last_row = last;
  permutation_local = [];
  permutation_next = [];
  challenges = [];
  terminals = [];
}

pub row_is : {F : Type 0} (d : F) (t : TableTraces F) (i h : ℕ) (a b c e p : List F) → h ≡ height t.main
    → a ≡ row_at t.main i → b ≡ row_at t.main ((i + 1) % h)
    → c ≡ preprocessed_row t.preprocessed i → e ≡ preprocessed_row t.preprocessed ((i + 1) % h)
    → p ≡ periodic_row d t.periodic i
    → row_with a b c e p t.public_values (nat_eq i 0) (nat_eq (i + 1) h) ≡ table_row d t i
row_is d t i h a b c e p eh ea eb ec ee ep =
    ap (λ x. row_with x b c e p t.public_values (nat_eq i 0) (nat_eq (i + 1) h)) ea
    ∙ (ap (λ x. row_with (row_at t.main i) x c e p t.public_values (nat_eq i 0) (nat_eq (i + 1) h)) eb
    ∙ (ap (λ x. row_with (row_at t.main i) (row_at t.main ((i + 1) % h)) x e p t.public_values (nat_eq i 0) (nat_eq (i + 1) h)) ec
    ∙ (ap (λ x. row_with (row_at t.main i) (row_at t.main ((i + 1) % h)) (preprocessed_row t.preprocessed i) x p t.public_values (nat_eq i 0) (nat_eq (i + 1) h)) ee
    ∙ (ap (λ x. row_with (row_at t.main i) (row_at t.main ((i + 1) % h)) (preprocessed_row t.preprocessed i) (preprocessed_row t.preprocessed ((i + 1) % h)) x t.public_values (nat_eq i 0) (nat_eq (i + 1) h)) ep
    ∙ ap (λ n. row_with (row_at t.main i) (row_at t.main ((i + 1) % n)) (preprocessed_row t.preprocessed i) (preprocessed_row t.preprocessed ((i + 1) % n)) (periodic_row d t.periodic i) t.public_values (nat_eq i 0) (nat_eq (i + 1) n)) eh))))

-- what was added to nothing, at a row that is this one
pub values_are : {F : Type 0} (r : Ring F) (t : TableTraces F) (ts : List (Tree F)) (i : ℕ) (w : Row F F) (old new : List F)
    → w ≡ table_row r.zero t i → old ≡ [] → new ≡ old ++ map (λ a. tree_value_at_row r r (λ x. x) w a.tree) (map over_base ts) → new ≡ row_values r t ts i
values_are {F = F} r t ts i w old new e f g =
    let one : map (λ a. tree_value_at_row r r (λ x. x) w a.tree) (map over_base ts) ≡ map (tree_value_at_row r r (λ x. x) w) ts = map-map (λ a. tree_value_at_row r r (λ x. x) w a.tree) over_base ts in
    g ∙ (ap (λ (l : List F). old ++ l) one ∙ (ap (λ (l : List F). l ++ map (tree_value_at_row r r (λ x. x) w) ts) f ∙ ap (λ (v : Row F F). map (tree_value_at_row r r (λ x. x) v) ts) e))
