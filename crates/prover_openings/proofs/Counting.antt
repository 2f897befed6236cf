-- The number of chunks of a table's quotient, by the table's own AIR, trace and lookups.
use Rattle.std.proofs.Common.{◌≡◌, ℕ, ◌<◌, List, [], length, get_or, map, sym, ◌∙◌, ap, subst, arith}
use Rattle.std.proofs.lemmas.List.{length-map}
use Rattle.p3_field.specs.Ring.{Ring}
use Rattle.p3_matrix.specs.Matrix.{height}
use Rattle.air_core.specs.Shape.{Declaration}
use Rattle.air_core.specs.Tree.{Tree}
use Rattle.p3_lookup.specs.Written.{Written, read_all}
use Rattle.batch_constraints.specs.BatchTrees.{AreLookupsOf}
use Rattle.batch_setup.specs.Setup.{Instance, airs_of}
use Rattle.verifier_shape.specs.ShapeChecks.{chunks_of_table}
use Rattle.batch_statement.specs.Words.{no_table}
use Rattle.verifier_shape.specs.Laws.Items.{item_of_map}
use Rattle.batch_statement.specs.Statement.{AirTable, tables_of}
use Rattle.law_valid.specs.Traced.{no_rows}
use Rattle.prover_openings.specs.Counts.{IsCountable, log_count_at}

module _ {F A : Type 0} (r : Ring F) (declaration : A → Declaration F) (trees : A → List (Tree F)) (instances : List (Instance A F)) (lookups : List (List (Written F))) (i : ℕ) (x : Instance A F) (ls : List (Written F)) (air : A) (rows : ℕ)
    (b : i < length instances) (at : x ≡ get_or instances i x) (d : i < length lookups) (listed : ls ≡ get_or lookups i ls) (own : air ≡ x.air) (tall : rows ≡ height x.trace) where
  abbrev own_table : AirTable F
  own_table = record { declaration = declaration air; trees = trees air }

  table_there : get_or (tables_of declaration trees (airs_of instances)) i no_table ≡ own_table
  table_there =
      item_of_map (λ (a : A). record { declaration = declaration a; trees = trees a }) (airs_of instances) i air no_table
      (let e : length (airs_of instances) ≡ length instances = length-map instances (λ (j : Instance A F). j.air) in omega (arith, b, e))
      (own ∙ sym (item_of_map (λ (j : Instance A F). j.air) instances i x air b at))

  lookups_there : get_or (map read_all lookups) i [] ≡ read_all ls
  lookups_there = item_of_map read_all lookups i ls [] d listed

  rows_there : height (get_or (map (λ (j : Instance A F). j.trace) instances) i no_rows) ≡ rows
  rows_there = ap height (item_of_map (λ (j : Instance A F). j.trace) instances i x no_rows b at) ∙ sym tall

  pub count_there : log_count_at r (tables_of declaration trees (airs_of instances)) (map (λ j. j.trace) instances) (map read_all lookups) i ≡ chunks_of_table r 0 rows own_table (read_all ls)
  count_there = λ k. chunks_of_table r 0 (rows_there k) (table_there k) (lookups_there k)

  pub own_lookups : IsCountable r (tables_of declaration trees (airs_of instances)) (map (λ j. j.trace) instances) (map read_all lookups) i → AreLookupsOf (declaration air) (read_all ls)
  own_lookups C = subst (λ l. AreLookupsOf (declaration air) l) lookups_there (subst (λ (t : AirTable F). AreLookupsOf t.declaration (get_or (map read_all lookups) i [])) table_there C.lookups_are)
