-- The size of one table of a batch.
use Rattle.std.proofs.Common.{◌≡◌, ℕ, ◌-◌, ◌^◌, ◌<◌, List, [], length, map, get_or, sym, subst}
use Rattle.p3_field.specs.Ring.{Ring}
use Rattle.air_core.specs.Shape.{Declaration}
use Rattle.air_core.specs.Tree.{Tree}
use Rattle.p3_lookup.specs.Written.{Written, read_all}
use Rattle.batch_constraints.specs.BatchTrees.{AreLookupsOf}
use Rattle.batch_statement.specs.Statement.{AirTable, tables_of}
use Rattle.verifier_shape.specs.ShapeChecks.{log_chunks_at, chunks_of_table}
use Rattle.batch_statement.specs.Words.{no_table}
use Rattle.verifier_shape.specs.Laws.Items.{item_at, item_of_map}

module _ {A F : Type 0} (declaration : A → Declaration F) (trees : A → List (Tree F)) (airs : List A) (lookups : List (List (Written F))) (i : ℕ) (a : A) (ls : List (Written F))
    (in_airs : i < length airs) (is_air : a ≡ get_or airs i a) (in_lookups : i < length lookups) (is_list : ls ≡ get_or lookups i ls) where
  -- the number of its chunks, by the batch's lists
  pub chunks_here : (f : Ring F) (masks : ℕ) (bits : List ℕ)
      → chunks_of_table f masks (2 ^ (get_or bits i 0 - masks)) (record { declaration = declaration a; trees = trees a }) (read_all ls)
      ≡ log_chunks_at f masks (tables_of declaration trees airs) (map read_all lookups) bits i
  chunks_here f masks bits =
      let table_of : A → AirTable F = λ x. record { declaration = declaration x; trees = trees x } in
      let p = sym (item_of_map table_of airs i a no_table in_airs is_air) in
      let q = sym (item_of_map read_all lookups i ls [] in_lookups is_list) in
      λ j. chunks_of_table f masks (2 ^ (get_or bits i 0 - masks)) (p j) (q j)

  -- its lookups are those of its AIR
  pub reads_here : ((x : A) → AreLookupsOf (declaration (get_or airs i x)) (read_all (get_or lookups i []))) → AreLookupsOf (declaration a) (read_all ls)
  reads_here h =
      let P : A → Type 0 = λ x. AreLookupsOf (declaration x) (read_all (get_or lookups i [])) in
      let Q : List (Written F) → Type 0 = λ l. AreLookupsOf (declaration a) (read_all l) in
      subst Q (item_at lookups i [] ls in_lookups is_list) (subst P (sym is_air) (h a))
