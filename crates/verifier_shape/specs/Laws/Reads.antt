-- The lookups of a batch with well-formed common data are those of its tables.
use Rattle.std.proofs.Common.{◌≡◌, ℕ, ◌<◌, ◌≤◌, min, List, [], length, map, All, get_or, Option, None, Some, sym, subst, arith}
use Rattle.std.proofs.lemmas.List.{length-map, get_or-map}
use Rattle.air_core.specs.Shape.{Declaration, declared_shape}
use Rattle.p3_lookup.specs.Lookup.{LookupData, HasCountForEach, ReadsSent, IsLookup}
use Rattle.p3_lookup.specs.Written.{Written, read_all}
use Rattle.batch_constraints.specs.BatchTrees.{AreLookupsOf}
use Rattle.batch_statement.specs.Statement.{PreprocessedTracesData, WellFormed, WrittenCommon, instance_count, read_common, within_entries}
use Rattle.verifier_shape.specs.ShapeChecks.{HasEntries}

-- all tables are instances where the lists have an item for each
all_within : {C : Type 0} (g : Option (PreprocessedTracesData C)) (n i : ℕ) → HasEntries n g → i < n → i < within_entries g n
all_within None n i h l = l
all_within (Some g) n i h l = omega (arith, h, l)

module _ {A F C : Type 0} (declaration : A → Declaration F) (airs : List A) (c : WrittenCommon F C) where
  all_instances : (i : ℕ) → length c.lookups ≡ length airs → HasEntries (length airs) c.preprocessed → i < length airs
      → i < instance_count (map declaration airs) (read_common c)
  all_instances i e h l =
      let n = length airs in
      let m : min (length (map declaration airs)) (length (map (read_all {F = F}) c.lookups)) ≡ n =
      let p = length-map airs declaration in let q = length-map c.lookups (read_all {F = F}) in omega (arith, p, q, e) in
      subst (λ k. i < within_entries c.preprocessed k) (sym m) (all_within c.preprocessed n i h l)

  pub lookups_are_tables : WellFormed (map declaration airs) (read_common c) → length c.lookups ≡ length airs → HasEntries (length airs) c.preprocessed
      → (i : ℕ) (a : A) → i < length airs → AreLookupsOf (declaration (get_or airs i a)) (read_all (get_or c.lookups i []))
  lookups_are_tables w e h i a l = λ k d b.
      let inside = all_instances i e h l in
      let own = get_or-map declaration airs i a (declaration a) l in
      let list = get_or-map (read_all {F = F}) c.lookups i [] [] (omega (arith, e, l)) in
      let P : Declaration F → List (LookupData F) → Type 0 = λ d ls. All (ReadsSent (declared_shape d)) ls in
      let reads : All (ReadsSent (declared_shape (declaration (get_or airs i a)))) (read_all (get_or c.lookups i [])) =
      subst (λ ls. P (declaration (get_or airs i a)) ls) list (subst (λ x. P x (get_or (map (read_all {F = F}) c.lookups) i [])) own (w.reads i inside (declaration a))) in
      let counted : All HasCountForEach (read_all (get_or c.lookups i [])) = subst (All HasCountForEach) list (w.counted i inside) in
      record { counted = counted k d b; reads = reads k d b }
