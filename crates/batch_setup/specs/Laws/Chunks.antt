-- Packing within the own budget keeps each table's number of chunks.
use Rattle.std.proofs.Common.{◌≡◌, ℕ, zero, suc, ◌-◌, ◌^◌, ◌<◌, ◌≤◌, max, List, [], length, get_or, map, replicate, refl, ◌∙◌, ap, arith}
use Rattle.std.specs.Prelude.{All}
use Rattle.std.proofs.lemmas.List.{length-map}
use Rattle.std.proofs.lemmas.List.Elements.{All-map}
use Rattle.std.proofs.lemmas.Nat.{pow_pos}
use Rattle.p3_field.specs.Laws.Tabulate.{get_or-tabulate}
use Rattle.p3_field.specs.Poly.{tabulate}
use Rattle.p3_field.specs.Ring.{Ring}
use Rattle.air_core.specs.Shape.{Declaration, IsInteraction, declared_shape}
use Rattle.air_core.specs.Tree.{Tree, Interaction}
use Rattle.p3_lookup.specs.Lookup.{LookupData}
use Rattle.batch_constraints.specs.BatchTrees.{AreLookupsOf}
use Rattle.batch_constraints.specs.Laws.Own.{own_lookups as own_are_lookups}
use Rattle.batch_constraints.specs.Laws.Packing.{packing_keeps}
use Rattle.batch_setup.specs.Packed.{Source, source_of, no_source, own_budget, unpacked_lookups, log_chunks_with, packed_at, KeepChunks, KeepChunksWithin}

larger_of : (own asked : ℕ) → asked ≤ own → max own asked ≤ own
larger_of own asked h = omega (arith, h)

module _ {A F : Type 0} (declaration : A → Declaration F) (trees : A → List (Tree F)) (interactions : A → List (Interaction F))
    (sends : (a : A) → All (IsInteraction (declared_shape (declaration a))) (interactions a)) where
  -- the lookups of a batch's tables, packed, keep the number of chunks of each whose budget is at most its own
  pub batch_keeps_within : (r : Ring F) (masks : ℕ) (airs : List A) (bits budgets : List ℕ) (lookups : List (List (LookupData F))) → masks ≤ 1
      → lookups ≡ tabulate (length airs) (packed_at r masks (map (source_of declaration trees interactions) airs) bits budgets)
      → KeepChunksWithin r masks (map (source_of declaration trees interactions) airs) bits budgets lookups
  batch_keeps_within r masks airs bits budgets lookups small e = λ i lt low.
      let make : A → Source F = source_of declaration trees interactions in
      let sources = map make airs in
      let s = get_or sources i no_source in
      let b = get_or bits i 0 in
      let long : length sources ≡ length airs = length-map airs make in
      let own : AreLookupsOf s.declaration (unpacked_lookups s) =
      All-map (λ (t : Source F). AreLookupsOf t.declaration (unpacked_lookups t)) make airs (λ k a l. own_are_lookups (declaration _) (interactions _) (sends _)) i no_source lt in
      let here : get_or lookups i [] ≡ packed_at r masks sources bits budgets i =
      ap (λ ls. get_or ls i []) e ∙ get_or-tabulate (length airs) (packed_at r masks sources bits budgets) i [] (omega (arith, lt, long)) in
      let budget = max (own_budget r masks b s) (get_or budgets i 0) in
      ap (log_chunks_with r masks b s) here
      ∙ packing_keeps r s.declaration s.trees masks 0 (2 ^ (b - masks)) budget (unpacked_lookups s) small (pow_pos (b - masks)) own (larger_of (own_budget r masks b s) (get_or budgets i 0) low)

zero_there : (m i : ℕ) → let zeros : List ℕ = replicate m 0 in get_or zeros i 0 ≡ 0
zero_there zero i = refl
zero_there (suc m) zero = refl
zero_there (suc m) (suc i) = zero_there m i

zero_within : (m i own : ℕ) → let zeros : List ℕ = replicate m 0 in get_or zeros i 0 ≤ own
zero_within m i own = let z = zero_there m i in omega (arith, z)

-- budgets of zero are at most each own one
pub all_keep : {F : Type 0} (r : Ring F) (masks : ℕ) (sources : List (Source F)) (bits : List ℕ) (m : ℕ) (lookups : List (List (LookupData F)))
    → KeepChunksWithin r masks sources bits (replicate m 0) lookups → KeepChunks r masks sources bits lookups
all_keep r masks sources bits m lookups h = λ i lt. h i lt (zero_within m i (own_budget r masks (get_or bits i 0) (get_or sources i no_source)))
