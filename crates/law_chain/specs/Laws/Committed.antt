-- A committed table holds with the constraints of a chain exactly where its rows are those of a chain.
use Rattle.std.proofs.Common.{◌≡◌, ℕ, ◌<◌, ◌≤◌, List, length, ◌∙◌}
use Rattle.std.specs.Prelude.{◌↔◌}
use Rattle.std.proofs.lemmas.List.{length-map}
use Rattle.std.proofs.lemmas.Nat.{pow_pos}
use Rattle.p3_field.specs.Domain.{point, subgroup}
use Rattle.p3_field.specs.Field.{TwoAdic, Extension}
use Rattle.p3_field.specs.Laws.Roots.{field_no_zero_divisors}
use Rattle.p3_field.specs.Poly.{eval_poly}
use Rattle.air_core.specs.CellValues.{CellValues, cell_in, ext_cell_in}
use Rattle.law_committed.specs.BaseRows.{main_row}
use Rattle.law_committed.specs.Committed.{CommittedTable, Holds, row_point, row_count_of, committed_values_at}
use Rattle.law_committed.specs.Fields.{FieldsLaws}
use Rattle.law_committed.specs.Laws.BaseRows.{known, table_reads}
use Rattle.chain_air.specs.Chain.{AreChainRows, AreEight, publics_of}
use Rattle.chain_air.specs.Meanings.{ChainsMean}
use Rattle.chain_air.specs.Trees.{chain_trees}
use Rattle.chain_air.specs.Laws.Linked.{linked_means}

module _ {F E : Type 0} (f : TwoAdic F) (e : Extension F E) (top : ℕ) (inverse : E → E) (L : FieldsLaws f e top inverse) (t : CommittedTable F E) (fits : t.log_height ≤ top) where
  abbrev v : ℕ → CellValues E
  v i = committed_values_at f e t (row_point f e t i)

  row_long : length t.main ≡ 9168 → (j : ℕ) → length (main_row f t j) ≡ 9168
  row_long wide j = length-map t.main (λ (g : List F). eval_poly f.ring g (point f.ring f.root (subgroup f.ring t.log_height) j)) ∙ wide

  -- where it has the columns and the public values of a chain
  pub table_is_chain : ChainsMean f.ring → (start end : ℕ → ℕ) → AreEight start → AreEight end → length t.main ≡ 9168 → t.public_values ≡ publics_of f.ring start end
      → Holds f e t (chain_trees f.ring) ↔ AreChainRows f.ring (row_count_of t) (main_row f t) start end
  table_is_chain means start end ws we wide publics =
      let n = row_count_of t in
      let some : 0 < n = pow_pos t.log_height in
      let linked =
      linked_means f.ring e.ring e.embed L.below L.above L.embeds (known f e top inverse L t) (field_no_zero_divisors e.ring L.above inverse L.above_field) n some (main_row f t) t.public_values
      (λ i c. cell_in e.ring.zero (v i) c) (λ i c. ext_cell_in e.ring.zero (v i) c) (table_reads f e top inverse L t fits) in
      let chain = means n (main_row f t) t.public_values start end some (λ j lt. row_long wide j) ws we publics in (
        λ h. chain.0 (linked.0 h),
        λ C. linked.1 (chain.1 C),
      )
