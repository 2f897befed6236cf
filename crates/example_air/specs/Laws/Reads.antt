-- What the tables declare is whole, and what they read is declared.
use Rattle.std.proofs.Common.{◌≡◌, ℕ, zero, suc, ◌+◌, ◌<◌, ◌≤◌, false, [], ◌∷◌, length, map, All, Some, rules, arith}
use Rattle.std.proofs.lemmas.List.Elements.{All-nil, All-cons, All-append}
use Rattle.p3_field.specs.Ring.{Ring, of_nat}
use Rattle.p3_field.specs.Poly.{tabulate}
use Rattle.p3_field.specs.Laws.Tabulate.{length-tabulate}
use Rattle.p3_matrix.specs.Matrix.{FillsRows}
use Rattle.p3_matrix.specs.Laws.Grids.{product_fills}
use Rattle.air_core.specs.declared.cells.Cell.{Cell}
use Rattle.air_core.specs.declared.cells.Cell.TheVariants.{Main}
use Rattle.air_core.specs.declared.cells.ExtCell.{ExtCell}
use Rattle.air_core.specs.Shape.{Declares, DeclaresExt, ReadsIn, HasColumns, HasWholeRows, ReadsDeclared, IsInteraction, declared_shape, width_of}
use Rattle.air_core.specs.Laws.Declared.{counts-none}
use Rattle.air_core.specs.Laws.Lists.{all_mapped}
use Rattle.air_gadgets.specs.Gadgets.{packed_bits}
use Rattle.air_core.specs.Tree.{Tree, bool_tree, difference}
use Rattle.example_air.specs.Bytes.{all_bytes, byte_row_trees, main_column, example_declaration, example_interactions, example_trees}
use Rattle.example_air.specs.declared.air.ExampleAir.{ExampleAir}
use Rattle.example_air.specs.declared.air.ExampleAir.TheVariants.{Bits, Bytes}

module _ {F : Type 0} (r : Ring F) where
  pub bytes_fill : FillsRows (all_bytes r) 1
  unfolding all_bytes
  bytes_fill = product_fills (all_bytes r) 256 1 (length-tabulate {A = F} 256 (of_nat r))

  pub example-has_columns : (a : ExampleAir) → HasColumns (example_declaration r a).preprocessed
  example-has_columns Bits = search rules
  example-has_columns Bytes = search rules

  pub example-whole : (a : ExampleAir) → HasWholeRows (example_declaration r a).preprocessed
  example-whole Bits = search rules
  example-whole Bytes = bytes_fill

  pub example-next : (a : ExampleAir) → All (λ c. c < (example_declaration r a).width) (example_declaration r a).main_next
  example-next Bits = search rules
  example-next Bytes = search rules

  pub example-preprocessed_next : (a : ExampleAir) → All (λ c. c < width_of (example_declaration r a).preprocessed) (example_declaration r a).preprocessed_next
  example-preprocessed_next Bits = search rules
  example-preprocessed_next Bytes = search rules

  pub example-counts : (a : ExampleAir) (n : ℕ) → (example_declaration r a).constraints ≡ Some n → n ≡ length (example_trees r a)
  example-counts Bits n e = counts-none n (length (byte_row_trees r)) e
  example-counts Bytes n e = counts-none n 0 e

  module _ (P : Cell → Type 0) (Q : ExtCell → Type 0) (main : (k : ℕ) → k < 9 → P (Main false k)) where
    reads_packed : (k n : ℕ) → k + n ≤ 9 → ReadsIn {F = F} P Q (packed_bits r main_column k n)
    unfolding packed_bits
    reads_packed k zero h = tt
    reads_packed k (suc n) h = (main k (omega (arith, h)), (tt, reads_packed (suc k) n (omega (arith, h))))

    pub reads_bits : All (ReadsIn P Q) (byte_row_trees r)
    unfolding byte_row_trees
    reads_bits =
        let number : Tree F = difference (main_column 8) (packed_bits r main_column 0 8) in
        All-append (ReadsIn P Q) (map (bool_tree r.one) (tabulate 8 main_column)) (number ∷ [])
        (all_mapped (ReadsIn P Q) (bool_tree r.one) 8 main_column (λ k h. (main k (omega (arith, h)), (main k (omega (arith, h)), tt))))
        (All-cons (ReadsIn P Q) number [] (main 8 (omega arith), reads_packed 0 8 (omega arith)) (All-nil (ReadsIn P Q)))

  pub example-read : (a : ExampleAir) → All (ReadsDeclared (declared_shape (example_declaration r a))) (example_trees r a)
  example-read Bits =
      let s = declared_shape (example_declaration r Bits) in
      reads_bits (Declares s) (DeclaresExt s) (λ k h. (h, λ e. absurd (cc e)))
  example-read Bytes = search rules

  pub example-interactions_read : (a : ExampleAir) → All (IsInteraction (declared_shape (example_declaration r a))) (example_interactions r a)
  example-interactions_read Bits = search rules
  example-interactions_read Bytes = search rules
