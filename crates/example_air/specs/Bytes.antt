-- The two tables of the example. A row of the first has the eight bits of a byte and the byte itself, which it sends on the bus `bytes`. The second has every
-- byte with how often it stands in the list, and sends it so often back.
use Rattle.std.specs.Int.{bit_at}
use Rattle.std.specs.Prelude.{ℕ, ◌==◌, false, List, [], ◌∷◌, ◌++◌, map, count_by, None, Some}
use Rattle.std.specs.List.{flat_map}
use Rattle.p3_field.specs.Ring.{Ring, of_nat}
use Rattle.p3_field.specs.Poly.{tabulate}
use Rattle.p3_matrix.specs.Matrix.{Rows}
use Rattle.air_core.specs.declared.cells.Cell.TheVariants.{Main, Preprocessed}
use Rattle.air_gadgets.specs.Gadgets.{packed_bits}
use Rattle.air_core.specs.Shape.{Declaration}
use Rattle.air_core.specs.Tree.{Tree, Interaction, bool_tree, constant, cell, difference, global}
use Rattle.example_air.specs.declared.air.ExampleAir.{ExampleAir}
use Rattle.example_air.specs.declared.air.ExampleAir.TheVariants.{Bits, Bytes}

-- the cell of this row in main column k
abbrev pub main_column : {F : Type 0} → ℕ → Tree F
main_column k = cell (Main false k)

-- each of the first eight cells is zero or one, and the ninth is their number, the sum of bit i times 2^i
unfoldable pub byte_row_trees : {F : Type 0} → Ring F → List (Tree F)
byte_row_trees r = map (bool_tree r.one) (tabulate 8 main_column) ++ difference (main_column 8) (packed_bits r main_column 0 8) ∷ []

-- the constraints of each table
abbrev pub example_trees : {F : Type 0} → Ring F → ExampleAir → List (Tree F)
example_trees r Bits = byte_row_trees r
example_trees r Bytes = []

-- a byte on the bus `bytes`, whose name has these codes, so often
abbrev pub byte_sent : {F : Type 0} → (byte count : Tree F) → (bound : ℕ) → Interaction F
byte_sent byte count bound = record {
  bus = global (98 ∷ 121 ∷ 116 ∷ 101 ∷ 115 ∷ []);
  fields = byte ∷ [];
  counts = record { value = count; bound = bound } ∷ [];
}

-- what each table sends: a row of bits its number once, and the row of a byte this byte as often as minus its count
abbrev pub example_interactions : {F : Type 0} → Ring F → ExampleAir → List (Interaction F)
example_interactions r Bits = byte_sent (main_column 8) (constant r.one) 1 ∷ []
example_interactions r Bytes = byte_sent (cell (Preprocessed false 0)) (difference (constant r.zero) (main_column 0)) 1024 ∷ []

-- 0 to 255
unfoldable pub all_bytes : {F : Type 0} → Ring F → List F
all_bytes r = tabulate 256 (of_nat r)

-- what each table declares: nine columns; and a column of counts beside the preprocessed column of all bytes
abbrev pub example_declaration : {F : Type 0} → Ring F → ExampleAir → Declaration F
example_declaration r Bits = record {
  width = 9;
  preprocessed = None;
  main_next = [];
  preprocessed_next = [];
  public_values = 0;
  periodic = [];
  constraints = None;
  degree_hint = None;
  boolean_trace = false;
}
example_declaration r Bytes = record {
  width = 1;
  preprocessed = Some (record { values = all_bytes r; width = 1 });
  main_next = [];
  preprocessed_next = [];
  public_values = 0;
  periodic = [];
  constraints = None;
  degree_hint = None;
  boolean_trace = false;
}

-- the row of a byte: its bits, the lowest first, and the byte
unfoldable pub bits_row : {F : Type 0} → Ring F → ℕ → List F
bits_row r byte = tabulate 8 (λ i. of_nat r (bit_at byte i)) ++ of_nat r byte ∷ []

-- how often a byte stands in the list
abbrev pub byte_times : List ℕ → ℕ → ℕ
byte_times bytes byte = count_by (λ x. x == byte) bytes

-- the traces of a list of bytes: a row for each, and a row for each number that a byte may be
abbrev pub bits_rows : {F : Type 0} → Ring F → List ℕ → Rows F
bits_rows r bytes = record { values = flat_map (bits_row r) bytes; width = 9 }

unfoldable pub bytes_rows : {F : Type 0} → Ring F → List ℕ → Rows F
bytes_rows r bytes = record { values = tabulate 256 (λ byte. of_nat r (byte_times bytes byte)); width = 1 }
