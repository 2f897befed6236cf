-- What the constraints of a chain mean of the rows of a table.
use Rattle.std.specs.Prelude.{◌≡◌, ◌↔◌, ℕ, suc, ◌+◌, ◌*◌, ◌<◌, false, List, [], length, All}
use Rattle.std.specs.Prelude.{slice_index_or as get_or}
use Rattle.p3_field.specs.Ring.{Ring, of_nat}
use Rattle.p3_matrix.specs.Matrix.{height, row_at}
use Rattle.air_core.specs.Check.{TableTraces, HoldsAtRow}
use Rattle.air_core.specs.RowCheck.{Row, tree_value_at_row}
use Rattle.air_gadgets.specs.Words.{limb}
use Rattle.blake3_prime.specs.Trees.{from_column, packed_limbs, blake3_trees}
use Rattle.chain_air.specs.Chain.{AreEight, AreChainRows, publics_of}
use Rattle.chain_air.specs.Trees.{chain_trees}

-- a row of main cells alone
abbrev pub lone_row : {F : Type 0} → List F → Row F F
lone_row cells = record {
  main_local = cells;
  main_next = [];
  preprocessed_local = [];
  preprocessed_next = [];
  periodic = [];
  public_values = [];
  is_first_row = false;
  is_last_row = false;
  permutation_local = [];
  permutation_next = [];
  challenges = [];
  terminals = [];
}

-- limb k of the word whose bits stand from a column on
abbrev pub limb_value : {F : Type 0} → Ring F → List F → ℕ → ℕ → F
limb_value r cells column k = tree_value_at_row r r (λ x. x) (lone_row cells) (packed_limbs r (from_column column) k)

-- the constraints of compressions are zero on the row
abbrev pub IsCompressionRow : {F : Type 0} → Ring F → List F → Type 0
IsCompressionRow r cells = All (λ t. tree_value_at_row r r (λ x. x) (lone_row cells) t ≡ r.zero) (blake3_trees r)

-- n rows are linked: each next chaining value has the bits of the output before it, and the first chaining value and the last output have these limbs
pub record AreLinked {F : Type 0} (r : Ring F) (n : ℕ) (rows : ℕ → List F) (publics : List F) : Type 0 where
  pub links : (j i : ℕ) → suc j < n → i < 256 → get_or (rows (suc j)) (512 + i) r.zero ≡ get_or (rows j) (8656 + i) r.zero
  pub first : (w k : ℕ) → w < 8 → k < 2 → limb_value r (rows 0) (512 + 32 * w) k ≡ get_or publics (2 * w + k) r.zero
  pub last : (j w k : ℕ) → suc j ≡ n → w < 8 → k < 2 → limb_value r (rows j) (8656 + 32 * w) k ≡ get_or publics (16 + 2 * w + k) r.zero

-- the public values are the limbs of two chaining values
pub record ArePublics {F : Type 0} (r : Ring F) (publics : List F) (start end : ℕ → ℕ) : Type 0 where
  pub first : (w k : ℕ) → w < 8 → k < 2 → get_or publics (2 * w + k) r.zero ≡ of_nat r (limb (start w) k)
  pub last : (w k : ℕ) → w < 8 → k < 2 → get_or publics (16 + 2 * w + k) r.zero ≡ of_nat r (limb (end w) k)

-- Rows of 9168 cells are linked rows of compressions, with these public values, exactly where they are those of a chain from `start` to `end`.
abbrev pub ChainsMean : {F : Type 0} → Ring F → Type 0
ChainsMean {F} r = (n : ℕ) (rows : ℕ → List F) (publics : List F) (start end : ℕ → ℕ) → 0 < n → ((j : ℕ) → j < n → length (rows j) ≡ 9168) → AreEight start → AreEight end
    → publics ≡ publics_of r start end
    → (((j : ℕ) → j < n → IsCompressionRow r (rows j)) × AreLinked r n rows publics) ↔ AreChainRows r n rows start end

-- Traces of 9168 columns with these public values meet the constraints in each row exactly where their rows are those of a chain from `start` to `end`.
abbrev pub TracesMean : {F : Type 0} → Ring F → Type 0
TracesMean {F} r = (t : TableTraces F) (start end : ℕ → ℕ) → AreEight start → AreEight end → 0 < height t.main → ((i : ℕ) → i < height t.main → length (row_at t.main i) ≡ 9168)
    → t.public_values ≡ publics_of r start end
    → ((i : ℕ) → i < height t.main → HoldsAtRow r t (chain_trees r) i) ↔ AreChainRows r (height t.main) (row_at t.main) start end
