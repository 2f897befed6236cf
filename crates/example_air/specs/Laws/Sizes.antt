-- The sizes of the traces of a list of bytes.
use Rattle.std.specs.Int.{IsPowerOfTwo}
use Rattle.std.proofs.Common.{◌≡◌, ℕ, ◌<◌, ◌≤◌, List, length, refl, sym, ◌∙◌, ap, subst, arith}
use Rattle.p3_field.specs.BabyBear.{baby_bear_ring}
use Rattle.p3_field.specs.Laws.Tabulate.{length-tabulate}
use Rattle.p3_field.specs.Poly.{tabulate}
use Rattle.p3_field.specs.Ring.{Ring, of_nat}
use Rattle.p3_field.specs.declared.baby_bear.BabyBear.{BabyBear}
use Rattle.p3_matrix.specs.Matrix.{Rows, height}
use Rattle.law_valid.specs.Laws.Columns.{column_height, pieces_height}
use Rattle.example_air.specs.Bytes.{bits_row, bits_rows, bytes_rows, byte_times}
use Rattle.example_air.specs.Proving.{AreTables}

-- a row of bits has nine cells
pub row-long : {A : Type 0} (r : Ring A) (byte : ℕ) → length (bits_row r byte) ≡ 9
unfolding bits_row
row-long r byte = refl

-- the traces of a list of bytes are such tables
pub bits_high : (bytes : List ℕ) → height (bits_rows baby_bear_ring bytes) ≡ length bytes
bits_high bytes = pieces_height (bits_row baby_bear_ring) 9 (row-long baby_bear_ring) (omega arith) bytes

bytes_high : (bytes : List ℕ) → height (bytes_rows baby_bear_ring bytes) ≡ 256
unfolding bytes_rows
bytes_high bytes =
    column_height {A = BabyBear} (tabulate 256 (λ byte. of_nat baby_bear_ring (byte_times bytes byte)))
    ∙ length-tabulate {A = BabyBear} 256 (λ byte. of_nat baby_bear_ring (byte_times bytes byte))

bytes_wide : (bytes : List ℕ) → (bytes_rows baby_bear_ring bytes).width ≡ 1
unfolding bytes_rows
bytes_wide bytes = refl

pub are_tables : (bytes : List ℕ) (t u : Rows BabyBear) → t ≡ bits_rows baby_bear_ring bytes → u ≡ bytes_rows baby_bear_ring bytes → IsPowerOfTwo (length bytes) → length bytes ≤ 1024 → AreTables t u
are_tables bytes t u e f power few =
    let high : height t ≡ length bytes = ap (λ m. height m) e ∙ bits_high bytes in
    record {
      bits_width = ap (λ (m : Rows BabyBear). m.width) e;
      power = subst IsPowerOfTwo (sym high) power;
      few = omega (arith, high, few);
      times_width = ap (λ (m : Rows BabyBear). m.width) f ∙ bytes_wide bytes;
      times_height = ap (λ m. height m) f ∙ bytes_high bytes;
    }

-- and so are others of their sizes
pub of_same_size : (t u v w : Rows BabyBear) → AreTables t u → v.width ≡ t.width → height v ≡ height t → w.width ≡ u.width → height w ≡ height u → AreTables v w
of_same_size t u v w A a b c d = record {
  bits_width = a ∙ A.bits_width;
  power = subst IsPowerOfTwo (sym b) A.power;
  few = let few = A.few in omega (arith, b, few);
  times_width = c ∙ A.times_width;
  times_height = d ∙ A.times_height;
}
