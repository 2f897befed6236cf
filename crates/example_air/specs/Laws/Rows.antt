-- A row meets the constraints exactly where it is that of a byte.
use Rattle.std.proofs.Common.{◌≡◌, ℕ, zero, suc, ◌+◌, ◌^◌, ◌<◌, ◌++◌, List, [], ◌∷◌, length, get_or, map, inl, inr, refl, sym, ◌∙◌, ap, arith}
use Rattle.std.specs.Int.{bit_at}
use Rattle.std.specs.Prelude.{All}
use Rattle.std.proofs.lemmas.Bool.{cases_eq}
use Rattle.std.proofs.lemmas.List.{ext_get_or}
use Rattle.std.proofs.lemmas.List.Elements.{All-nil, All-cons, All-head, All-append}
use Rattle.std.proofs.lemmas.Nat.Bits.{bit_at-lt, same_from_bits_below}
use Rattle.p3_field.specs.Poly.{tabulate}
use Rattle.p3_field.specs.Ring.{Ring, of_nat}
use Rattle.p3_field.specs.Laws.Roots.{sub_zero, sub_self}
use Rattle.p3_field.specs.Laws.Tabulate.{tabulate_same}
use Rattle.air_gadgets.specs.Gadgets.{packed_bits}
use Rattle.air_core.specs.RowCheck.{Row, cell_value, ext_cell_value}
use Rattle.air_core.specs.Tree.{Tree, Reading, eval_tree, bool_tree, difference}
use Rattle.air_gadgets.specs.Words.{PrimeFieldLaws, bits_number, cells_reading}
use Rattle.air_gadgets.specs.Laws.Bits.{bool_value}
use Rattle.air_gadgets.specs.Laws.Gadgets.{packed_value, value_bool}
use Rattle.air_core.specs.Laws.Lists.{all_left, all_mapped, all_of_mapped, all_right}
use Rattle.air_gadgets.specs.Laws.Words.{BitsFrom, bits_number_below, bits_number_bit}
use Rattle.example_air.specs.Bytes.{bits_row, byte_row_trees, main_column}
use Rattle.example_air.specs.Meanings.{ByteRowMeans}

-- a byte is the number of its bits
number_of_bits : (byte : ℕ) → byte < 256 → bits_number (bit_at byte) 0 8 ≡ byte
number_of_bits byte h =
    let bits : BitsFrom (bit_at byte) 0 8 = λ i a b. bit_at-lt byte i in
    same_from_bits_below 8 (bits_number (bit_at byte) 0 8) byte (bits_number_below (bit_at byte) 0 8 bits) h
    (λ i lt. let e : 0 + i ≡ i = omega arith in bits_number_bit (bit_at byte) 0 8 i bits lt ∙ ap (bit_at byte) e)

-- the items of a table with one more after
in_front : {A : Type 0} (n : ℕ) (f : ℕ → A) (y d : A) (k : ℕ) → k < n → get_or (tabulate n f ++ y ∷ []) k d ≡ f k
in_front zero f y d k h = absurd (omega (arith, h))
in_front (suc n) f y d zero h = refl
in_front (suc n) f y d (suc k) h = in_front n (λ i. f (suc i)) y d k (omega (arith, h))

-- a list of nine values is that of its places
nine : {A : Type 0} (d : A) (values : List A) → length values ≡ 9 → values ≡ tabulate 8 (λ k. get_or values k d) ++ get_or values 8 d ∷ []
nine {A = A} d values long = ext_get_or d values (tabulate 8 (λ k. get_or values k d) ++ get_or values 8 d ∷ []) long (λ i h. at i (omega (arith, h, long)))
  where
    at : (i : ℕ) → i < 9 → get_or values i d ≡ get_or (tabulate 8 (λ k. get_or values k d) ++ get_or values 8 d ∷ []) i d
    at i h = elim (cases_eq i 8) [
      | inl e ↦ ap (λ k. get_or values k d) e ∙ ap (λ k. get_or (tabulate 8 (λ k. get_or values k d) ++ get_or values 8 d ∷ []) k d) (sym e)
      | inr n ↦ sym (in_front 8 (λ k. get_or values k d) (get_or values 8 d) d i (omega (arith, h, n)))
    ]

module _ {A : Type 0} (r : Ring A) (inv : A → A) (order : ℕ) (canonical : A → ℕ) (P : PrimeFieldLaws r inv order canonical) (o : 2 ^ 20 < order) (row : Row A A) (long : length row.main_local ≡ 9) where
  abbrev rd : Reading A A
  rd = cells_reading r (cell_value r row) (ext_cell_value r.zero row)

  abbrev Zero : Tree A → Type 0
  Zero t = eval_tree rd t ≡ r.zero

  abbrev value : ℕ → A
  value k = get_or row.main_local k r.zero

  abbrev bools : List (Tree A)
  bools = map (bool_tree r.one) (tabulate 8 main_column)

  abbrev number : Tree A
  number = difference (main_column 8) (packed_bits r main_column 0 8)

  byte_of_row : All Zero (byte_row_trees r) → (byte : ℕ) × (byte < 256) × (row.main_local ≡ bits_row r byte)
  unfolding byte_row_trees bits_row
  byte_of_row v =
      let f : ℕ → ℕ = λ k. canonical (value k) in
      let bits : BitsFrom f 0 8 = λ k a lt. value_bool r inv order canonical P o (value k) (all_of_mapped Zero (bool_tree r.one) 8 main_column (all_left Zero bools (number ∷ []) v) k (omega (arith, lt))) in
      let byte = bits_number f 0 8 in
      let packed_is : eval_tree rd (packed_bits r main_column 0 8) ≡ of_nat r byte = packed_value r inv order canonical P (cell_value r row) (ext_cell_value r.zero row) main_column f 0 8 (λ i a b. sym (P.of_canonical (value i))) in
      let last : value 8 ≡ of_nat r byte = sub_zero r P.ring_laws (value 8) (eval_tree rd (packed_bits r main_column 0 8)) (All-head Zero number [] (all_right Zero bools (number ∷ []) v)) ∙ packed_is in
      let each : (k : ℕ) → k < 8 → value k ≡ of_nat r (bit_at byte k) = λ k lt.
      let e : 0 + k ≡ k = omega arith in
      sym (P.of_canonical (value k)) ∙ ap (of_nat r) (sym (bits_number_bit f 0 8 k bits lt ∙ ap f e)) in (
        byte,
        bits_number_below f 0 8 bits,
        nine r.zero row.main_local long ∙ (λ i. tabulate_same 8 value (λ k. of_nat r (bit_at byte k)) each i ++ last i ∷ []),
      )

  row_of_byte : (byte : ℕ) → byte < 256 → row.main_local ≡ bits_row r byte → All Zero (byte_row_trees r)
  unfolding byte_row_trees bits_row
  row_of_byte byte small is =
      let each : (k : ℕ) → k < 8 → value k ≡ of_nat r (bit_at byte k) = λ k lt. ap (λ l. get_or l k r.zero) is ∙ in_front 8 (λ j. of_nat r (bit_at byte j)) (of_nat r byte) r.zero k lt in
      let packed_is : eval_tree rd (packed_bits r main_column 0 8) ≡ of_nat r (bits_number (bit_at byte) 0 8) =
      packed_value r inv order canonical P (cell_value r row) (ext_cell_value r.zero row) main_column (bit_at byte) 0 8 (λ i a b. each i (omega (arith, b))) in
      let last : value 8 ≡ eval_tree rd (packed_bits r main_column 0 8) = ap (λ l. get_or l 8 r.zero) is ∙ sym (packed_is ∙ ap (of_nat r) (number_of_bits byte small)) in
      All-append Zero bools (number ∷ [])
      (all_mapped Zero (bool_tree r.one) 8 main_column (λ k lt. bool_value r P.ring_laws (value k) (bit_at byte k) (bit_at-lt byte k) (each k lt)))
      (All-cons Zero number [] (sub_self r P.ring_laws (value 8) (eval_tree rd (packed_bits r main_column 0 8)) last) (All-nil Zero))

pub row_means : {A : Type 0} (r : Ring A) (inv : A → A) (order : ℕ) (canonical : A → ℕ) → PrimeFieldLaws r inv order canonical → 2 ^ 20 < order → ByteRowMeans r
row_means r inv order canonical P o row long =
    (λ v. byte_of_row r inv order canonical P o row long v, λ b. row_of_byte r inv order canonical P o row long b.0 b.1 b.2)
