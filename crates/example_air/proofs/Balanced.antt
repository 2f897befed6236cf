-- What the tables of a list of bytes send balances: each byte is sent once for each row that has it, and as often back.
use Rattle.std.proofs.Common.{◌≡◌, ℕ, zero, suc, ◌+◌, ◌<◌, ◌≤◌, ◌==◌, Bool, true, false, cond, List, [], ◌∷◌, ◌++◌, length, get_or, refl, sym, ◌∙◌, ap, arith}
use Rattle.std.specs.Prelude.{◌&&◌, All, nat_eq}
use Rattle.std.specs.Cmp.Lexicographic.{pointwise}
use Rattle.std.proofs.lemmas.Bool.{eq-eqb, ne_eqb}
use Rattle.std.proofs.lemmas.List.Elements.{All-head, All-tail}
use Rattle.std.proofs.lemmas.List.Sums.{sum_by-cons}
use Rattle.p3_field.specs.BabyBear.{baby_bear_ring}
use Rattle.p3_field.specs.Laws.Algebra.{add_swap, neg_add, zero_add}
use Rattle.p3_field.specs.Laws.BabyBearLaws.{baby_bear_laws}
use Rattle.p3_field.specs.Laws.Sums.{total_add, total_only, total_same, total_zero}
use Rattle.p3_field.specs.Laws.Tabulate.{get_or-tabulate, length-tabulate}
use Rattle.p3_field.specs.Poly.{tabulate, total}
use Rattle.p3_field.specs.Ring.{Ring, RingLaws, of_nat, sub}
use Rattle.p3_field.specs.declared.baby_bear.BabyBear.{BabyBear}
use Rattle.p3_matrix.specs.Matrix.{Rows, row_at}
use Rattle.air_core.specs.Check.{table_row, table_traces}
use Rattle.air_core.specs.RowCheck.{tree_value_at_row}
use Rattle.air_core.specs.Tree.{Tree}
use Rattle.p3_lookup.specs.Lookup.{lookups_of}
use Rattle.p3_lookup.specs.Messages.{Message, Sender, messages_from, net, table_messages}
use Rattle.law_joining.specs.Laws.Nets.{net_append, table_net}
use Rattle.law_valid.specs.Laws.Columns.{column_row, pieces_row}
use Rattle.tool_airs.specs.Airs.{same_value}
use Rattle.example_air.specs.Bytes.{all_bytes, bits_row, bits_rows, byte_times, bytes_rows, example_declaration, example_interactions}
use Rattle.example_air.specs.Laws.Sizes.{row-long}
use Rattle.example_air.specs.declared.air.ExampleAir.{ExampleAir}
use Rattle.example_air.specs.declared.air.ExampleAir.TheVariants.{Bits, Bytes}

-- for bytes that pass a test
module _ {A : Type 0} (r : Ring A) (L : RingLaws r) (test : ℕ → Bool) where
  -- one for a byte, and minus how often it stands in a list
  abbrev once : ℕ → A
  once byte = cond (test byte) r.one r.zero

  abbrev minus_times : List ℕ → ℕ → A
  minus_times bytes byte = cond (test byte) (sub r r.zero (of_nat r (byte_times bytes byte))) r.zero

  -- minus one for this byte
  abbrev less_for : ℕ → ℕ → A
  less_for this byte = cond (this == byte) (cond (test byte) (r.neg r.one) r.zero) r.zero

  one_more : (passes is_this : Bool) (n : ℕ)
      → cond passes (sub r r.zero (of_nat r (cond is_this 1 0 + n))) r.zero ≡ r.add (cond is_this (cond passes (r.neg r.one) r.zero) r.zero) (cond passes (sub r r.zero (of_nat r n)) r.zero)
  unfolding of_nat
  one_more true true n =
      let e : 1 + n ≡ suc n = omega arith in
      ap (λ k. sub r r.zero (of_nat r k)) e
      ∙ (zero_add r L (r.neg (r.add r.one (of_nat r n))) ∙ (neg_add r L r.one (of_nat r n) ∙ ap (r.add (r.neg r.one)) (sym (zero_add r L (r.neg (of_nat r n))))))
  one_more true false n =
      let e : 0 + n ≡ n = omega arith in
      ap (λ k. sub r r.zero (of_nat r k)) e ∙ sym (zero_add r L (sub r r.zero (of_nat r n)))
  one_more false true n = sym (L.add_zero r.zero)
  one_more false false n = sym (L.add_zero r.zero)

  with_one_more : (this : ℕ) (bytes : List ℕ) (byte : ℕ) → minus_times (this ∷ bytes) byte ≡ r.add (less_for this byte) (minus_times bytes byte)
  with_one_more this bytes byte =
      ap (λ n. cond (test byte) (sub r r.zero (of_nat r n)) r.zero) (sum_by-cons (λ x. cond (x == byte) 1 0) this bytes) ∙ one_more (test byte) (this == byte) (byte_times bytes byte)

  only_this : (n this : ℕ) → this < n → total r n (less_for this) ≡ cond (test this) (r.neg r.one) r.zero
  only_this n this h =
      total_only r L n this (less_for this) h (λ i l other. ap (λ q. cond q (cond (test i) (r.neg r.one) r.zero) r.zero) (ne_eqb this i (λ e. other (sym e))))
      ∙ ap (λ q. cond q (cond (test this) (r.neg r.one) r.zero) r.zero) (eq-eqb this this refl)

  none_standing : (passes : Bool) → cond passes (sub r r.zero (of_nat r 0)) r.zero ≡ r.zero
  unfolding of_nat
  none_standing true = L.add_neg r.zero
  none_standing false = refl

  opposite : (passes : Bool) → r.add (cond passes r.one r.zero) (cond passes (r.neg r.one) r.zero) ≡ r.zero
  opposite true = L.add_neg r.one
  opposite false = L.add_zero r.zero

  -- once for each byte of a list, and minus how often each of n bytes stands there
  as_often : (n : ℕ) (bytes : List ℕ) → All (λ x. x < n) bytes → r.add (total r (length bytes) (λ i. once (get_or bytes i 0))) (total r n (minus_times bytes)) ≡ r.zero
  as_often n [] low = zero_add r L (total r n (minus_times [])) ∙ total_zero r L n (minus_times []) (λ i l. none_standing (test i))
  as_often n (this ∷ bytes) low =
      let ones = total r (length bytes) (λ i. once (get_or bytes i 0)) in
      let less = cond (test this) (r.neg r.one) r.zero in
      let times = total r n (minus_times bytes) in
      let split : total r n (minus_times (this ∷ bytes)) ≡ r.add less times =
      total_same r L n (minus_times (this ∷ bytes)) (λ byte. r.add (less_for this byte) (minus_times bytes byte)) (λ i l. with_one_more this bytes i)
      ∙ (total_add r L n (less_for this) (minus_times bytes) ∙ ap (λ x. r.add x times) (only_this n this (All-head (λ x. x < n) this bytes low))) in
      ap (r.add (r.add (once this) ones)) split
      ∙ (add_swap r L (once this) ones less times
      ∙ ((λ i. r.add (opposite (test this) i) (as_often n bytes (All-tail (λ x. x < n) this bytes low) i)) ∙ L.add_zero r.zero))

abbrev r : Ring BabyBear
r = baby_bear_ring

-- the value of a tree in a row of a table
abbrev value_in : ExampleAir → Rows BabyBear → ℕ → Tree BabyBear → BabyBear
value_in a trace row tree = tree_value_at_row r r (λ x. x) (table_row r.zero (table_traces trace (example_declaration r a).preprocessed [] []) row) tree

abbrev pub sender_of : ExampleAir → Rows BabyBear → (bus : ℕ → ℕ) → (rows : ℕ) → Sender BabyBear
sender_of a trace bus rows = record { lookups = lookups_of (example_interactions r a); bus = bus; rows = rows; value = value_in a trace }

-- a byte is this tuple on this bus
abbrev is_sent : (number bus : ℕ) → (tuple : List BabyBear) → ℕ → Bool
is_sent number bus tuple byte = nat_eq number bus && pointwise same_value (of_nat r byte ∷ []) tuple

-- the cell of a table of one column
column_cell : (n : ℕ) (f : ℕ → BabyBear) (i : ℕ) → i < n → get_or (row_at (record { values = tabulate n f; width = 1 }) i) 0 r.zero ≡ f i
column_cell n f i h =
    let long = length-tabulate {A = BabyBear} n f in
    ap (λ row. get_or row 0 r.zero) (column_row {A = BabyBear} (tabulate n f) i r.zero (omega (arith, h, long))) ∙ get_or-tabulate {A = BabyBear} n f i r.zero h

module _ (bytes : List ℕ) (number : ℕ → ℕ) (bus : ℕ) (tuple : List BabyBear) where
  abbrev sent : ℕ → Bool
  sent = is_sent (number 0) bus tuple

  last_cell : (byte : ℕ) → get_or (bits_row r byte) 8 r.zero ≡ of_nat r byte
  unfolding bits_row
  last_cell byte = refl

  number_there : (i : ℕ) → i < length bytes → get_or (row_at (bits_rows r bytes) i) 8 r.zero ≡ of_nat r (get_or bytes i 0)
  number_there i h = ap (λ row. get_or row 8 r.zero) (pieces_row (bits_row r) 9 (row-long r) bytes i 0 h) ∙ last_cell (get_or bytes i 0)

  -- the table of bits sends each byte once
  bits_net : net r same_value (table_messages (sender_of Bits (bits_rows r bytes) number (length bytes))) bus tuple
      ≡ total r (length bytes) (λ i. once r baby_bear_laws sent (get_or bytes i 0))
  bits_net =
      let s = sender_of Bits (bits_rows r bytes) number (length bytes) in
      table_net r baby_bear_laws same_value bus tuple s
      ∙ total_same r baby_bear_laws (length bytes) (λ i. net r same_value (messages_from (s.value i) number 0 s.lookups) bus tuple) (λ i. once r baby_bear_laws sent (get_or bytes i 0))
      (λ i h.
      baby_bear_laws.add_zero (cond (nat_eq (number 0) bus && pointwise same_value (get_or (row_at (bits_rows r bytes) i) 8 r.zero ∷ []) tuple) r.one r.zero)
      ∙ ap (λ x. cond (nat_eq (number 0) bus && pointwise same_value (x ∷ []) tuple) r.one r.zero) (number_there i h))

  byte_there : (i : ℕ) → i < 256 → get_or (row_at (record { values = all_bytes r; width = 1 }) i) 0 r.zero ≡ of_nat r i
  unfolding all_bytes
  byte_there i h = column_cell 256 (of_nat r) i h

  times_there : (i : ℕ) → i < 256 → get_or (row_at (bytes_rows r bytes) i) 0 r.zero ≡ of_nat r (byte_times bytes i)
  unfolding bytes_rows
  times_there i h = column_cell 256 (λ byte. of_nat r (byte_times bytes byte)) i h

  -- the table of all bytes sends each as often as minus its count
  bytes_net : (n : ℕ) → n ≤ 256 → net r same_value (table_messages (sender_of Bytes (bytes_rows r bytes) number n)) bus tuple ≡ total r n (minus_times r baby_bear_laws sent bytes)
  bytes_net n few =
      let s = sender_of Bytes (bytes_rows r bytes) number n in
      table_net r baby_bear_laws same_value bus tuple s
      ∙ total_same r baby_bear_laws n (λ i. net r same_value (messages_from (s.value i) number 0 s.lookups) bus tuple) (minus_times r baby_bear_laws sent bytes)
      (λ i h.
      let low : i < 256 = omega (arith, h, few) in
      let byte = get_or (row_at (record { values = all_bytes r; width = 1 }) i) 0 r.zero in
      let times = get_or (row_at (bytes_rows r bytes) i) 0 r.zero in
      baby_bear_laws.add_zero (cond (nat_eq (number 0) bus && pointwise same_value (byte ∷ []) tuple) (sub r r.zero times) r.zero)
      ∙ (λ j. cond (nat_eq (number 0) bus && pointwise same_value (byte_there i low j ∷ []) tuple) (sub r r.zero (times_there i low j)) r.zero))

-- so both together leave nothing, where their lookups are on one bus
pub both_net : (bytes : List ℕ) → All (λ byte. byte < 256) bytes → (first second : ℕ → ℕ) → first 0 ≡ second 0 → (m n : ℕ) → m ≡ length bytes → n ≡ 256 → (bus : ℕ) (tuple : List BabyBear)
    → net r same_value (table_messages (sender_of Bits (bits_rows r bytes) first m) ++ (table_messages (sender_of Bytes (bytes_rows r bytes) second n) ++ [])) bus tuple ≡ r.zero
both_net bytes low first second one m n rows all bus tuple =
    let xs = table_messages (sender_of Bits (bits_rows r bytes) first m) in
    let ys = table_messages (sender_of Bytes (bytes_rows r bytes) second n) in
    let once_each : net r same_value xs bus tuple ≡ total r (length bytes) (λ i. once r baby_bear_laws (is_sent (first 0) bus tuple) (get_or bytes i 0)) =
    ap (λ k. net r same_value (table_messages (sender_of Bits (bits_rows r bytes) first k)) bus tuple) rows ∙ bits_net bytes first bus tuple in
    let minus_each : net r same_value ys bus tuple ≡ total r n (minus_times r baby_bear_laws (is_sent (first 0) bus tuple) bytes) =
    bytes_net bytes second bus tuple n (omega (arith, all)) ∙ ap (λ k. total r n (minus_times r baby_bear_laws (is_sent k bus tuple) bytes)) (sym one) in
    net_append r baby_bear_laws same_value bus tuple xs (ys ++ [])
    ∙ ((λ i. r.add (once_each i) ((net_append r baby_bear_laws same_value bus tuple ys [] ∙ (baby_bear_laws.add_zero (net r same_value ys bus tuple) ∙ minus_each)) i))
    ∙ as_often r baby_bear_laws (is_sent (first 0) bus tuple) n bytes (λ i d l. let h = low i d l in omega (arith, h, all)))
