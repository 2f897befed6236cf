-- The traces of a list of bytes meet the constraints, and what they send balances.
use Rattle.std.specs.Int.{IsPowerOfTwo}
use Rattle.std.proofs.Common.{◌≡◌, ℕ, zero, suc, ◌+◌, ◌*◌, ◌-◌, ◌^◌, ◌<◌, ◌≤◌, ◌==◌, Bool, true, false, cond, List, [], ◌∷◌, length, get_or, map, Result, Ok, Err, refl, sym, ◌∙◌, ap, subst, arith}
use Rattle.std.specs.Prelude.{All, IfOk}
use Rattle.std.proofs.Math.Nat.{pow-le-pow_right}
use Rattle.std.proofs.lemmas.List.Elements.{All-nil}
use Rattle.p3_field.specs.BabyBear.{baby_bear_ring}
use Rattle.p3_field.specs.Quartic.{quartic_inv}
use Rattle.p3_field.specs.declared.baby_bear.BabyBear.{BabyBear}
use Rattle.p3_field.specs.declared.quartic.QuarticExtension.{QuarticExtension}
use Rattle.p3_matrix.specs.Matrix.{FillsRows, Rows, height, row_at}
use Rattle.air_core.specs.Check.{table_row}
use Rattle.air_core.specs.RowCheck.{tree_value_at_row}
use Rattle.air_core.specs.Tree.{Tree}
use Rattle.p3_lookup.specs.Batch.{batch_lookups}
use Rattle.p3_lookup.specs.Bound.{HaveLoadsBelow, load_where}
use Rattle.p3_lookup.specs.Bus.{batch_buses, bus_in, bus_number}
use Rattle.batch_constraints.specs.Laws.Own.{own_lookups}
use Rattle.batch_setup.specs.Laws.Logarithms.{log_of_power}
use Rattle.batch_setup.specs.Setup.{Instance, log_of}
use Rattle.law_committed.specs.BaseRows.{IsMainHere, ReadsMainHere}
use Rattle.law_committed.specs.Fields.{FieldsLaws, baby_bear_field, quartic_extension}
use Rattle.law_joining.specs.Laws.Rows.{rows_fit, rows_hold}
use Rattle.law_joining.specs.Laws.Tables.{table_divided, table_traced}
use Rattle.law_joining.specs.Shaped.{IsShaped, IsWhole, source_of_instance, traced_instance}
use Rattle.law_valid.specs.Laws.Columns.{pieces_row, pieces_tall}
use Rattle.law_valid.specs.Traced.{TracedTable, all_traced, log_rows, sender, traces_of}
use Rattle.law_valid.specs.Valid.{AllFit, AreBalanced, OwnHold}
use Rattle.prover_answer.specs.Batch.{table_at}
use Rattle.prover_answer.specs.PlainBackend.{baby_bear_prover}
use Rattle.verifier_shape.specs.ShapeChecks.{heights_of}
use Rattle.tool_airs.specs.Airs.{AirsBatch, AirsProof, AreMet, DrawsOutside, airs_common, airs_statement, same_value}
use Rattle.tool_airs.specs.Laws.Serving.{serves}
use Rattle.transcript_version.specs.declared.TranscriptVersion.TheVariants.{V2}
use Rattle.tool_statement.specs.Config.{tool_scheme, tool_setting}
use Rattle.example_air.specs.Bytes.{bits_row, bits_rows, byte_row_trees, bytes_rows, example_declaration, example_interactions, example_trees}
use Rattle.example_air.specs.Laws.Reads.{example-interactions_read, example-whole, reads_bits}
use Rattle.example_air.specs.Laws.Sizes.{are_tables, bits_high, row-long}
use Rattle.example_air.specs.Meanings.{ByteRowMeans}
use Rattle.example_air.specs.Proving.{AreTables, bytes_batch, tables_batch}
use Rattle.example_air.specs.Statement.{PassesChecks}
use Rattle.example_air.specs.declared.air.ExampleAir.{ExampleAir}
use Rattle.example_air.specs.declared.air.ExampleAir.TheVariants.{Bits, Bytes}
use Rattle.example_air.proofs.Balanced.{both_net, sender_of}
use Rattle.example_air.proofs.Tables.{bits_shaped, bytes_shaped, few_rows}

-- an instance of one of the tables, and its table
abbrev instance_of : ExampleAir → Rows BabyBear → Instance ExampleAir BabyBear
instance_of a trace = record { air = a; trace = trace; public_values = [] }

abbrev table_of : ExampleAir → Rows BabyBear → TracedTable BabyBear
table_of a trace = traced_instance (tool_setting V2) (example_declaration baby_bear_ring) (example_trees baby_bear_ring) (example_interactions baby_bear_ring) (instance_of a trace)

whole : (a : ExampleAir) (trace : Rows BabyBear)
    → IsWhole (source_of_instance (tool_setting V2) (example_declaration baby_bear_ring) (example_trees baby_bear_ring) (example_interactions baby_bear_ring) (instance_of a trace))
whole a trace = record { rows = example-whole baby_bear_ring a; interactions = example-interactions_read baby_bear_ring a }

-- constraints read this row's main cells alone
reads_here : (a : ExampleAir) → All ReadsMainHere (example_trees baby_bear_ring a)
reads_here Bits = reads_bits baby_bear_ring IsMainHere (λ _. ⊥) (λ k lt. tt)
reads_here Bytes = All-nil ReadsMainHere

-- so all fit
fits : (a : ExampleAir) (trace : Rows BabyBear) → AllFit (tool_setting V2) (table_of a trace)
unfolding tool_setting
fits Bits trace = rows_fit (tool_setting V2) (table_of Bits trace) (reads_here Bits) refl (own_lookups (example_declaration baby_bear_ring Bits) (example_interactions baby_bear_ring Bits) (example-interactions_read baby_bear_ring Bits)) refl
fits Bytes trace = rows_fit (tool_setting V2) (table_of Bytes trace) (reads_here Bytes) refl (own_lookups (example_declaration baby_bear_ring Bytes) (example_interactions baby_bear_ring Bytes) (example-interactions_read baby_bear_ring Bytes)) refl

-- two loads that add up to less than the order
some_load : (b : Bool) (x : ℕ) → cond b x 0 ≤ x
some_load true x = omega arith
some_load false x = omega arith

two_loads : (order : ℕ) (test : ℕ → Bool) (x y : ℕ) → x + y < order → load_where test 0 (x ∷ y ∷ []) < order
two_loads order test x y h = let p = some_load (test 0) x in let q = some_load (test 1) y in omega (arith, p, q, h)

-- the two tables as a batch with these degree bits
abbrev batch_with : (t u : Rows BabyBear) (m n : ℕ) → AirsBatch
batch_with t u m n = record {
  setting = (tool_setting V2);
  prover = baby_bear_prover tool_scheme;
  statement = airs_statement (example_declaration baby_bear_ring) (example_trees baby_bear_ring) (example_interactions baby_bear_ring) (Bits ∷ Bytes ∷ []) (m ∷ n ∷ []) ([] ∷ [] ∷ []);
  traces = t ∷ u ∷ [];
  degree_bits = m ∷ n ∷ [];
}

bounded : (t u : Rows BabyBear) (m n : ℕ) → m ≤ 10 → n ≤ 8 → HaveLoadsBelow 2013265921 (batch_with t u m n).statement.common.lookups (heights_of 0 (m ∷ n ∷ []) 2)
unfolding airs_common
bounded t u m n few eight b h =
    let low : m - 0 ≤ 10 = omega (arith, few) in
    let high : n - 0 ≤ 8 = omega (arith, eight) in
    let p : 2 ^ (m - 0) ≤ 2 ^ 10 = pow-le-pow_right (omega arith) low in
    let q : 2 ^ (n - 0) ≤ 2 ^ 8 = pow-le-pow_right (omega arith) high in
    two_loads 2013265921 (λ k. bus_number (batch_buses (batch_with t u m n).statement.common.lookups) k == b) (1 * 2 ^ (m - 0)) (1024 * 2 ^ (n - 0)) (omega (arith, p, q))

module _ (L : FieldsLaws baby_bear_field quartic_extension 27 quartic_inv) (means : ByteRowMeans baby_bear_ring) (bytes : List ℕ) (low : All (λ byte. byte < 256) bytes) (power : IsPowerOfTwo (length bytes)) (few : length bytes ≤ 1024) where
  abbrev t : Rows BabyBear
  t = bits_rows baby_bear_ring bytes

  abbrev u : Rows BabyBear
  u = bytes_rows baby_bear_ring bytes

  tables : AreTables t u
  tables = are_tables bytes t u refl refl power few

  t_fills : FillsRows t.values t.width
  t_fills = (pieces_tall (bits_row baby_bear_ring) 9 (row-long baby_bear_ring) (omega arith) (length bytes) bytes refl).fills

  -- each row of bits is that of a byte
  row_is : (i : ℕ) → i < length bytes → row_at t i ≡ bits_row baby_bear_ring (get_or bytes i 0)
  row_is i h = pieces_row (bits_row baby_bear_ring) 9 (row-long baby_bear_ring) bytes i 0 h

  row_met : (i : ℕ) → i < length bytes
      → All (λ tree. tree_value_at_row baby_bear_ring baby_bear_ring (λ x. x) (table_row baby_bear_ring.zero (traces_of (table_of Bits t)) i) tree ≡ baby_bear_ring.zero) (byte_row_trees baby_bear_ring)
  row_met i h =
      let byte = get_or bytes i 0 in
      (means (table_row baby_bear_ring.zero (traces_of (table_of Bits t)) i) (ap length (row_is i h) ∙ row-long baby_bear_ring byte)).1 (byte, low i 0 h, row_is i h)

  bits_hold : OwnHold (tool_setting V2) (table_of Bits t)
  unfolding tool_setting
  bits_hold =
      let Z = serves L in
      let H = bits_shaped t u tables t_fills in
      let T = table_traced (tool_setting V2) quartic_inv Z (example_declaration baby_bear_ring) (example_trees baby_bear_ring) (example_interactions baby_bear_ring) (instance_of Bits t) (whole Bits t) H in
      let Q = table_divided (tool_setting V2) quartic_inv Z (example_declaration baby_bear_ring) (example_trees baby_bear_ring) (example_interactions baby_bear_ring) (instance_of Bits t) (whole Bits t) H in
      let tall = T.rows.tall in
      let high = bits_high bytes in
      rows_hold (tool_setting V2) (table_of Bits t) (reads_here Bits) quartic_inv Z.fields T Q (λ i h. row_met i (omega (arith, h, tall, high)))

  bytes_hold : OwnHold (tool_setting V2) (table_of Bytes u)
  bytes_hold i h k d l = absurd (omega (arith, l))

  abbrev b : AirsBatch
  b = batch_with t u (log_of (height t)) (log_of (height u))

  -- what holds of both tables
  both : (P : TracedTable BabyBear → Type 0) → P (table_of Bits t) → P (table_of Bytes u) → (i : ℕ) → i < 2 → P (table_at b i)
  unfolding tool_setting airs_common
  both P x y zero h = x
  both P x y (suc zero) h = y
  both P x y (suc (suc i)) h = absurd (omega (arith, h))

  balanced : AreBalanced (tool_setting V2) same_value (all_traced b.statement b.traces b.degree_bits)
  unfolding tool_setting airs_common
  balanced bus tuple =
      let Z = serves L in
      let T = table_traced (tool_setting V2) quartic_inv Z (example_declaration baby_bear_ring) (example_trees baby_bear_ring) (example_interactions baby_bear_ring) (instance_of Bits t) (whole Bits t) (bits_shaped t u tables t_fills) in
      let U = table_traced (tool_setting V2) quartic_inv Z (example_declaration baby_bear_ring) (example_trees baby_bear_ring) (example_interactions baby_bear_ring) (instance_of Bytes u) (whole Bytes u) (bytes_shaped t u tables) in
      let lookups = batch_lookups (map (sender (tool_setting V2)) (all_traced b.statement b.traces b.degree_bits)) in
      both_net bytes low (bus_in lookups 0) (bus_in lookups 1) refl (2 ^ log_rows (tool_setting V2) (table_of Bits t)) (2 ^ log_rows (tool_setting V2) (table_of Bytes u)) (sym T.rows.tall ∙ bits_high bytes) (sym U.rows.tall ∙ tables.times_height) bus tuple

  eight : log_of (height u) ≤ 8
  eight = let e = log_of_power (height u) 8 tables.times_height in omega (arith, e)

  met_with : AreMet b
  unfolding tool_setting
  met_with = record {
    holds = both (OwnHold (tool_setting V2)) bits_hold bytes_hold;
    fits = both (AllFit (tool_setting V2)) (fits Bits t) (fits Bytes u);
    bounded = bounded t u (log_of (height t)) (log_of (height u)) (few_rows t u tables) eight;
    balanced = balanced;
  }

  pub bytes_met : AreMet (bytes_batch bytes)
  bytes_met =
      let first : log_of (height t) ≡ log_of (height t) + 0 = omega arith in
      let second : log_of (height u) ≡ log_of (height u) + 0 = omega arith in
      subst (λ (B : AirsBatch). AreMet B) (λ i. batch_with t u (first i) (second i)) met_with

  -- so what is accepted where the traces meet the constraints is accepted
  pass : {E : Type 0} (result : Result AirsProof E) → IfOk result (λ q. AreMet (bytes_batch bytes) → DrawsOutside (bytes_batch bytes) q → PassesChecks (log_of (height t)) q)
      → IfOk result (λ q. DrawsOutside (bytes_batch bytes) q → PassesChecks (log_of (length bytes)) q)
  pass (Ok q) accepted = λ outside. subst (λ n. PassesChecks (log_of n) q) (bits_high bytes) (accepted bytes_met outside)
  pass (Err e) accepted = tt

  -- also of traces that are these
  pub bytes_pass : (v w : Rows BabyBear) → v ≡ t → w ≡ u → {E : Type 0} (result : Result AirsProof E)
      → IfOk result (λ q. AreMet (tables_batch v w) → DrawsOutside (tables_batch v w) q → PassesChecks (log_of (height v)) q)
      → IfOk result (λ q. DrawsOutside (bytes_batch bytes) q → PassesChecks (log_of (length bytes)) q)
  bytes_pass v w v_is w_is {E} result h =
      pass result
      (subst (λ (x : Rows BabyBear). IfOk result (λ q. AreMet (tables_batch t x) → DrawsOutside (tables_batch t x) q → PassesChecks (log_of (height t)) q)) w_is
      (subst (λ (x : Rows BabyBear). IfOk result (λ q. AreMet (tables_batch x w) → DrawsOutside (tables_batch x w) q → PassesChecks (log_of (height x)) q)) v_is h))
