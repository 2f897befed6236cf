-- The two tables have the declared shapes, and what is made of them is their batch.
use Rattle.std.specs.Int.{IsPowerOfTwo}
use Rattle.std.proofs.Common.{◌≡◌, ℕ, zero, suc, ◌+◌, ◌-◌, ◌^◌, ◌<◌, ◌≤◌, inl, inr, max, List, [], ◌∷◌, length, Result, Ok, Err, refl, sym, ◌∙◌, ap, subst, arith}
use Rattle.std.specs.Prelude.{All, IfOk}
use Rattle.std.proofs.Math.Pow.{pow-lt}
use Rattle.std.proofs.lemmas.Bool.{cases_lt}
use Rattle.p3_field.specs.BabyBear.{baby_bear_ring}
use Rattle.p3_field.specs.Laws.Checks.{none_alone, none_append}
use Rattle.p3_field.specs.Laws.Tabulate.{length-tabulate}
use Rattle.p3_field.specs.Poly.{tabulate}
use Rattle.p3_field.specs.Ring.{of_nat}
use Rattle.p3_field.specs.declared.baby_bear.BabyBear.{BabyBear}
use Rattle.p3_matrix.specs.Matrix.{FillsRows, Rows, height}
use Rattle.p3_matrix.specs.Laws.Grids.{product_fills}
use Rattle.air_gadgets.specs.Gadgets.{packed_bits}
use Rattle.batch_constraints.specs.Sizing.{log_chunks}
use Rattle.batch_constraints.specs.Laws.Logarithms.{log_ceil_least}
use Rattle.batch_setup.specs.Laws.Logarithms.{log_of_power}
use Rattle.batch_setup.specs.Packed.{log_chunks_with, source_of, unpacked_lookups}
use Rattle.batch_setup.specs.Setup.{Instance, bits_of, log_of}
use Rattle.batch_setup.specs.SetupChecks.{AreWithinBounds}
use Rattle.batch_statement.specs.Words.{bits_at}
use Rattle.law_honest.specs.HonestProof.{honest_proof}
use Rattle.law_joining.specs.Shaped.{IsShaped}
use Rattle.law_valid.specs.Laws.Columns.{column_height}
use Rattle.tool_airs.specs.Airs.{AirsBatch, AirsProof, AreMet, DrawsOutside, HaveHeights, airs_batch, airs_statement, height_check}
use Rattle.transcript_version.specs.declared.TranscriptVersion.TheVariants.{V2}
use Rattle.tool_statement.specs.Config.{tool_backend, tool_setting}
use Rattle.verifier_batch.specs.BatchChecks.{Accepted, checks}
use Rattle.example_air.specs.Bytes.{all_bytes, byte_row_trees, example_declaration, example_interactions, example_trees}
use Rattle.example_air.specs.Proving.{AreTables, IsTablesProof, tables_batch, tables_instances}
use Rattle.example_air.specs.Statement.{PassesChecks, example_statement}
use Rattle.example_air.specs.declared.air.ExampleAir.{ExampleAir}
use Rattle.example_air.specs.declared.air.ExampleAir.TheVariants.{Bits, Bytes}

-- the degree of the constraints is at most two, so that the quotients have one chunk
one_chunk : (degree : ℕ) → degree ≤ 2 → log_chunks 0 degree ≤ 0
one_chunk degree h = log_ceil_least (max (degree + 0) 2 - 1) 0 (omega (arith, h))

chunks_are : (a : ExampleAir) (n : ℕ)
    → log_chunks_with baby_bear_ring 0 n (source_of (example_declaration baby_bear_ring) (example_trees baby_bear_ring) (example_interactions baby_bear_ring) a)
    (unpacked_lookups (source_of (example_declaration baby_bear_ring) (example_trees baby_bear_ring) (example_interactions baby_bear_ring) a)) ≤ 0
unfolding byte_row_trees packed_bits
chunks_are Bits n = one_chunk 2 (omega arith)
chunks_are Bytes n = one_chunk 2 (omega arith)

-- a power of two up to 2^10
small_log : (n : ℕ) → IsPowerOfTwo n → n ≤ 1024 → log_of n ≤ 10
small_log n (k, e) h = elim (cases_lt 10 k) [
  | inl above ↦ let q : 2 ^ 10 < 2 ^ k = pow-lt above in absurd (omega (arith, q, e, h))
  | inr fine ↦ let q = log_of_power n k e in omega (arith, q, fine)
]

all_high : height (record { values = all_bytes baby_bear_ring; width = 1 }) ≡ 256
unfolding all_bytes
all_high = column_height {A = BabyBear} (tabulate 256 (of_nat baby_bear_ring)) ∙ length-tabulate {A = BabyBear} 256 (of_nat baby_bear_ring)

abbrev Shaped : Instance ExampleAir BabyBear → Type 0
Shaped i = IsShaped (tool_setting V2) (example_declaration baby_bear_ring) (example_trees baby_bear_ring) (example_interactions baby_bear_ring) i

-- the two instances with public values of their own, of which there are none
abbrev made : (t u : Rows BabyBear) (p q : List BabyBear) → List (Instance ExampleAir BabyBear)
made t u p q = record { air = Bits; trace = t; public_values = p } ∷ record { air = Bytes; trace = u; public_values = q } ∷ []

same : (t u : Rows BabyBear) (p q : List BabyBear) → p ≡ [] → q ≡ [] → made t u p q ≡ tables_instances t u
same t u p q e f = λ i. made t u (e i) (f i)

-- what holds of the batch that is made of them holds of the tables' batch
pub carried : (t u : Rows BabyBear) (p q : List BabyBear) → p ≡ [] → q ≡ [] → (P : AirsBatch → Type 0)
    → P (airs_batch (example_declaration baby_bear_ring) (example_trees baby_bear_ring) (example_interactions baby_bear_ring) (made t u p q)) → P (tables_batch t u)
carried t u p q e f P h =
    subst (λ (xs : List (Instance ExampleAir BabyBear)). P (airs_batch (example_declaration baby_bear_ring) (example_trees baby_bear_ring) (example_interactions baby_bear_ring) xs)) (same t u p q e f) h

module _ (t u : Rows BabyBear) (A : AreTables t u) where
  pub few_rows : log_of (height t) ≤ 10
  few_rows = small_log (height t) A.power A.few

  eight : log_of (height u) ≡ 8
  eight = log_of_power (height u) 8 A.times_height

  pub bits_shaped : FillsRows t.values t.width → Shaped (record { air = Bits; trace = t; public_values = [] })
  unfolding tool_setting
  bits_shaped fills =
      let low = few_rows in
      let one = chunks_are Bits (log_of (height t)) in
      record {
        width = A.bits_width;
        some = omega arith;
        fills = fills;
        power = A.power;
        least = omega arith;
        most = omega (arith, low);
        prepared = tt;
        periods = λ i d l. absurd (omega (arith, l));
        publics = refl;
        room = omega (arith, low, one);
      }

  pub bytes_shaped : Shaped (record { air = Bytes; trace = u; public_values = [] })
  unfolding tool_setting
  bytes_shaped =
      let log = eight in
      let one = chunks_are Bytes (log_of (height u)) in
      record {
        width = A.times_width;
        some = omega arith;
        fills = subst (FillsRows u.values) (sym A.times_width) (product_fills u.values (length u.values) 1 (omega arith));
        power = (8, A.times_height);
        least = omega arith;
        most = omega (arith, log);
        prepared = all_high ∙ sym A.times_height;
        periods = λ i d l. absurd (omega (arith, l));
        publics = refl;
        room = omega (arith, log, one);
      }

  pub all_shaped : FillsRows t.values t.width → (p q : List BabyBear) → p ≡ [] → q ≡ [] → All Shaped (made t u p q)
  all_shaped fills p q e f = subst (λ xs. All Shaped xs) (sym (same t u p q e f)) both
    where
      both : All Shaped (tables_instances t u)
      both zero d l = bits_shaped fills
      both (suc zero) d l = bytes_shaped
      both (suc (suc i)) d l = absurd (omega (arith, l))

  -- the proof's height is that of the trace, and its statement that of so many bytes
  first_height : (q : AirsProof) → IsTablesProof t u q → bits_at q.degree_bits 0 ≡ log_of (height t)
  unfolding honest_proof
  first_height q P =
      let none : log_of (height t) + 0 ≡ log_of (height t) = omega arith in
      ap (λ (x : AirsProof). bits_at x.degree_bits 0) P.proof_is ∙ none

  bits_are : bits_of 0 (tables_instances t u) ≡ log_of (height t) ∷ 8 ∷ []
  bits_are =
      let log = eight in
      let first : log_of (height t) + 0 ≡ log_of (height t) = omega arith in
      let second : log_of (height u) + 0 ≡ 8 = omega (arith, log) in
      λ i. first i ∷ second i ∷ []

  -- so where the verifier accepts it, it passes all checks
  pub passes : (q : AirsProof) → IsTablesProof t u q → Accepted (tool_setting V2) tool_backend (tables_batch t u).statement q → PassesChecks (log_of (height t)) q
  passes q P h =
      let stated : Accepted (tool_setting V2) tool_backend (example_statement (log_of (height t))) q =
      subst (λ (bits : List ℕ). Accepted (tool_setting V2) tool_backend (airs_statement (example_declaration baby_bear_ring) (example_trees baby_bear_ring) (example_interactions baby_bear_ring) (Bits ∷ Bytes ∷ []) bits ([] ∷ [] ∷ [])) q) bits_are h in
      none_append (height_check 0 (log_of (height t)) q ∷ []) (checks (tool_setting V2) tool_backend (example_statement (log_of (height t))) q)
      (none_alone (height_check 0 (log_of (height t)) q) (first_height q P)) stated

  -- of what a prover of AIRs answers
  pub accepted_there : {E : Type 0} (result : Result AirsProof E) → IfOk result (IsTablesProof t u)
      → IfOk result (λ q. AreMet (tables_batch t u) → DrawsOutside (tables_batch t u) q → Accepted (tool_setting V2) tool_backend (tables_batch t u).statement q)
      → IfOk result (λ q. AreMet (tables_batch t u) → DrawsOutside (tables_batch t u) q → PassesChecks (log_of (height t)) q)
  accepted_there (Ok q) built accepted = λ met outside. passes q built (accepted met outside)
  accepted_there (Err e) built accepted = tt

-- the heights that a verifier expects
pub expected : (log_rows : ℕ) → log_rows ≤ 10 → AreWithinBounds 0 26 (log_rows ∷ 8 ∷ [])
expected log_rows few zero h = (omega arith, omega (arith, few))
expected log_rows few (suc zero) h = (omega arith, omega arith)
expected log_rows few (suc (suc i)) h = absurd (omega (arith, h))

pub prepared_high : (log_rows : ℕ) → HaveHeights (example_declaration baby_bear_ring) (Bits ∷ Bytes ∷ []) (log_rows ∷ 8 ∷ [])
prepared_high log_rows zero a h = tt
prepared_high log_rows (suc zero) a h = all_high
prepared_high log_rows (suc (suc i)) a h = absurd (omega (arith, h))
