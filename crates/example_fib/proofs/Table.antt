-- The table is given by equations, its trace has the declared shape and meets them, and an accepted proof says what its rows mean.
use Rattle.std.proofs.Common.{◌≡◌, ℕ, zero, suc, ◌+◌, ◌-◌, ◌*◌, ◌^◌, ◌<◌, ◌≤◌, max, List, [], ◌∷◌, length, refl, sym, ◌∙◌, ap, subst, arith}
use Rattle.std.specs.Prelude.{All, sum}
use Rattle.std.proofs.lemmas.Nat.{pow_pos}
use Rattle.p3_field.specs.BabyBear.{baby_bear_ring}
use Rattle.p3_field.specs.Quartic.{quartic_inv}
use Rattle.p3_field.specs.declared.baby_bear.BabyBear.{BabyBear}
use Rattle.p3_field.specs.declared.quartic.QuarticExtension.{QuarticExtension}
use Rattle.p3_matrix.specs.Matrix.{Rows, height, row_at}
use Rattle.air_equations.specs.Equation.{Equation, equation_trees}
use Rattle.air_equations.specs.Laws.Rows.{rows_fill, rows_height, rows_row}
use Rattle.air_equations.specs.Meets.{IsPlainEquation, Meets}
use Rattle.batch_constraints.specs.Laws.Logarithms.{log_ceil_least}
use Rattle.batch_constraints.specs.Sizing.{log_chunks}
use Rattle.batch_setup.specs.Laws.Logarithms.{log_of_power}
use Rattle.batch_setup.specs.Setup.{Instance}
use Rattle.batch_setup.specs.SetupChecks.{AreWithinBounds}
use Rattle.batch_statement.specs.Statement.{Statement}
use Rattle.plain_pcs.specs.Scheme.{PlainCommitmentData}
use Rattle.batch_statement.specs.Words.{bits_at}
use Rattle.law_committed.specs.Batch.{DividedTable}
use Rattle.law_committed.specs.Committed.{Holds}
use Rattle.law_committed.specs.Fields.{FieldsLaws, baby_bear_field, quartic_extension}
use Rattle.law_committed.specs.Identity.{chunk_count_of}
use Rattle.law_joining.specs.Shaped.{IsShaped}
use Rattle.law_committed.specs.BaseRows.{main_row}
use Rattle.law_soundness.specs.CommittedBatch.{chunk_count, committed_at, committed_quotient, committed_table_at}
use Rattle.law_soundness.specs.Meaning.{CommittedTablesHold, HoldUnlessUnlucky}
use Rattle.law_soundness.specs.UnluckyCounts.{largest_full_degree, most_alphas, most_zetas}
use Rattle.verifier_batch.specs.OpeningChecks.{log_chunks_of_table}
use Rattle.tool_airs.specs.Airs.{AirsBatch, AirsProof, AreMet, HasFewUnlucky, airs_batch, airs_common, airs_statement}
use Rattle.tool_airs.specs.Laws.Equational.{IsEquational, equations_met, rows_meet}
use Rattle.transcript_version.specs.declared.TranscriptVersion.TheVariants.{V2}
use Rattle.tool_statement.specs.Config.{tool_setting}
use Rattle.example_fib_air.specs.Fib.{FibMeans, FibMeets, fib, fib_declaration, fib_equations, fib_row, fib_rows, fib_trees}
use Rattle.example_fib_air.specs.declared.air.FibAir.{FibAir}
use Rattle.example_fib.specs.Statement.{AreFew, IsNumber, fib_batch, fib_instance, fib_statement}

plain : All IsPlainEquation (fib_equations {F = BabyBear})
plain zero q l = (tt, (tt, tt))
plain (suc zero) q l = (tt, (tt, tt))
plain (suc (suc zero)) q l = (tt, (tt, tt))
plain (suc (suc (suc zero))) q l = (tt, (tt, (tt, tt)))
plain (suc (suc (suc (suc zero)))) q l = (tt, (tt, tt))
plain (suc (suc (suc (suc (suc k))))) q l = absurd (omega (arith, l))

equational : (a : FibAir) → IsEquational (λ (_ : FibAir). fib_declaration) (λ _. fib_trees) (λ _. []) (λ _. fib_equations) a
equational a = record { trees_are = refl; plain = plain; sends_none = refl; no_periodic = refl; no_preprocessed = refl }

-- a quotient of constraints of degree two has one chunk
one_chunk : (degree : ℕ) → degree ≤ 2 → log_chunks 0 degree ≤ 0
one_chunk degree h = log_ceil_least (max (degree + 0) 2 - 1) 0 (omega (arith, h))

module _ (start number : BabyBear) (k : ℕ) (few : k ≤ 10) where
  high : height (fib_rows baby_bear_ring start (2 ^ k)) ≡ 2 ^ k
  high = rows_height 2 (fib_row baby_bear_ring start) (λ i. refl) (2 ^ k) (omega arith)

  pub shaped : IsShaped (tool_setting V2) (λ (_ : FibAir). fib_declaration) (λ _. fib_trees) (λ _. []) (fib_instance start number k)
  unfolding tool_setting
  shaped =
      let log = log_of_power (height (fib_rows baby_bear_ring start (2 ^ k))) k high in
      let one = one_chunk 2 (omega arith) in
      record {
        width = refl;
        some = omega arith;
        fills = rows_fill 2 (fib_row baby_bear_ring start) (λ i. refl) (2 ^ k);
        power = (k, high);
        least = omega arith;
        most = omega (arith, log, few);
        prepared = tt;
        periods = λ i d l. absurd (omega (arith, l));
        publics = refl;
        room = omega (arith, log, few, one);
      }

  -- the trace meets the constraints where the number is the right one
  pub met : FieldsLaws baby_bear_field quartic_extension 27 quartic_inv → FibMeets baby_bear_ring → number ≡ fib baby_bear_ring start (2 ^ k) → AreMet (fib_batch start number k)
  met L meets is =
      equations_met (λ (_ : FibAir). fib_declaration) (λ _. fib_trees) (λ _. []) (λ _. fib_equations) equational L (fib_instance start number k ∷ []) only meeting
    where
      only : All (IsShaped (tool_setting V2) (λ (_ : FibAir). fib_declaration) (λ _. fib_trees) (λ _. [])) (fib_instance start number k ∷ [])
      only zero d l = shaped
      only (suc i) d l = absurd (omega (arith, l))

      meeting : All (λ i. Meets baby_bear_ring (row_at i.trace) i.public_values (height i.trace) fib_equations) (fib_instance start number k ∷ [])
      meeting zero d l =
          subst (λ n. Meets baby_bear_ring (row_at (fib_rows baby_bear_ring start (2 ^ k))) (start ∷ number ∷ []) n fib_equations) (sym high)
          (subst (λ x. Meets baby_bear_ring (row_at (fib_rows baby_bear_ring start (2 ^ k))) (start ∷ x ∷ []) (2 ^ k) fib_equations) (sym is)
          (meets (row_at (fib_rows baby_bear_ring start (2 ^ k))) start (2 ^ k) (pow_pos k) (rows_row 2 (fib_row baby_bear_ring start) (λ i. refl) (2 ^ k))))
      meeting (suc i) d l = absurd (omega (arith, l))

  -- and where the table of an accepted proof holds, the number is the right one
  pub number_is : FieldsLaws baby_bear_field quartic_extension 27 quartic_inv → FibMeans baby_bear_ring → (p : AirsProof) → bits_at p.degree_bits 0 ≡ k → HoldUnlessUnlucky (tool_setting V2) 1 (fib_statement start number k) p
      → (CommittedTablesHold (tool_setting V2) 1 (fib_statement start number k) p → Holds baby_bear_field quartic_extension (committed_table_at (tool_setting V2) 1 (fib_statement start number k) p 0) fib_trees) → IsNumber start number k p
  number_is L means p at holds own no_alpha no_zeta =
      let s = fib_statement start number k in
      means (main_row baby_bear_field (committed_table_at (tool_setting V2) 1 s p 0)) start number (2 ^ k) (pow_pos k)
      (rows_meet L fib_equations plain s p 0 k at (omega (arith, few)) holds own no_alpha no_zeta)

  -- how few challenges are unlucky
  module _ (p : AirsProof) (at : bits_at p.degree_bits 0 ≡ k) where
    abbrev t : DividedTable BabyBear QuarticExtension
    t = committed_at (tool_setting V2) 1 (fib_statement start number k) p 0

    rows_are : 2 ^ bits_at p.degree_bits 0 ≡ 2 ^ k
    rows_are = ap (λ n. 2 ^ n) at

    one_part : chunk_count (tool_setting V2) (fib_statement start number k) p 0 ≡ 1
    unfolding tool_setting airs_common
    one_part =
        let few : log_chunks_of_table (tool_setting V2) (fib_statement start number k) p 0 ≤ 0 = one_chunk 2 (omega arith) in
        let none : log_chunks_of_table (tool_setting V2) (fib_statement start number k) p 0 ≡ 0 = omega (arith, few) in
        ap (λ j. 2 ^ j) none

    few_alphas : most_alphas t ≤ 4 * 2 ^ bits_at p.degree_bits 0
    unfolding airs_common
    few_alphas = omega arith

    low_degree : largest_full_degree t ≤ 2 * 2 ^ bits_at p.degree_bits 0 - 1
    unfolding airs_common
    low_degree = let pos : 0 < 2 ^ bits_at p.degree_bits 0 = pow_pos (bits_at p.degree_bits 0) in omega (arith, pos)

    pub few_are : HasFewUnlucky (fib_statement start number k) p → AreFew start number k p
    few_are H = record {
      alphas = λ xs d u.
          let h : length xs ≤ sum (most_alphas t ∷ []) = H.alphas xs d u in
          let few = few_alphas in
          let e = rows_are in
          omega (arith, h, few, e);
      zetas = λ alpha xs d u.
          let h : length xs ≤ sum (most_zetas t ∷ []) = H.zetas alpha xs d u in
          let low = low_degree in
          let parts : chunk_count_of (committed_quotient (tool_setting V2) 1 (fib_statement start number k) p 0) ≡ 1 = H.chunks 0 (omega arith) ∙ one_part in
          let size : 2 ^ bits_at p.degree_bits 0 * (chunk_count_of (committed_quotient (tool_setting V2) 1 (fib_statement start number k) p 0) + 1) ≡ 2 ^ bits_at p.degree_bits 0 * 2 =
          ap (λ c. 2 ^ bits_at p.degree_bits 0 * (c + 1)) parts in
          let e = rows_are in
          omega (arith, h, low, size, e);
    }

-- what is made of these values is the table's instance, and its batch
module _ (start number : BabyBear) (k : ℕ) (trace : Rows BabyBear) (values : List BabyBear) (trace_is : trace ≡ fib_rows baby_bear_ring start (2 ^ k)) (values_are : values ≡ start ∷ number ∷ []) where
  abbrev made : List (Instance FibAir BabyBear)
  made = record { air = record {}; trace = trace; public_values = values } ∷ []

  same : made ≡ fib_instance start number k ∷ []
  same = λ i. record { air = record {}; trace = trace_is i; public_values = values_are i } ∷ []

  pub all_shaped : k ≤ 10 → All (IsShaped (tool_setting V2) (λ (_ : FibAir). fib_declaration) (λ _. fib_trees) (λ _. [])) made
  all_shaped few =
      subst (All (IsShaped (tool_setting V2) (λ (_ : FibAir). fib_declaration) (λ _. fib_trees) (λ _. []))) (sym same) (only (shaped start number k few))
    where
      only : IsShaped (tool_setting V2) (λ (_ : FibAir). fib_declaration) (λ _. fib_trees) (λ _. []) (fib_instance start number k)
          → All (IsShaped (tool_setting V2) (λ (_ : FibAir). fib_declaration) (λ _. fib_trees) (λ _. [])) (fib_instance start number k ∷ [])
      only H zero d l = H
      only H (suc i) d l = absurd (omega (arith, l))

  pub carried : (P : AirsBatch → Type 0) → P (airs_batch (λ (_ : FibAir). fib_declaration) (λ _. fib_trees) (λ _. []) made) → P (fib_batch start number k)
  carried P h = subst (λ (xs : List (Instance FibAir BabyBear)). P (airs_batch (λ (_ : FibAir). fib_declaration) (λ _. fib_trees) (λ _. []) xs)) same h

-- and its statement
pub stated : (start number : BabyBear) (k : ℕ) (values : List BabyBear) → values ≡ start ∷ number ∷ [] → (P : Statement BabyBear (PlainCommitmentData BabyBear) → Type 0)
    → P (airs_statement (λ (_ : FibAir). fib_declaration) (λ _. fib_trees) (λ _. []) (record {} ∷ []) (k ∷ []) (values ∷ [])) → P (fib_statement start number k)
stated start number k values e P h = subst (λ (ps : List (List BabyBear)). P (airs_statement (λ (_ : FibAir). fib_declaration) (λ _. fib_trees) (λ _. []) (record {} ∷ []) (k ∷ []) ps)) (λ i. e i ∷ []) h

pub few_rows : (k : ℕ) → k ≤ 10 → AreWithinBounds 0 26 (k ∷ [])
few_rows k few zero h = (omega arith, omega (arith, few))
few_rows k few (suc i) h = absurd (omega (arith, h))
