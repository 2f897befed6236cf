-- A chain's table: its trace has the declared shape and meets the constraints.
use Rattle.std.specs.Int.{IsPowerOfTwo}
use Rattle.std.proofs.Common.{◌≡◌, ℕ, zero, suc, ◌+◌, ◌*◌, ◌^◌, ◌<◌, ◌≤◌, inl, inr, max, List, [], ◌∷◌, length, get_or, map, refl, sym, ◌∙◌, ap, subst, arith}
use Rattle.std.specs.Prelude.{All}
use Rattle.std.proofs.Math.Pow.{pow-lt}
use Rattle.std.proofs.lemmas.Bool.{cases_lt}
use Rattle.std.proofs.lemmas.List.{ext_get_or, length-map}
use Rattle.std.proofs.lemmas.List.{get_or-map as get_or-map-within}
use Rattle.std.proofs.lemmas.Nat.{pow_pos}
use Rattle.p3_field.specs.BabyBear.{baby_bear_ring}
use Rattle.p3_field.specs.Domain.{CosetData, point, subgroup}
use Rattle.p3_field.specs.Field.{TwoAdic}
use Rattle.p3_field.specs.Poly.{eval_poly}
use Rattle.p3_field.specs.Quartic.{quartic_inv}
use Rattle.p3_field.specs.Ring.{of_nat}
use Rattle.p3_field.specs.declared.baby_bear.BabyBear.{BabyBear}
use Rattle.p3_field.specs.declared.quartic.QuarticExtension.{QuarticExtension}
use Rattle.p3_matrix.specs.Matrix.{FillsRows, Rows, height, row_at}
use Rattle.p3_matrix.specs.Laws.Cells.{get_or-column, length-column}
use Rattle.p3_matrix.specs.Laws.Transposed.{get_or-row_at, length-row_at}
use Rattle.blake3_compress.specs.Generated.{input_of}
use Rattle.blake3_prime.specs.Laws.Generated.{length-rows_cells}
use Rattle.blake3_prime.specs.Rows.{rows_cells}
use Rattle.batch_constraints.specs.Sizing.{largest_multiple}
use Rattle.batch_setup.specs.Laws.Logarithms.{log_of_power}
use Rattle.batch_setup.specs.Setup.{Instance, log_of}
use Rattle.verifier_shape.specs.ShapeChecks.{chunks_of_table}
use Rattle.chain_air.specs.Chain.{AreChainRows, AreEight}
use Rattle.chain_air.specs.Generated.{IsChainTrace, chain_inputs, chain_trace, end_of}
use Rattle.chain_air.specs.Laws.Generated.{many_inputs}
use Rattle.chain_air.specs.Laws.Traces.{publics_long}
use Rattle.chain_air.specs.declared.air.ChainAir.{ChainAir}
use Rattle.law_chain.specs.Committed.{CommittedChains}
use Rattle.law_committed.specs.BaseRows.{main_row}
use Rattle.law_committed.specs.Committed.{CommittedTable, row_count_of}
use Rattle.law_committed.specs.Fields.{FieldsLaws, baby_bear_field, quartic_extension}
use Rattle.law_committed.specs.Laws.Traces.{traces_committed}
use Rattle.law_committed.specs.Rows.{CommitsTo, InterpolateColumns}
use Rattle.law_joining.specs.Laws.Tables.{table_divided, table_traced}
use Rattle.law_joining.specs.Shaped.{IsShaped}
use Rattle.law_valid.specs.Traced.{TracedTable, committed_alone, log_parts, log_rows, no_rows, traces_of}
use Rattle.law_valid.specs.Valid.{AllFit, HasQuotientDomain, IsTraced, OwnHold}
use Rattle.tool_airs.specs.Airs.{AreMet}
use Rattle.tool_airs.specs.Laws.Alone.{IsAlone, alone_met, sends_nothing, table_of, whole_alone}
use Rattle.tool_airs.specs.Laws.Serving.{serves}
use Rattle.transcript_version.specs.declared.TranscriptVersion.TheVariants.{V2}
use Rattle.tool_statement.specs.Config.{tool_setting}
use Rattle.chain_proofs.specs.Laws.Fits.{all_trees, chain_chunks, chain_fit}
use Rattle.chain_proofs.specs.Statement.{chain_batch, chain_instance, constraints, declared, none_sent}

-- a power of two up to 2^3
pub small_log : (n : ℕ) → IsPowerOfTwo n → n ≤ 8 → log_of n ≤ 3
small_log n (k, e) h = elim (cases_lt 3 k) [
  | inl above ↦ let q : 2 ^ 3 < 2 ^ k = pow-lt above in absurd (omega (arith, q, e, h))
  | inr fine ↦ let q = log_of_power n k e in omega (arith, q, fine)
]

pub power_of_log : (n : ℕ) → IsPowerOfTwo n → n ≡ 2 ^ log_of n
power_of_log n (k, e) = e ∙ ap (λ j. 2 ^ j) (sym (log_of_power n k e))

-- the columns' polynomials have the matrix's row at its point
pub interpolated_row : {F : Type 0} (f : TwoAdic F) (d : CosetData F) (m : Rows F) (polys : List (List F)) → InterpolateColumns f d m polys → (j : ℕ) → j < height m
    → map (λ g. eval_poly f.ring g (point f.ring f.root d j)) polys ≡ row_at m j
interpolated_row {F} f d m polys I j high =
    let z = f.ring.zero in
    let value : List F → F = λ g. eval_poly f.ring g (point f.ring f.root d j) in
    let many = length-map polys value in
    let long = length-row_at m I.fills j high in
    let count = I.count in
    ext_get_or z (map value polys) (row_at m j) (many ∙ (count ∙ sym long)) (λ i b.
    let inside : i < m.width = omega (arith, b, many, count) in
    get_or-map-within value polys i [] z (omega (arith, inside, count))
    ∙ ((I.each i inside).value_is j (let c = length-column z m i in omega (arith, c, high))
    ∙ (get_or-column z m i j high ∙ sym (get_or-row_at m j i z inside))))

pub alone : (a : ChainAir) → IsAlone declared none_sent a
alone a = record { sends_none = refl; no_preprocessed = refl }

module _ (start : List ℕ) (blocks : List (List ℕ)) where
  abbrev trace : Rows BabyBear
  trace = chain_trace baby_bear_ring start blocks

  all_cells : length trace.values ≡ 9168 * length blocks
  all_cells = length-map (rows_cells (chain_inputs start blocks)) (of_nat baby_bear_ring) ∙ (length-rows_cells (chain_inputs start blocks) ∙ ap (λ n. 9168 * n) (many_inputs start blocks))

  -- there is a row for each block
  pub tall : height trace ≡ length blocks
  tall = let all = all_cells in omega (arith, all)

  pub fills : FillsRows trace.values 9168
  fills = let all = all_cells in omega (arith, all)

  module _ (power : IsPowerOfTwo (length blocks)) (few : length blocks ≤ 8) where
    -- the logarithm of the rows
    pub bits_are : log_of (height trace) ≡ log_of (length blocks)
    bits_are = ap log_of tall

    pub low : log_of (height trace) ≤ 3
    low = let small = small_log (length blocks) power few in let e = bits_are in omega (arith, small, e)

    -- the trace has the declared shape
    pub shaped : IsShaped (tool_setting V2) declared constraints none_sent (chain_instance start blocks)
    unfolding tool_setting
    shaped =
        let h = low in
        let one = chain_chunks baby_bear_ring in
        record {
          width = refl;
          some = omega arith;
          fills = fills;
          power = subst IsPowerOfTwo (sym tall) power;
          least = omega arith;
          most = omega (arith, h);
          prepared = tt;
          periods = λ i d l. absurd (omega (arith, l));
          publics = publics_long baby_bear_ring (input_of start) (input_of (end_of start blocks));
          room = omega (arith, h, one);
        }

    pub all_shaped : All (IsShaped (tool_setting V2) declared constraints none_sent) (chain_instance start blocks ∷ [])
    all_shaped zero d l = shaped
    all_shaped (suc i) d l = absurd (omega (arith, l))

    module _ (L : FieldsLaws baby_bear_field quartic_extension 27 quartic_inv) where
      abbrev pub t : TracedTable BabyBear
      t = table_of declared constraints none_sent alone (chain_instance start blocks)

      pub traced : IsTraced (tool_setting V2) t
      traced = table_traced (tool_setting V2) quartic_inv (serves L) declared constraints none_sent (chain_instance start blocks) (whole_alone declared constraints none_sent alone (chain_instance start blocks)) shaped

      pub divided : HasQuotientDomain (tool_setting V2) t
      divided = table_divided (tool_setting V2) quartic_inv (serves L) declared constraints none_sent (chain_instance start blocks) (whole_alone declared constraints none_sent alone (chain_instance start blocks)) shaped

      pub rows_are : log_rows (tool_setting V2) t ≡ log_of (height trace)
      unfolding tool_setting
      rows_are = omega arith

      pub parts_are : log_parts (tool_setting V2) t ≡ 1
      unfolding tool_setting
      parts_are = let one : chunks_of_table baby_bear_ring 0 (2 ^ log_rows (tool_setting V2) t) t.table t.lookups ≡ 1 = chain_chunks baby_bear_ring in omega (arith, one)

      fits : AllFit (tool_setting V2) t
      unfolding tool_setting
      fits = chain_fit baby_bear_ring (2 ^ log_rows (tool_setting V2) t) (2 ^ log_parts (tool_setting V2) t) (pow_pos (log_rows (tool_setting V2) t)) (subst (λ m. 2 ≤ 2 ^ m) (sym parts_are) (omega arith))

      -- the rows that are committed to are the trace's
      abbrev u : CommittedTable BabyBear QuarticExtension
      u = committed_alone (tool_setting V2) t

      commits : CommitsTo (tool_setting V2).field (tool_setting V2).extension u (traces_of t) no_rows
      unfolding tool_setting
      commits = let h = low in traces_committed baby_bear_field quartic_extension 27 quartic_inv L (log_rows (tool_setting V2) t) (omega (arith, h)) (traces_of t) no_rows [] [] traced.rows

      wide : length u.main ≡ 9168
      wide = commits.main.count

      row_is : (j : ℕ) → j < 2 ^ log_of (height trace) → main_row baby_bear_field u j ≡ row_at trace j
      unfolding tool_setting
      row_is j h =
          let l : height trace ≡ 2 ^ log_of (height trace) = power_of_log (height trace) (subst IsPowerOfTwo (sym tall) power) in
          interpolated_row baby_bear_field (subgroup baby_bear_ring u.log_height) trace u.main commits.main j (omega (arith, h, l))

      module _ (C : CommittedChains) (first : AreEight (input_of start)) (last : AreEight (input_of (end_of start blocks))) (R : IsChainTrace baby_bear_ring start (end_of start blocks) trace) where
        holds : OwnHold (tool_setting V2) t
        unfolding tool_setting
        holds =
            let h = low in
            let l : height trace ≡ 2 ^ log_of (height trace) = power_of_log (height trace) (subst IsPowerOfTwo (sym tall) power) in
            let many : height trace ≡ row_count_of u = l ∙ ap (λ m. 2 ^ m) (sym rows_are) in
            (C u (input_of start) (input_of (end_of start blocks)) (omega (arith, h)) first last wide refl).1
            (subst (λ n. AreChainRows baby_bear_ring n (main_row baby_bear_field u) (input_of start) (input_of (end_of start blocks))) many (record {
              inputs = R.inputs;
              words = R.words;
              rows_are = λ j lt. row_is j (omega (arith, lt, l)) ∙ R.rows_are j lt;
              chain = R.chain;
            }))

        -- so the trace meets the constraints
        pub met : AreMet (chain_batch start blocks)
        met =
            alone_met declared constraints none_sent alone L (chain_instance start blocks ∷ []) all_shaped (only (OwnHold (tool_setting V2)) holds) (only (AllFit (tool_setting V2)) fits)
          where
            only : (P : TracedTable BabyBear → Type 0) → P t → All (λ i. P (table_of declared constraints none_sent alone i)) (chain_instance start blocks ∷ [])
            only P h zero d l = h
            only P h (suc i) d l = absurd (omega (arith, l))
