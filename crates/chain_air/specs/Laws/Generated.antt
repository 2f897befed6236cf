-- The generated rows are those of a chain.
use Rattle.std.proofs.Common.{◌≡◌, ℕ, zero, suc, ◌+◌, ◌-◌, ◌/◌, ◌%◌, ◌^◌, ◌<◌, ◌≤◌, inl, inr, ◌++◌, List, [], ◌∷◌, length, get_or, refl, sym, ◌∙◌, ap, subst, arith, length-append}
use Rattle.std.proofs.lemmas.Bool.{cases_lt}
use Rattle.std.proofs.lemmas.List.{get_or-append_right, get_or_append_left}
use Rattle.p3_field.specs.Ring.{Ring}
use Rattle.p3_field.specs.Poly.{tabulate}
use Rattle.p3_field.specs.Laws.Tabulate.{length-tabulate, get_or-tabulate, tabulate_items}
use Rattle.p3_matrix.specs.Matrix.{Rows, row_at}
use Rattle.blake3_compress.specs.Generated.{input_of}
use Rattle.blake3_compress.specs.TraceRow.{AreWords, trace_row}
use Rattle.blake3_prime.specs.Rows.{compression_input}
use Rattle.chain_air.specs.Chain.{output_word, IsChain, AreChainRows, AreEight}
use Rattle.chain_air.specs.Generated.{AreBlocks, joined_words, block_words, chaining_before, chain_words, chain_inputs, end_of}
use Rattle.chain_air.specs.Laws.Chain.{output_is_word}

module _ (start : List ℕ) (blocks : List (List ℕ)) where
  abbrev before : ℕ → List ℕ
  before i = chaining_before start blocks i

  pub many_inputs : length (chain_inputs start blocks) ≡ length blocks
  many_inputs = length-tabulate (length blocks) (λ i. joined_words blocks i (before i))

  length-joined_words : (i : ℕ) (c : List ℕ) → length (joined_words blocks i c) ≡ 24
  length-joined_words i c =
      let a = tabulate 16 (λ k. get_or (get_or blocks i []) k 0) in
      let b = tabulate 8 (λ k. get_or c k 0) in
      omega (arith, length-append a b, length-tabulate 16 (λ k. get_or (get_or blocks i []) k 0), length-tabulate 8 (λ k. get_or c k 0))

  -- the words of a generated row
  pub generated_words : (i : ℕ) → i < length blocks → compression_input (chain_inputs start blocks) i ≡ chain_words start blocks i
  generated_words i lt =
      let ws = joined_words blocks i (before i) in
      let e : get_or (chain_inputs start blocks) i [] ≡ ws = get_or-tabulate (length blocks) (λ i. joined_words blocks i (before i)) i [] lt in
      let same : tabulate 24 (λ k. get_or (get_or (chain_inputs start blocks) i []) k 0) ≡ ws =
      ap (λ xs. tabulate 24 (λ k. get_or xs k 0)) e ∙ sym (tabulate_items 0 ws 24 (length-joined_words i (before i))) in
      (λ j. same j ++ (i % 2 ^ 32 ∷ i / 2 ^ 32 % 2 ^ 32 ∷ many_inputs j % 2 ^ 32 ∷ 0 ∷ []))

  -- the chaining value of a row
  chaining_word : (i w : ℕ) (c : List ℕ) → w < 8 → get_or (block_words blocks i c) (16 + w) 0 ≡ get_or c w 0
  chaining_word i w c lw =
      let a = tabulate 16 (λ k. get_or (get_or blocks i []) k 0) in
      let b = tabulate 8 (λ k. get_or c k 0) in
      let last : List ℕ = i % 2 ^ 32 ∷ i / 2 ^ 32 % 2 ^ 32 ∷ length blocks % 2 ^ 32 ∷ 0 ∷ [] in
      let long = length-joined_words i c in
      let la : length a ≡ 16 = length-tabulate 16 (λ k. get_or (get_or blocks i []) k 0) in
      let e : 16 + w - 16 ≡ w = omega arith in
      get_or_append_left (a ++ b) last 0 (16 + w) (omega (arith, long, lw))
      ∙ (get_or-append_right a b 16 (16 + w) 0 la (omega arith) ∙ (ap (λ m. get_or b m 0) e ∙ get_or-tabulate 8 (λ k. get_or c k 0) w 0 lw))

  module _ (block_word : AreBlocks blocks) (first : AreEight (input_of start)) where
    last_words : (i k : ℕ) → get_or (i % 2 ^ 32 ∷ i / 2 ^ 32 % 2 ^ 32 ∷ length blocks % 2 ^ 32 ∷ 0 ∷ []) k 0 < 2 ^ 32
    last_words i zero = omega arith
    last_words i (suc zero) = omega arith
    last_words i (suc (suc zero)) = omega arith
    last_words i (suc (suc (suc zero))) = omega arith
    last_words i (suc (suc (suc (suc k)))) = omega arith

    row_is_words : (i : ℕ) (c : List ℕ) → i < length blocks → ((w : ℕ) → w < 8 → get_or c w 0 < 2 ^ 32) → AreWords (input_of (block_words blocks i c))
    row_is_words i c li hc k lk =
        let a = tabulate 16 (λ k. get_or (get_or blocks i []) k 0) in
        let b = tabulate 8 (λ k. get_or c k 0) in
        let last : List ℕ = i % 2 ^ 32 ∷ i / 2 ^ 32 % 2 ^ 32 ∷ length blocks % 2 ^ 32 ∷ 0 ∷ [] in
        let wide = length-joined_words i c in
        let la : length a ≡ 16 = length-tabulate 16 (λ k. get_or (get_or blocks i []) k 0) in
        elim (cases_lt k 24) [
          | inl below ↦
              let out : get_or (a ++ b ++ last) k 0 ≡ get_or (a ++ b) k 0 = get_or_append_left (a ++ b) last 0 k (omega (arith, wide, below)) in
              elim (cases_lt k 16) [
                | inl in_block ↦
                    let e = out ∙ (get_or_append_left a b 0 k (omega (arith, la, in_block)) ∙ get_or-tabulate 16 (λ k. get_or (get_or blocks i []) k 0) k 0 in_block) in
                    let small = block_word i k li in_block in
                    subst (λ w. w < 2 ^ 32) (sym e) small
                | inr past ↦
                    let lw : k - 16 < 8 = omega (arith, past, below) in
                    let e = out ∙ (get_or-append_right a b 16 k 0 la past ∙ get_or-tabulate 8 (λ k. get_or c k 0) (k - 16) 0 lw) in
                    let small = hc (k - 16) lw in
                    subst (λ w. w < 2 ^ 32) (sym e) small
              ]
          | inr above ↦
              let e : get_or (a ++ b ++ last) k 0 ≡ get_or last (k - 24) 0 = get_or-append_right (a ++ b) last 24 k 0 wide above in
              subst (λ w. w < 2 ^ 32) (sym e) (last_words i (k - 24))
        ]

    -- chaining values are words
    pub before_words : (i : ℕ) → i ≤ length blocks → AreEight (input_of (before i))
    unfolding chaining_before
    before_words zero h w lw = first w lw
    before_words (suc i) h w lw =
        let x = input_of (block_words blocks i (before i)) in
        let wx = row_is_words i (before i) (omega (arith, h)) (before_words i (omega (arith, h))) in
        let small = output_is_word x wx w (omega (arith, lw)) in
        subst (λ m. m < 2 ^ 32) (sym (get_or-tabulate 8 (output_word x) w 0 lw)) small

    -- the generated rows
    pub rows_chain : (n : ℕ) → 0 < n → n ≡ length blocks → IsChain n (λ i. input_of (chain_words start blocks i)) (input_of start) (input_of (end_of start blocks))
    unfolding chaining_before
    rows_chain n some all = record {
      first = λ w lw. chaining_word 0 w start lw;
      links = λ j w lt lw. chaining_word (suc j) w (before (suc j)) lw ∙ get_or-tabulate 8 (output_word (input_of (chain_words start blocks j))) w 0 lw;
      last = λ j w e lw.
          let same : suc j ≡ length blocks = e ∙ all in
          sym (get_or-tabulate 8 (output_word (input_of (chain_words start blocks j))) w 0 lw) ∙ ap (λ m. get_or (chaining_before start blocks m) w 0) same;
    }

    pub generated_chain : {F : Type 0} (r : Ring F) (m : Rows F) → 0 < length blocks → ((i : ℕ) → i < length blocks → row_at m i ≡ trace_row r (input_of (chain_words start blocks i)))
        → AreChainRows r (length blocks) (row_at m) (input_of start) (input_of (end_of start blocks))
    generated_chain r m some rows = record {
      inputs = λ i. input_of (chain_words start blocks i);
      words = λ j lt. row_is_words j (before j) lt (before_words j (omega (arith, lt)));
      rows_are = rows;
      chain = rows_chain (length blocks) some refl;
    }
