-- What is generated, from what the generator of compressions gives.
use Rattle.std.proofs.Common.{◌≡◌, ℕ, ◌<◌, List, [], length, None, Result, Ok, Err, IfOk, sym, ◌∙◌, ap, subst, arith}
use Rattle.std.proofs.lemmas.Nat.{pow_pos}
use Rattle.std.specs.Int.{IsPowerOfTwo}
use Rattle.p3_field.specs.Ring.{Ring}
use Rattle.p3_matrix.specs.Matrix.{Rows, height, row_at}
use Rattle.air_core.specs.Check.{table_traces}
use Rattle.blake3_compress.specs.Generated.{input_of}
use Rattle.blake3_compress.specs.TraceRow.{trace_row}
use Rattle.blake3_compress.specs.Laws.Cells.{length-trace_row}
use Rattle.blake3_prime.specs.Rows.{compression_input}
use Rattle.chain_air.specs.Chain.{AreChainRows, AreEight, publics_of}
use Rattle.chain_air.specs.Meanings.{TracesMean}
use Rattle.chain_air.specs.Generated.{AreBlocks, HasChainRows, IsChainTrace, MeetsChain, chain_inputs, chain_words, end_of}
use Rattle.chain_air.specs.Laws.Generated.{before_words, generated_chain, generated_words, many_inputs}

pub both_ok : {A E : Type 0} (P Q R : A → Type 0) (r : Result A E) → ((x : A) → P x → Q x → R x) → IfOk r P → IfOk r Q → IfOk r R
both_ok P Q R (Ok x) f p q = f x p q
both_ok P Q R (Err e) f p q = tt

pub some_of_power : (n : ℕ) → IsPowerOfTwo n → 0 < n
some_of_power n (k, e) = let p = pow_pos k in omega (arith, e, p)

module _ {F : Type 0} (r : Ring F) (start : List ℕ) (blocks : List (List ℕ)) where
  -- the rows of compressions of the chain's inputs are the chain's
  pub chain_rows : (inputs : List (List ℕ)) (m : Rows F) → inputs ≡ chain_inputs start blocks
      → ((i : ℕ) → i < length inputs → row_at m i ≡ trace_row r (input_of (compression_input inputs i))) → HasChainRows r start blocks m
  chain_rows inputs m e h i lt =
      let many : length inputs ≡ length blocks = ap length e ∙ many_inputs start blocks in
      h i (omega (arith, lt, many)) ∙ ap (λ ws. trace_row r (input_of ws)) (ap (λ xs. compression_input xs i) e ∙ generated_words start blocks i lt)

  module _ (words : AreBlocks blocks) (first : AreEight (input_of start)) where
    -- so they are those of a chain
    pub rows_chained : (m : Rows F) → 0 < length blocks → height m ≡ length blocks → HasChainRows r start blocks m → IsChainTrace r start (end_of start blocks) m
    rows_chained m some tall rows =
        subst (λ n. AreChainRows r n (row_at m) (input_of start) (input_of (end_of start blocks))) (sym tall) (generated_chain start blocks words first r m some rows)

    -- and meet the constraints
    pub rows_valid : TracesMean r → (m : Rows F) → 0 < length blocks → height m ≡ length blocks → HasChainRows r start blocks m → MeetsChain r start (end_of start blocks) m
    rows_valid means m some tall rows =
        let publics = publics_of r (input_of start) (input_of (end_of start blocks)) in
        (means (table_traces m None [] publics) (input_of start) (input_of (end_of start blocks)) first (before_words start blocks words first (length blocks) (omega arith))
        (omega (arith, some, tall)) (λ i lt. ap length (rows i (omega (arith, lt, tall))) ∙ length-trace_row r (input_of (chain_words start blocks i))) (λ j. publics)).1
        (rows_chained m some tall rows)
