-- Planes of pairs of words.
use Rattle.std.proofs.Common.{◌≡◌, ℕ, zero, suc, ◌+◌, ◌-◌, ◌*◌, ◌/◌, ◌%◌, ◌^◌, ◌<◌, ◌≤◌, List, [], ◌∷◌, ◌++◌, get_or, length, replicate, refl, ◌∙◌, ap, arith, length-append}
use Rattle.std.specs.Int.{bit_at}
use Rattle.std.proofs.lemmas.List.{get_or_append_left, get_or_past}
use Rattle.std.proofs.lemmas.Nat.Bits.{bit_at_cat_low, bit_at_cat_high}
use Rattle.p3_field.specs.Poly.{tabulate}
use Rattle.p3_field.specs.Laws.Tabulate.{length-tabulate, get_or-tabulate}
use Rattle.blake3_binary.specs.declared.input.Blake3CompressionInput.{Blake3CompressionInput}
use Rattle.blake3_binary.specs.Rows.{nothing, compression_words, compression}
use Rattle.blake3_packed.specs.Lanes.{ArePlanes, IsTransposed}
use Rattle.blake3_packed.specs.Inputs.{IsPair, ArePairs}

pub block_word : (input : Blake3CompressionInput) (k : ℕ) → k < 16 → get_or (compression_words input) k 0 ≡ get_or input.block k 0
block_word input k lk =
    let A = tabulate 16 (λ k. get_or input.block k 0) in
    let B = tabulate 8 (λ k. get_or input.chaining_value k 0) in
    let C = input.counter % 2 ^ 32 ∷ input.counter / 2 ^ 32 % 2 ^ 32 ∷ input.block_len ∷ input.flags ∷ [] in
    let la : length A ≡ 16 = length-tabulate 16 (λ k. get_or input.block k 0) in
    get_or_append_left (A ++ B) C 0 k (omega (arith, length-append A B, la, lk))
    ∙ (get_or_append_left A B 0 k (omega (arith, la, lk)) ∙ get_or-tabulate 16 (λ k. get_or input.block k 0) k 0 lk)

-- where there is no compression all words are zero
pub zeros_at : (n k : ℕ) → ◌≡◌ {A = ℕ} (get_or (replicate n 0) k 0) 0
zeros_at zero k = refl
zeros_at (suc n) zero = refl
zeros_at (suc n) (suc k) = zeros_at n k

pub nothing_at : (k : ℕ) → get_or (compression_words nothing) k 0 ≡ 0
nothing_at k = zeros_at 28 k

pub past_end : (block : List Blake3CompressionInput) (j k : ℕ) → length block ≤ j → compression block j k ≡ 0
past_end block j k le = ap (λ x. get_or (compression_words x) k 0) (get_or_past block j nothing le) ∙ nothing_at k

pub no_pair : (n low high : ℕ) → n ≡ 0 → low ≡ 0 → high ≡ 0 → IsPair n low high
no_pair n low high e f g = record { low_word = omega (arith, f); high_word = omega (arith, g); pair = omega (arith, e, f, g) }

pub low_planes : (rows planes half : List ℕ) (block : List Blake3CompressionInput) (p : ℕ) → ArePairs rows block p 64 → IsTransposed rows planes → length half ≡ 32
    → ((k : ℕ) → k < 32 → get_or half k 0 ≡ get_or planes (0 + k) 0) → ArePlanes half (λ j. compression block j (2 * p))
low_planes rows planes half block p pairs t long h = record {
  long = long;
  below = λ j lj. (pairs j lj).low_word;
  bits = λ j k lj lk.
      let P = pairs j lj in
      let low = compression block j (2 * p) in
      let high = compression block j (2 * p + 1) in
      let e : 0 + k ≡ k = omega arith in
      ap (λ m. bit_at m j) (h k lk ∙ ap (λ i. get_or planes i 0) e)
      ∙ (t k j (omega (arith, lk)) lj ∙ (ap (λ m. bit_at m k) P.pair ∙ bit_at_cat_low high 32 low k lk));
}

pub high_planes : (rows planes half : List ℕ) (block : List Blake3CompressionInput) (p : ℕ) → ArePairs rows block p 64 → IsTransposed rows planes → length half ≡ 32
    → ((k : ℕ) → k < 32 → get_or half k 0 ≡ get_or planes (32 + k) 0) → ArePlanes half (λ j. compression block j (2 * p + 1))
high_planes rows planes half block p pairs t long h = record {
  long = long;
  below = λ j lj. (pairs j lj).high_word;
  bits = λ j k lj lk.
      let P = pairs j lj in
      let low = compression block j (2 * p) in
      let high = compression block j (2 * p + 1) in
      let far : 32 ≤ 32 + k = omega arith in
      let e : 32 + k - 32 ≡ k = omega arith in
      ap (λ m. bit_at m j) (h k lk)
      ∙ (t (32 + k) j (omega (arith, lk)) lj ∙ (ap (λ m. bit_at m (32 + k)) P.pair ∙ (bit_at_cat_high high 32 low (32 + k) P.low_word far ∙ ap (bit_at high) e)));
}
