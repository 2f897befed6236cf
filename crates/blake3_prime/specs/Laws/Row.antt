-- The whole row: its constraints are zero exactly where its cells represent the words of one compression.
use Rattle.std.proofs.Common.{◌≡◌, ℕ, zero, suc, ◌+◌, ◌*◌, ◌^◌, ◌<◌, ◌++◌, List, sym, ◌∙◌, ap, subst, arith, lit<}
use Rattle.std.specs.Prelude.{bit_xor, ◌↔◌}
use Rattle.std.specs.Int.{bit_at, rotate_left, w32}
use Rattle.std.proofs.lemmas.Nat.{xor_lt, xor_comm}
use Rattle.std.proofs.lemmas.Nat.Bits.{bit_at-lt}
use Rattle.std.proofs.lemmas.List.Elements.{All-append}
use Rattle.p3_field.specs.Ring.{Ring, of_nat}
use Rattle.air_core.specs.declared.cells.Cell.{Cell}
use Rattle.air_core.specs.declared.cells.ExtCell.{ExtCell}
use Rattle.air_core.specs.Tree.{Tree, Reading, eval_tree}
use Rattle.air_gadgets.specs.Gadgets.{xor_shift_trees}
use Rattle.air_gadgets.specs.Words.{PrimeFieldLaws, cells_reading, Vanish, bits_word, IsXorShift}
use Rattle.air_gadgets.specs.Laws.Words.{word_of_bits}
use Rattle.air_gadgets.specs.Laws.Gadgets.{xor_shift_means}
use Rattle.blake3_compress.specs.Compress.{Input, chaining, first_state, output_of}
use Rattle.blake3_compress.specs.TraceRow.{state, AreWords}
use Rattle.blake3_prime.specs.Trees.{place_of, from_column, packed_limbs, bits_trees, limbs_trees, iv_trees, masked_trees, xor_trees, rounds_trees, first_trees, first_output_trees, other_output_trees, last_trees, blake3_trees}
use Rattle.blake3_prime.specs.Meanings.{HasBits, HasLimbs, RepresentsState, RepresentsInput, RepresentsRow, CellsMean}
use Rattle.air_core.specs.Laws.Lists.{all_left, all_right, all_of_joined, all_joined}
use Rattle.blake3_compress.specs.Laws.Words.{xor_twice, bit_of_bits, bits_below}
use Rattle.blake3_prime.specs.Laws.Step.{packed_word}
use Rattle.blake3_prime.specs.Laws.Rounds.{state_words, rounds_mean}
use Rattle.blake3_prime.specs.Laws.Bits.{not_turned, word_at, words_of_zeros, zeros_of_words, same_word, limbs_of_zeros, zeros_of_limbs, iv_means, xor_means}

-- what holds of the four groups
four : (Q : ℕ → ℕ → Type 0) → ((i : ℕ) → i < 4 → Q 0 i) → ((i : ℕ) → i < 4 → Q 1 i) → ((i : ℕ) → i < 4 → Q 2 i) → ((i : ℕ) → i < 4 → Q 3 i)
    → (k i : ℕ) → k < 4 → i < 4 → Q k i
four Q a b c d zero i h l = a i l
four Q a b c d (suc zero) i h l = b i l
four Q a b c d (suc (suc zero)) i h l = c i l
four Q a b c d (suc (suc (suc zero))) i h l = d i l
four Q a b c d (suc (suc (suc (suc k)))) i h l = absurd (omega (arith, h))

module _ {A : Type 0} (r : Ring A) (inv : A → A) (order : ℕ) (canonical : A → ℕ) (P : PrimeFieldLaws r inv order canonical) (o : 2 ^ 20 < order) (at : Cell → A) (at_ext : ExtCell → A) where
  abbrev rd : Reading A A
  rd = cells_reading r at at_ext

  abbrev Zero : Tree A → Type 0
  Zero v = eval_tree rd v ≡ r.zero

  -- where a has limbs of w and b bits of y, the trees mean that c has the bits of y xor w
  masked_means : (ta tb tc : ℕ → Tree A) (w y : ℕ) → w < 2 ^ 32 → y < 2 ^ 32 → HasLimbs r rd ta w → HasBits r rd tb y
      → Vanish r rd (xor_shift_trees r ta tb tc 0) ↔ HasBits r rd tc (bit_xor y w)
  masked_means ta tb tc w y lw ly ha hb =
      let same : bits_word (bit_at y) ≡ y = word_of_bits y ly in
      let means = xor_shift_means r inv order canonical P at at_ext o ta tb tc (bit_at y) 0 (λ k lt. bit_at-lt y k) hb in
      let W = bit_xor y w in
      let W_word : W < 2 ^ 32 = xor_lt 32 y w ly lw in (
        λ v.
            let x : IsXorShift r rd ta (bit_at y) tc 0 = means.0 v in
            let c = bits_word x.c in
            let c_word : c < 2 ^ 32 = bits_below x.c x.c_bits in
            let e : bit_xor (bits_word (bit_at y)) (rotate_left w32 c 0) ≡ bit_xor y c = cc (same, not_turned c c_word) in
            let is : bit_xor y c ≡ w = same_word r inv order canonical P o at at_ext ta (bit_xor y c) w (xor_lt 32 y c ly c_word) lw (subst (HasLimbs r rd ta) e x.a_values) ha in
            let f : c ≡ W = sym (xor_twice y c) ∙ ap (bit_xor y) is in
            λ k lt. x.c_values k lt ∙ ap (of_nat r) (sym (bit_of_bits x.c x.c_bits k lt) ∙ ap (λ n. bit_at n k) f),
        λ h.
            let whole : bit_xor (bits_word (bit_at y)) (rotate_left w32 (bits_word (bit_at W)) 0) ≡ w =
            ap (λ n. bit_xor n (rotate_left w32 (bits_word (bit_at W)) 0)) same
            ∙ (ap (λ n. bit_xor y (rotate_left w32 n 0)) (word_of_bits W W_word) ∙ (ap (bit_xor y) (not_turned W W_word) ∙ xor_twice y w)) in
            means.1 (record { c = bit_at W; c_bits = λ k lt. bit_at-lt W k; c_values = h; a_values = subst (HasLimbs r rd ta) (sym whole) ha }),
      )

  -- the chaining words
  chain_low : (x : Input) → RepresentsInput r rd x → (i : ℕ) → i < 4 → HasBits r rd (from_column (512 + 32 * i)) (chaining x i)
  chain_low x h i lt =
      let e : 32 * (16 + i) ≡ 512 + 32 * i = omega arith in
      subst (λ j. HasBits r rd (from_column j) (chaining x i)) e (h (16 + i) (omega (arith, lt)))

  chain_high : (x : Input) → RepresentsInput r rd x → (i : ℕ) → i < 4 → HasBits r rd (from_column (640 + 32 * i)) (chaining x (4 + i))
  chain_high x h i lt =
      let e : 32 * (16 + (4 + i)) ≡ 640 + 32 * i = omega arith in
      subst (λ j. HasBits r rd (from_column j) (chaining x (4 + i))) e (h (16 + (4 + i)) (omega (arith, lt)))

  lasts : (x : Input) → RepresentsInput r rd x → (i : ℕ) → i < 4 → HasBits r rd (from_column (768 + 32 * i)) (x (24 + i))
  lasts x h i lt =
      let e : 32 * (24 + i) ≡ 768 + 32 * i = omega arith in
      subst (λ j. HasBits r rd (from_column j) (x (24 + i))) e (h (24 + i) (omega (arith, lt)))

  -- limbs that equal packed bits of words
  limbs_mean : (column limbs : ℕ) (w : ℕ → ℕ) → ((i : ℕ) → i < 4 → w i < 2 ^ 32) → ((i : ℕ) → i < 4 → HasBits r rd (from_column (column + 32 * i)) (w i))
      → Vanish r rd (limbs_trees r column limbs) ↔ ((i : ℕ) → i < 4 → HasLimbs r rd (from_column (limbs + 2 * i)) (w i))
  limbs_mean column limbs w lw h =
      let packed : (i : ℕ) → i < 4 → HasLimbs r rd (packed_limbs r (from_column (column + 32 * i))) (w i) = λ i lt.
      packed_word r inv order canonical P o at at_ext (from_column (column + 32 * i)) (w i) (lw i lt) (h i lt) in (
        λ v i lt k lk. sym (limbs_of_zeros r inv order canonical P o at at_ext column limbs v i k lt lk) ∙ packed i lt k lk,
        λ s. zeros_of_limbs r inv order canonical P o at at_ext column limbs (λ i k lt lk. packed i lt k lk ∙ sym (s i lt k lk)),
      )

  -- the first state
  first_means : (x : Input) → AreWords x → RepresentsInput r rd x
      → (Vanish r rd (limbs_trees r 512 896) × Vanish r rd (iv_trees r 904)) ↔ RepresentsState r rd (place_of 0) (first_state x)
  first_means x wx hx =
      let limbs = limbs_mean 512 896 (chaining x) (λ i lt. wx (16 + i) (omega (arith, lt))) (chain_low x hx) in
      let ivs = iv_means r inv order canonical P o at at_ext 904 in (
        λ p. record { limbs0 = limbs.0 p.0; bits1 = chain_high x hx; limbs2 = ivs.0 p.1; bits3 = lasts x hx },
        λ s. (limbs.1 s.limbs0, ivs.1 s.limbs2),
      )

  -- the constraints, part by part
  record Parts : Type 0 where
    bits : Vanish r rd (bits_trees r 0 896)
    limbs : Vanish r rd (limbs_trees r 512 896)
    ivs : Vanish r rd (iv_trees r 904)
    rounds : Vanish r rd (rounds_trees r)
    helpers : Vanish r rd (limbs_trees r 8528 8392)
    outputs : Vanish r rd (bits_trees r 8656 128)
    masked : Vanish r rd (masked_trees r 8256 8656 8528)
    second : Vanish r rd (xor_trees r 8784 8264 8400)
    third : Vanish r rd (xor_trees r 8912 512 8528)
    fourth : Vanish r rd (xor_trees r 9040 640 8400)

  first_parts : Vanish r rd (first_trees r) ↔ (Vanish r rd (bits_trees r 0 896) × Vanish r rd (limbs_trees r 512 896) × Vanish r rd (iv_trees r 904))
  unfolding first_trees
  first_parts =
      let a = bits_trees r 0 896 in
      let b = limbs_trees r 512 896 in
      let c = iv_trees r 904 in (
        λ v. let u = all_left Zero (a ++ b) c v in (all_left Zero a b u, all_right Zero a b u, all_right Zero (a ++ b) c v),
        λ p. All-append Zero (a ++ b) c (All-append Zero a b p.0 p.1) p.2,
      )

  last_parts : Vanish r rd (last_trees r)
      ↔ (Vanish r rd (limbs_trees r 8528 8392) × Vanish r rd (bits_trees r 8656 128) × Vanish r rd (masked_trees r 8256 8656 8528)
      × Vanish r rd (xor_trees r 8784 8264 8400) × Vanish r rd (xor_trees r 8912 512 8528) × Vanish r rd (xor_trees r 9040 640 8400))
  unfolding last_trees first_output_trees other_output_trees
  last_parts =
      let a = limbs_trees r 8528 8392 in
      let b = bits_trees r 8656 128 in
      let c = masked_trees r 8256 8656 8528 in
      let d = xor_trees r 8784 8264 8400 in
      let e = xor_trees r 8912 512 8528 in
      let f = xor_trees r 9040 640 8400 in
      let p = a ++ b in
      let q = d ++ e in (
        λ v.
            let u = all_left Zero (p ++ c) (q ++ f) v in
            let w = all_right Zero (p ++ c) (q ++ f) v in
            let vp = all_left Zero p c u in
            let vq = all_left Zero q f w in
            (all_left Zero a b vp, all_right Zero a b vp, all_right Zero p c u, all_left Zero d e vq, all_right Zero d e vq, all_right Zero q f w),
        λ p'.
            All-append Zero (p ++ c) (q ++ f) (All-append Zero p c (All-append Zero a b p'.0 p'.1) p'.2)
            (All-append Zero q f (All-append Zero d e p'.3 p'.4) p'.5),
      )

  parts : Vanish r rd (blake3_trees r) ↔ Parts
  unfolding blake3_trees
  parts =
      let a = first_trees r in
      let b = rounds_trees r in
      let c = last_trees r in (
        λ v.
            let u = all_left Zero (a ++ b) c v in
            let p = first_parts.0 (all_left Zero a b u) in
            let q = last_parts.0 (all_right Zero (a ++ b) c v) in
            record {
              bits = p.0;
              limbs = p.1;
              ivs = p.2;
              rounds = all_right Zero a b u;
              helpers = q.0;
              outputs = q.1;
              masked = q.2;
              second = q.3;
              third = q.4;
              fourth = q.5;
            },
        λ p.
            All-append Zero (a ++ b) c (All-append Zero a b (first_parts.1 (p.bits, p.limbs, p.ivs)) p.rounds)
            (last_parts.1 (p.helpers, p.outputs, p.masked, p.second, p.third, p.fourth)),
      )

  -- the first four words of the output, and the helpers
  record Masked (x : Input) : Type 0 where
    helper : (i : ℕ) → i < 4 → HasBits r rd (from_column (8528 + 32 * i)) (state x 28 2 i)
    output : (i : ℕ) → i < 4 → HasBits r rd (from_column (8656 + 32 * i)) (bit_xor (state x 28 0 i) (state x 28 2 i))

  masked : (x : Input) → AreWords x → RepresentsState r rd (place_of 28) (state x 28)
      → (Vanish r rd (limbs_trees r 8528 8392) × Vanish r rd (bits_trees r 8656 128) × Vanish r rd (masked_trees r 8256 8656 8528)) ↔ Masked x
  unfolding masked_trees
  masked x wx last =
      let v = state x 28 in
      let wv = state_words x wx 28 in
      let ts : ℕ → List (Tree A) = λ i. xor_shift_trees r (from_column (8256 + 2 * i)) (from_column (8656 + 32 * i)) (from_column (8528 + 32 * i)) 0 in (
        λ p.
            let y : ℕ → ℕ = λ i. word_at r inv order canonical P o at at_ext (8656 + 32 * i) in
            let out = words_of_zeros r inv order canonical P o at at_ext 8656 4 p.1 in
            let mask : (i : ℕ) → i < 4 → HasBits r rd (from_column (8528 + 32 * i)) (bit_xor (y i) (v 0 i)) = λ i lt.
            (masked_means (from_column (8256 + 2 * i)) (from_column (8656 + 32 * i)) (from_column (8528 + 32 * i)) (v 0 i) (y i) (wv 0 i lt) (out i lt).0 (last.limbs0 i lt) (out i lt).1).0
            (all_of_joined Zero 4 ts p.2 i lt) in
            let word : (i : ℕ) → i < 4 → bit_xor (y i) (v 0 i) < 2 ^ 32 = λ i lt. xor_lt 32 (y i) (v 0 i) (out i lt).0 (wv 0 i lt) in
            let limbs = (limbs_mean 8528 8392 (λ i. bit_xor (y i) (v 0 i)) word mask).0 p.0 in
            let is : (i : ℕ) → i < 4 → bit_xor (y i) (v 0 i) ≡ v 2 i = λ i lt.
            same_word r inv order canonical P o at at_ext (from_column (8392 + 2 * i)) (bit_xor (y i) (v 0 i)) (v 2 i) (word i lt) (wv 2 i lt) (limbs i lt) (last.limbs2 i lt) in
            record {
              helper = λ i lt. subst (HasBits r rd (from_column (8528 + 32 * i))) (is i lt) (mask i lt);
              output = λ i lt.
                  let e : y i ≡ bit_xor (v 0 i) (v 2 i) =
                  sym (xor_twice (v 0 i) (y i)) ∙ ap (bit_xor (v 0 i)) (xor_comm (v 0 i) (y i) ∙ is i lt) in
                  subst (HasBits r rd (from_column (8656 + 32 * i))) e (out i lt).1;
            },
        λ m.
            let limbs = (limbs_mean 8528 8392 (v 2) (wv 2) m.helper).1 last.limbs2 in
            let outs = zeros_of_words r inv order canonical P o at at_ext 8656 4 (λ i. bit_xor (v 0 i) (v 2 i)) m.output in
            let ones : (i : ℕ) → i < 4 → Vanish r rd (ts i) = λ i lt.
            let y = bit_xor (v 0 i) (v 2 i) in
            let e : bit_xor y (v 0 i) ≡ v 2 i = xor_comm y (v 0 i) ∙ xor_twice (v 0 i) (v 2 i) in
            (masked_means (from_column (8256 + 2 * i)) (from_column (8656 + 32 * i)) (from_column (8528 + 32 * i)) (v 0 i) y (wv 0 i lt) (xor_lt 32 (v 0 i) (v 2 i) (wv 0 i lt) (wv 2 i lt)) (last.limbs0 i lt) (m.output i lt)).1
            (subst (HasBits r rd (from_column (8528 + 32 * i))) (sym e) (m.helper i lt)) in
            (limbs, outs, all_joined Zero 4 ts ones),
      )

  -- the input whose bits stand in the row
  abbrev pub input_at : Input
  input_at i = word_at r inv order canonical P o at at_ext (32 * i)

  input_stands : Vanish r rd (bits_trees r 0 896) → AreWords input_at × RepresentsInput r rd input_at
  input_stands v =
      let each = words_of_zeros r inv order canonical P o at at_ext 0 28 v in
      let e : (i : ℕ) → 0 + 32 * i ≡ 32 * i = λ i. omega arith in (
        λ i lt. subst (λ j. word_at r inv order canonical P o at at_ext j < 2 ^ 32) (e i) (each i lt).0,
        λ i lt. subst (λ j. HasBits r rd (from_column j) (word_at r inv order canonical P o at at_ext j)) (e i) (each i lt).1,
      )

  -- the exclusive or of two words, in either order
  exchanged : (column a b : ℕ) → HasBits r rd (from_column column) (bit_xor a b) → HasBits r rd (from_column column) (bit_xor b a)
  exchanged column a b h = subst (HasBits r rd (from_column column)) (xor_comm a b) h

  row_stands : Parts → (x : Input) → AreWords x → RepresentsInput r rd x → RepresentsRow r rd x
  row_stands p x wx hx =
      let first = (first_means x wx hx).0 (p.limbs, p.ivs) in
      let states = (rounds_mean r inv order canonical P o at at_ext x wx hx first).0 p.rounds in
      let last = states 28 (omega arith) in
      let m = (masked x wx last).0 (p.helpers, p.outputs, p.masked) in
      let v = state x 28 in
      record {
        input = hx;
        states = states;
        helpers = m.helper;
        outputs = four (λ k i. HasBits r rd (from_column (8656 + 128 * k + 32 * i)) (output_of x v k i)) m.output
            ((xor_means r inv order canonical P o at at_ext 8784 8264 8400 (v 1) (v 3) last.bits1 last.bits3).0 p.second)
            (λ i lt. exchanged (8912 + 32 * i) (chaining x i) (v 2 i) ((xor_means r inv order canonical P o at at_ext 8912 512 8528 (chaining x) (v 2) (chain_low x hx) m.helper).0 p.third i lt))
            (λ i lt. exchanged (9040 + 32 * i) (chaining x (4 + i)) (v 3 i) ((xor_means r inv order canonical P o at at_ext 9040 640 8400 (λ i. chaining x (4 + i)) (v 3) (chain_high x hx) last.bits3).0 p.fourth i lt));
      }

  -- the state before the rounds is the first one
  start : (x : Input) → RepresentsRow r rd x → RepresentsState r rd (place_of 0) (first_state x)
  unfolding state
  start x s = s.states 0 (omega arith)

  parts_vanish : (x : Input) → AreWords x → RepresentsRow r rd x → Parts
  parts_vanish x wx s =
      let hx = s.input in
      let v = state x 28 in
      let last = s.states 28 (omega arith) in
      let e : (i : ℕ) → 32 * i ≡ 0 + 32 * i = λ i. omega arith in
      let first = (first_means x wx hx).1 (start x s) in
      let m = (masked x wx last).1 (record { helper = s.helpers; output = λ i lt. s.outputs 0 i (lit< tt) lt }) in
      record {
        bits = zeros_of_words r inv order canonical P o at at_ext 0 28 x (λ i lt. subst (λ j. HasBits r rd (from_column j) (x i)) (e i) (hx i lt));
        limbs = first.0;
        ivs = first.1;
        rounds = (rounds_mean r inv order canonical P o at at_ext x wx hx (start x s)).1 s.states;
        helpers = m.0;
        outputs = m.1;
        masked = m.2;
        second = (xor_means r inv order canonical P o at at_ext 8784 8264 8400 (v 1) (v 3) last.bits1 last.bits3).1 (λ i lt. s.outputs 1 i (lit< tt) lt);
        third = (xor_means r inv order canonical P o at at_ext 8912 512 8528 (chaining x) (v 2) (chain_low x hx) s.helpers).1 (λ i lt. exchanged (8912 + 32 * i) (v 2 i) (chaining x i) (s.outputs 2 i (lit< tt) lt));
        fourth = (xor_means r inv order canonical P o at at_ext 9040 640 8400 (λ i. chaining x (4 + i)) (v 3) (chain_high x hx) last.bits3).1 (λ i lt. exchanged (9040 + 32 * i) (v 3 i) (chaining x (4 + i)) (s.outputs 3 i (lit< tt) lt));
      }

  pub cells_mean : CellsMean r rd
  cells_mean = (
    λ v.
        let p = parts.0 v in
        let i = input_stands p.bits in
        (input_at, i.0, row_stands p input_at i.0 i.1),
    λ s. parts.1 (parts_vanish s.0 s.1 s.2),
  )
