-- The law of one step, over each prime field of more than 2^20 elements.
use Rattle.std.proofs.Common.{◌≡◌, ℕ, zero, suc, ◌+◌, ◌%◌, ◌^◌, ◌<◌, ◌++◌, List, sym, ◌∙◌, ap, subst, arith, lit<}
use Rattle.std.specs.Prelude.{bit_xor, ◌↔◌}
use Rattle.std.specs.Int.{rotate_left, rotate_right, bit_at, w32}
use Rattle.std.proofs.lemmas.Nat.{xor_lt, mod_below}
use Rattle.std.proofs.lemmas.Nat.Bits.{bit_at-lt}
use Rattle.std.proofs.lemmas.List.Elements.{All-append}
use Rattle.p3_field.specs.Ring.{Ring, of_nat}
use Rattle.air_core.specs.declared.cells.Cell.{Cell}
use Rattle.air_core.specs.declared.cells.ExtCell.{ExtCell}
use Rattle.air_core.specs.Tree.{Tree, Reading, eval_tree}
use Rattle.air_gadgets.specs.Gadgets.{add2_trees, add3_trees, xor_shift_trees}
use Rattle.air_gadgets.specs.Words.{PrimeFieldLaws, cells_reading, Vanish, AreBits, limb, limbs_word, bits_word, IsXorShift}
use Rattle.air_gadgets.specs.Laws.Words.{word_of_bits}
use Rattle.air_gadgets.specs.Laws.Gadgets.{add2_means, add3_means, xor_shift_means, packed_value}
use Rattle.air_gadgets.specs.Laws.Words.{low_limb, high_limb}
use Rattle.blake3_compress.specs.Compress.{Quarter, half_quarter_round, half_a, half_b, half_c, half_d}
use Rattle.blake3_prime.specs.Trees.{packed_limbs, half_trees}
use Rattle.blake3_prime.specs.Meanings.{HasBits, HasLimbs, Represent4, AreWords4, HalfMeans, StepMeans}
use Rattle.air_core.specs.Laws.Lists.{all_left, all_right}
use Rattle.air_gadgets.specs.Laws.Words.{rotated_below}
use Rattle.blake3_compress.specs.Laws.Words.{right_below, turned_back, turned_there, word_of_limbs, limbs_below, bit_of_bits, bits_below}

-- the words after half a step are words
pub half_words : (s t : ℕ) (q : Quarter) (x : ℕ) → AreWords4 q → AreWords4 (half_quarter_round s t q x)
unfolding half_a half_b half_c half_d
half_words s t q x Q =
    let S = half_a q x in
    let D = half_d s q x in
    let C = half_c s q x in
    let S_word : S < 2 ^ 32 = mod_below (q.a + q.b + x) (2 ^ 32) (lit< tt) in
    let C_word : C < 2 ^ 32 = mod_below (q.c + D) (2 ^ 32) (lit< tt) in
    record {
      a_word = S_word;
      b_word = right_below (bit_xor q.b C) t (xor_lt 32 q.b C Q.b_word C_word);
      c_word = C_word;
      d_word = right_below (bit_xor q.d S) s (xor_lt 32 q.d S Q.d_word S_word);
    }

module _ {A : Type 0} (r : Ring A) (inv : A → A) (order : ℕ) (canonical : A → ℕ) (P : PrimeFieldLaws r inv order canonical) (o : 2 ^ 20 < order) (at : Cell → A) (at_ext : ExtCell → A) where
  abbrev rd : Reading A A
  rd = cells_reading r at at_ext

  abbrev Zero : Tree A → Type 0
  Zero v = eval_tree rd v ≡ r.zero

  -- the packed limbs of bits are those of the word
  pub packed_word : (t : ℕ → Tree A) (w : ℕ) → w < 2 ^ 32 → HasBits r rd t w → HasLimbs r rd (packed_limbs r t) w
  packed_word t w b h zero lt =
      packed_value r inv order canonical P at at_ext t (bit_at w) 0 16 (λ i a l. h i (omega (arith, l)))
      ∙ ap (of_nat r) (sym (low_limb (bit_at w) (λ i a l. bit_at-lt w i)) ∙ ap (λ n. limb n 0) (word_of_bits w b))
  packed_word t w b h (suc zero) lt =
      packed_value r inv order canonical P at at_ext t (bit_at w) 16 16 (λ i a l. h i (omega (arith, l)))
      ∙ ap (of_nat r) (sym (high_limb (bit_at w) (λ i a l. bit_at-lt w i)) ∙ ap (λ n. limb n 1) (word_of_bits w b))
  packed_word t w b h (suc (suc k)) lt = absurd (omega (arith, lt))

  -- the trees of a sum, then those of an exclusive or that turns the sum back
  turn_means : (s : ℕ) (ta td te : ℕ → Tree A) (adds : List (Tree A)) (d S : ℕ) → d < 2 ^ 32 → S < 2 ^ 32 → HasBits r rd td d
      → ((w : ℕ) → w < 2 ^ 32 → HasLimbs r rd ta w → Vanish r rd adds ↔ (w ≡ S))
      → Vanish r rd (adds ++ xor_shift_trees r ta td te s) ↔ (HasLimbs r rd ta S × HasBits r rd te (rotate_right w32 (bit_xor d S) s))
  turn_means s ta td te adds d S bd bS hd sums =
      let bits : AreBits (bit_at d) = λ k lt. bit_at-lt d k in
      let same : bits_word (bit_at d) ≡ d = word_of_bits d bd in
      let means = xor_shift_means r inv order canonical P at at_ext o ta td te (bit_at d) s bits hd in
      let xs = xor_shift_trees r ta td te s in
      let W = rotate_right w32 (bit_xor d S) s in (
        λ v.
            let x : IsXorShift r rd ta (bit_at d) te s = means.0 (all_right Zero adds xs v) in
            let w = bits_word x.c in
            let w_small : w < 2 ^ 32 = bits_below x.c x.c_bits in
            let u = bit_xor d (rotate_left w32 w s) in
            let u_small : u < 2 ^ 32 = xor_lt 32 d (rotate_left w32 w s) bd (rotated_below w s w_small) in
            let at_u : HasLimbs r rd ta u = subst (λ n. HasLimbs r rd ta (bit_xor n (rotate_left w32 w s))) same x.a_values in
            let is : u ≡ S = (sums u u_small at_u).0 (all_left Zero adds xs v) in
            let turned : w ≡ W = turned_back d w S s w_small is in (
              subst (HasLimbs r rd ta) is at_u,
              λ k lt. x.c_values k lt ∙ ap (of_nat r) (sym (bit_of_bits x.c x.c_bits k lt) ∙ ap (λ n. bit_at n k) turned),
            ),
        λ p.
            let W_small : W < 2 ^ 32 = right_below (bit_xor d S) s (xor_lt 32 d S bd bS) in
            let same_W : bits_word (bit_at W) ≡ W = word_of_bits W W_small in
            let there : bit_xor d (rotate_left w32 W s) ≡ S = turned_there d S s bd bS in
            let whole : bit_xor (bits_word (bit_at d)) (rotate_left w32 (bits_word (bit_at W)) s) ≡ S =
            ap (λ n. bit_xor n (rotate_left w32 (bits_word (bit_at W)) s)) same ∙ (ap (λ n. bit_xor d (rotate_left w32 n s)) same_W ∙ there) in
            All-append Zero adds xs ((sums S bS p.0).1 (λ i. S))
            (means.1 (record { c = bit_at W; c_bits = λ k lt. bit_at-lt W k; c_values = p.1; a_values = subst (HasLimbs r rd ta) (sym whole) p.0 })),
      )

  -- sums of words by limbs
  sum2 : (ta tb tc : ℕ → Tree A) (b c : ℕ) → b < 2 ^ 32 → c < 2 ^ 32 → HasLimbs r rd tb b → HasLimbs r rd tc c
      → (w : ℕ) → w < 2 ^ 32 → HasLimbs r rd ta w → Vanish r rd (add2_trees r ta tb tc) ↔ (w ≡ (b + c) % 2 ^ 32)
  sum2 ta tb tc b c lb lc hb hc w lw hw =
      let e = word_of_limbs w lw in
      let sum : (limbs_word (limb b) + limbs_word (limb c)) % 2 ^ 32 ≡ (b + c) % 2 ^ 32 = cc (word_of_limbs b lb, word_of_limbs c lc) in
      let means = add2_means r inv order canonical P at at_ext o ta tb tc (limb w) (limb b) (limb c) (limbs_below w) (limbs_below b) (limbs_below c) hw hb hc in
      (λ v. sym e ∙ (means.0 v ∙ sum), λ h. means.1 (e ∙ (h ∙ sym sum)))

  sum3 : (ta tb tc td : ℕ → Tree A) (b c d : ℕ) → b < 2 ^ 32 → c < 2 ^ 32 → d < 2 ^ 32 → HasLimbs r rd tb b → HasLimbs r rd tc c → HasLimbs r rd td d
      → (w : ℕ) → w < 2 ^ 32 → HasLimbs r rd ta w → Vanish r rd (add3_trees r ta tb tc td) ↔ (w ≡ (b + c + d) % 2 ^ 32)
  sum3 ta tb tc td b c d lb lc ld hb hc hd w lw hw =
      let e = word_of_limbs w lw in
      let sum : (limbs_word (limb b) + limbs_word (limb c) + limbs_word (limb d)) % 2 ^ 32 ≡ (b + c + d) % 2 ^ 32 = cc (word_of_limbs b lb, word_of_limbs c lc, word_of_limbs d ld) in
      let means = add3_means r inv order canonical P at at_ext o ta tb tc td (limb w) (limb b) (limb c) (limb d) (limbs_below w) (limbs_below b) (limbs_below c) (limbs_below d) hw hb hc hd in
      (λ v. sym e ∙ (means.0 v ∙ sum), λ h. means.1 (e ∙ (h ∙ sym sum)))

  pub half_means : HalfMeans r rd
  unfolding half_trees half_a half_b half_c half_d
  half_means s t a b c d m a' b' c' d' q x Q lx h hm =
      let S = half_a q x in
      let D = half_d s q x in
      let C = half_c s q x in
      let S_word : S < 2 ^ 32 = mod_below (q.a + q.b + x) (2 ^ 32) (lit< tt) in
      let D_word : D < 2 ^ 32 = right_below (bit_xor q.d S) s (xor_lt 32 q.d S Q.d_word S_word) in
      let C_word : C < 2 ^ 32 = mod_below (q.c + D) (2 ^ 32) (lit< tt) in
      let first = turn_means s a' d d' (add3_trees r a' a (packed_limbs r b) (packed_limbs r m)) q.d S Q.d_word S_word h.d_bits
      (sum3 a' a (packed_limbs r b) (packed_limbs r m) q.a q.b x Q.a_word Q.b_word lx h.a_limbs (packed_word b q.b Q.b_word h.b_bits) (packed_word m x lx hm)) in
      let second = λ (hd : HasBits r rd d' D).
      turn_means t c' b b' (add2_trees r c' c (packed_limbs r d')) q.b C Q.b_word C_word h.b_bits
      (sum2 c' c (packed_limbs r d') q.c D Q.c_word D_word h.c_limbs (packed_word d' D D_word hd)) in
      let one = add3_trees r a' a (packed_limbs r b) (packed_limbs r m) ++ xor_shift_trees r a' d d' s in
      let two = add2_trees r c' c (packed_limbs r d') ++ xor_shift_trees r c' b b' t in (
        λ v.
            let p = first.0 (all_left Zero one two v) in
            let n = (second p.1).0 (all_right Zero one two v) in
            record { a_limbs = p.0; b_bits = n.1; c_limbs = n.0; d_bits = p.1 },
        λ k. All-append Zero one two (first.1 (k.a_limbs, k.d_bits)) ((second k.d_bits).1 (k.c_limbs, k.b_bits)),
      )

  pub step_means : StepMeans r rd
  step_means a b c d m a' b' c' d' n a'' b'' c'' d'' q x y Q lx ly h hm hn =
      let first = half_means 16 12 a b c d m a' b' c' d' q x Q lx h hm in
      let one = half_trees r 16 12 a b c d m a' b' c' d' in
      let two = half_trees r 8 7 a' b' c' d' n a'' b'' c'' d'' in
      let second = λ (k : Represent4 r rd a' b' c' d' (half_quarter_round 16 12 q x)).
      half_means 8 7 a' b' c' d' n a'' b'' c'' d'' (half_quarter_round 16 12 q x) y (half_words 16 12 q x Q) ly k hn in (
        λ v. let p = first.0 (all_left Zero one two v) in (p, (second p).0 (all_right Zero one two v)),
        λ p. All-append Zero one two (first.1 p.0) ((second p.0).1 p.1),
      )
