use Rattle.std.proofs.Common.{◌≡◌, ℕ, zero, suc, ◌+◌, ◌-◌, ◌*◌, ◌/◌, ◌%◌, ◌^◌, ◌<◌, ◌≤◌, ◌↔◌, List, length, get_or, sym, ◌∙◌, ap, subst, arith}
use Rattle.std.specs.Int.{bit_at}
use Rattle.std.proofs.lemmas.Nat.{shr-shr, shr_le}
use Rattle.std.proofs.lemmas.List.{get_or_default}
use Rattle.std.proofs.lemmas.Nat.Bits.{bit_at-lt, bit_at_lowest, bit_at-suc}
use Rattle.air_gadgets.specs.Laws.Words.{bit_of_low}
use Rattle.blake3_compress.proofs.reading.word_at.Goals as goal

above : (w n : ℕ) → w < 2 ^ 32 → n ≡ 32 → 0 ≡ w / 2 ^ n
above w n lt e = let f : 0 ≡ w / 2 ^ 32 = omega (arith, lt) in f ∙ ap (λ m. w / 2 ^ m) (sym e)

one_bit : (w v b n m k : ℕ) → w < 2 ^ 32 → v ≡ w / 2 ^ n → b ≡ bit_at w k → n ≡ k + 1 → m ≡ k → v % 2147483648 * 2 + b ≡ w / 2 ^ m
one_bit w v b n m k lt e f p q =
    let x = w / 2 ^ k in
    let small : x ≤ w = shr_le w k in
    let half : w / 2 ^ n ≡ x / 2 = ap (λ j. w / 2 ^ j) p ∙ sym (shr-shr w k 1) in
    let last : b ≡ x % 2 = f in
    let now : v % 2147483648 * 2 + b ≡ x = omega (arith, small, lt, e, half, last) in
    now ∙ ap (λ j. w / 2 ^ j) (sym q)

-- the same by other names
named : {F : Type 0} (z : F) (row : List F) (m n p q : ℕ) (d e : F) → m ≡ n → p ≡ q → q < length row → ((n ≡ 0) ↔ (get_or row q e ≡ z)) → (m ≡ 0) ↔ (get_or row p d ≡ z)
named z row m n p q d e same there inside h =
    let cell : get_or row p d ≡ get_or row q e = ap (λ j. get_or row j d) there ∙ get_or_default row q d e inside in
    (λ f. cell ∙ h.0 (sym same ∙ f), λ f. same ∙ h.1 (sym cell ∙ f))

lowest : (v b : ℕ) → b < 2 → bit_at (v % 2147483648 * 2 + b) 0 ≡ b
lowest v b lt = bit_at_lowest (v % 2147483648 * 2 + b) ∙ omega (arith, lt)

shifted : (v b k : ℕ) → b < 2 → k < 31 → bit_at (v % 2147483648 * 2 + b) (suc k) ≡ bit_at v k
shifted v b k lt lk =
    let half : (v % 2147483648 * 2 + b) / 2 ≡ v % 2147483648 = omega (arith, lt) in
    bit_at-suc (v % 2147483648 * 2 + b) k ∙ (ap (λ n. bit_at n k) half ∙ bit_of_low v 31 k lk)

next_counted : {F : Type 0} (z : F) (row : List F) (at v b i : ℕ) (e : F) → i < 32 → at + 32 ≤ length row → b < 2
    → ((b ≡ 0) ↔ (get_or row (at + (31 - i)) e ≡ z))
    → ((k : ℕ) (d : F) → k < i → (bit_at v k ≡ 0) ↔ (get_or row (at + (32 - i + k)) d ≡ z))
    → (k : ℕ) (d : F) → k < i + 1 → (bit_at (v % 2147483648 * 2 + b) k ≡ 0) ↔ (get_or row (at + (32 - (i + 1) + k)) d ≡ z)
next_counted z row at v b i e li fits lb here h zero d lt =
    named z row _ b _ (at + (31 - i)) d e (lowest v b lb) (omega (arith, li)) (omega (arith, li, fits)) here
next_counted z row at v b i e li fits lb here h (suc k) d lt =
    named z row _ (bit_at v k) _ (at + (32 - i + k)) d d (shifted v b k lb (omega (arith, li, lt))) (omega (arith, li, lt)) (omega (arith, li, lt, fits)) (h k d (omega (arith, lt)))

-- by what the cell that was read is
of_read : {F : Type 0} (z x y : F) (b : ℕ) → x ≡ y → ((b ≡ 0) ↔ (x ≡ z)) → (b ≡ 0) ↔ (y ≡ z)
of_read z x y b e h = (λ f. sym e ∙ h.0 f, λ f. h.1 (e ∙ f))

pub loop-i-init : goal.loop-i-init
loop-i-init g c = record {
  counted = λ k d lt. absurd (omega (arith, lt));
  word = λ w lt h. above w (32 - 0) lt (omega arith);
}

pub loop-i-preserved : goal.loop-i-preserved
loop-i-preserved g c =
    let i = c.loop-i.i in
    let x = c.index-row-at.result in
    let b = c.bit_of.result in
    record {
      counted = λ k d lt.
          next_counted g.F.RingCore.ring.zero c.args.row.now c.args.at c.loop-i.word b i x (omega arith) c.requires.fits c.bit_of.ensures.below
          (of_read g.F.RingCore.ring.zero x _ b c.index-row-at.is c.bit_of.ensures.zero)
          c.loop-i.invariant.counted k d (omega (arith, lt));
      word = λ w lt h.
          let k = 31 - i in
          one_bit w c.loop-i.word _ (32 - i) _ k lt (c.loop-i.invariant.word w lt h)
          (c.bit_of.ensures.bit (bit_at w k) (bit_at-lt w k) (c.index-row-at.is ∙ h k c.index-row-at.result (omega arith)))
          (omega arith) (omega arith);
    }

pub returns : goal.returns
returns g c =
    let e : 32 - c.loop-i.i ≡ 0 = omega arith in
    record {
      counted = (
        omega arith,
        λ k d lt.
            let there : 32 - c.loop-i.i + k ≡ k = omega arith in
            let h = c.loop-i.invariant.counted k d (omega (arith, lt)) in
            subst (λ j. (bit_at c.loop-i.word k ≡ 0) ↔ (get_or c.args.row.now (c.args.at + j) d ≡ g.F.RingCore.ring.zero)) there h,
      );
      word = λ w h. let lt : w < 2 ^ 32 = h.0 in c.loop-i.invariant.word w lt h.1 ∙ (ap (λ n. w / 2 ^ n) e ∙ omega arith);
    }
