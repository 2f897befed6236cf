use Rattle.std.proofs.Common.{◌≡◌, ℕ, ◌+◌, ◌%◌, ◌/◌, ◌^◌, ◌<◌, length, get_or, refl, sym, ◌∙◌, ap, arith, lit<, length-set}
use Rattle.std.specs.Prelude.{bit_xor}
use Rattle.std.specs.Int.{bit_at}
use Rattle.std.proofs.lemmas.Nat.{mod_below}
use Rattle.std.proofs.lemmas.Nat.Bits.{bit_at-zero}
use Rattle.blake3_binary.specs.Sums.{carry}
use Rattle.blake3_packed.specs.Lanes.{ArePlanes}
use Rattle.blake3_packed.specs.Laws.Written.{written, unwritten}
use Rattle.blake3_packed.specs.Laws.Planes.{sum_bit, carry_bit, bit_of_sum_here, next_carry, no_carry, sum_of_three}
use Rattle.blake3_packed.proofs.planes.add_two_planes.Goals as goal

pub loop-k-init : goal.loop-k-init
loop-k-init c = record {
  long = omega arith;
  carries_long = omega arith;
  rest = λ k le. refl;
  first_carried = λ v w p q j lj. bit_at-zero j ∙ sym (no_carry (v j) (w j));
  second_carried = λ v w u p q r j lj. bit_at-zero j ∙ sym (no_carry ((v j + w j) % 2 ^ 32) (u j));
  carries_so_far = λ v w p q j k lj lk. absurd (omega (arith, lk));
  so_far = λ v w u p q r j k lj lk. absurd (omega (arith, lk));
}

pub loop-k-preserved : goal.loop-k-preserved
loop-k-preserved c =
    let I = c.loop-k.invariant in
    let n = c.loop-k.k in
    let xs = c.loop-k.x in
    let ks = c.loop-k.carries in
    let a = get_or xs n 0 in
    let b = get_or c.args.y.now n 0 in
    let d = get_or c.args.z.now n 0 in
    let k = c.loop-k.first in
    let h = c.loop-k.second in
    let low : n < 32 = omega arith in
    let inside : n < length xs = omega (arith, I.long) in
    let within : n < length ks = omega (arith, I.carries_long) in
    let sum = bit_xor (bit_xor a b) k in
    let new = bit_xor (bit_xor sum d) h in
    let first = λ (v : ℕ → ℕ) (w : ℕ → ℕ) (p : ArePlanes c.args.x.now v) (q : ArePlanes c.args.y.now w) (f : ℕ → ℕ) (j : ℕ) (lj : j < 64).
    ap f (
    ap (λ m. m + bit_at b j + bit_at k j) (ap (λ m. bit_at m j) (I.rest n (omega arith)) ∙ p.bits j n lj low)
    ∙ (ap (λ m. bit_at (v j) n + m + bit_at k j) (q.bits j n lj low)
    ∙ ap (λ m. bit_at (v j) n + bit_at (w j) n + m) (I.first_carried v w p q j lj))) in
    let sum_is = λ (v : ℕ → ℕ) (w : ℕ → ℕ) (p : ArePlanes c.args.x.now v) (q : ArePlanes c.args.y.now w) (j : ℕ) (lj : j < 64).
    sum_bit a b k j ∙ (first v w p q (λ m. m % 2) j lj ∙ bit_of_sum_here (v j) (w j) n low) in
    let second = λ (v : ℕ → ℕ) (w : ℕ → ℕ) (u : ℕ → ℕ) (p : ArePlanes c.args.x.now v) (q : ArePlanes c.args.y.now w) (r : ArePlanes c.args.z.now u) (f : ℕ → ℕ) (j : ℕ) (lj : j < 64).
    ap f (
    ap (λ m. m + bit_at d j + bit_at h j) (sum_is v w p q j lj)
    ∙ (ap (λ m. bit_at ((v j + w j) % 2 ^ 32) n + m + bit_at h j) (r.bits j n lj low)
    ∙ ap (λ m. bit_at ((v j + w j) % 2 ^ 32) n + bit_at (u j) n + m) (I.second_carried v w u p q r j lj))) in
    record {
      long = length-set xs n new ∙ I.long;
      carries_long = length-set ks n k ∙ I.carries_long;
      rest = unwritten xs c.args.x.now n new I.rest;
      first_carried = λ v w p q j lj. carry_bit a b k j ∙ (first v w p q (λ m. m / 2) j lj ∙ next_carry (v j) (w j) n);
      second_carried = λ v w u p q r j lj. carry_bit sum d h j ∙ (second v w u p q r (λ m. m / 2) j lj ∙ next_carry ((v j + w j) % 2 ^ 32) (u j) n);
      carries_so_far = λ v w p q j i lj li.
          written (λ i y. (j : ℕ) → j < 64 → bit_at y j ≡ carry (v j) (w j) i) ks n k within
          (λ j lj. I.first_carried v w p q j lj)
          (λ i li j lj. I.carries_so_far v w p q j i lj li) i li j lj;
      so_far = λ v w u p q r j i lj li.
          written (λ i y. (j : ℕ) → j < 64 → bit_at y j ≡ bit_at (((v j + w j) % 2 ^ 32 + u j) % 2 ^ 32) i) xs n new inside
          (λ j lj. sum_bit sum d h j ∙ (second v w u p q r (λ m. m % 2) j lj ∙ bit_of_sum_here ((v j + w j) % 2 ^ 32) (u j) n low))
          (λ i li j lj. I.so_far v w u p q r j i lj li) i li j lj;
    }

pub returns : goal.returns
returns c v w u p q r =
    let I = c.loop-k.invariant in (
      record {
        long = I.long;
        below = λ j lj. mod_below (v j + w j + u j) (2 ^ 32) (lit< tt);
        bits = λ j k lj lk. I.so_far v w u p q r j k lj (omega (arith, lk)) ∙ ap (λ m. bit_at m k) (sum_of_three (v j) (w j) (u j));
      },
      record {
        long = I.carries_long;
        bits = λ j k lj lk. I.carries_so_far v w p q j k lj (omega (arith, lk));
      },
    )
