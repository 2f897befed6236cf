use Rattle.std.proofs.Common.{◌≡◌, ℕ, ◌+◌, ◌%◌, ◌/◌, ◌^◌, ◌<◌, length, get_or, refl, sym, ◌∙◌, ap, arith, length-set}
use Rattle.std.specs.Prelude.{bit_xor}
use Rattle.std.specs.Int.{bit_at}
use Rattle.std.proofs.lemmas.Nat.Bits.{bit_at-zero}
use Rattle.blake3_packed.specs.Lanes.{ArePlanes}
use Rattle.blake3_packed.specs.Laws.Written.{written, unwritten}
use Rattle.blake3_packed.specs.Laws.Planes.{sum_bit, carry_bit, bit_of_sum_here, next_carry, no_carry}
use Rattle.blake3_packed.proofs.planes.add_planes.Goals as goal

pub loop-k-init : goal.loop-k-init
loop-k-init c = record {
  long = omega arith;
  rest = λ k le. refl;
  carried = λ v w p q j lj. bit_at-zero j ∙ sym (no_carry (v j) (w j));
  so_far = λ v w p q j k lj lk. absurd (omega (arith, lk));
}

pub loop-k-preserved : goal.loop-k-preserved
loop-k-preserved c =
    let I = c.loop-k.invariant in
    let n = c.loop-k.k in
    let xs = c.loop-k.x in
    let a = get_or xs n 0 in
    let b = get_or c.args.y.now n 0 in
    let k = c.loop-k.carry in
    let low : n < 32 = omega arith in
    let inside : n < length xs = omega (arith, I.long) in
    let new = bit_xor (bit_xor a b) k in
    let step = λ (v : ℕ → ℕ) (w : ℕ → ℕ) (p : ArePlanes c.args.x.now v) (q : ArePlanes c.args.y.now w) (f : ℕ → ℕ) (j : ℕ) (lj : j < 64).
    ap f (
    ap (λ m. m + bit_at b j + bit_at k j) (ap (λ m. bit_at m j) (I.rest n (omega arith)) ∙ p.bits j n lj low)
    ∙ (ap (λ m. bit_at (v j) n + m + bit_at k j) (q.bits j n lj low)
    ∙ ap (λ m. bit_at (v j) n + bit_at (w j) n + m) (I.carried v w p q j lj))) in
    record {
      long = length-set xs n new ∙ I.long;
      rest = unwritten xs c.args.x.now n new I.rest;
      carried = λ v w p q j lj. carry_bit a b k j ∙ (step v w p q (λ m. m / 2) j lj ∙ next_carry (v j) (w j) n);
      so_far = λ v w p q j i lj li.
          written (λ i y. (j : ℕ) → j < 64 → bit_at y j ≡ bit_at ((v j + w j) % 2 ^ 32) i) xs n new inside
          (λ j lj. sum_bit a b k j ∙ (step v w p q (λ m. m % 2) j lj ∙ bit_of_sum_here (v j) (w j) n low))
          (λ i li j lj. I.so_far v w p q j i lj li) i li j lj;
    }
