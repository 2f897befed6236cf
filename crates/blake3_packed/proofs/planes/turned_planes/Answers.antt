use Rattle.std.proofs.Common.{◌≡◌, ℕ, ◌+◌, ◌%◌, ◌<◌, length, get_or, ◌∙◌, arith, length-set}
use Rattle.std.specs.Prelude.{bit_xor}
use Rattle.std.specs.Int.{bit_at, rotate_right, w32}
use Rattle.blake3_packed.specs.Laws.Written.{written}
use Rattle.blake3_packed.specs.Laws.Planes.{turned_bit, turned_below}
use Rattle.blake3_packed.proofs.planes.turned_planes.Goals as goal

pub loop-k-init : goal.loop-k-init
loop-k-init c = record {
  long = omega arith;
  so_far = λ v w p q j k lj lk. absurd (omega (arith, lk));
}

pub loop-k-preserved : goal.loop-k-preserved
loop-k-preserved c =
    let I = c.loop-k.invariant in
    let n = c.loop-k.k in
    let s = c.args.s in
    let xs = c.loop-k.turned in
    let low : n < 32 = omega arith in
    let at : (n + s) % 32 < 32 = omega arith in
    let inside : n < length xs = omega (arith, I.long) in
    let new = bit_xor (get_or c.args.x.now ((n + s) % 32) 0) (get_or c.args.y.now ((n + s) % 32) 0) in
    record {
      long = length-set xs n new ∙ I.long;
      so_far = λ v w p q j i lj li.
          written (λ i y. (j : ℕ) → j < 64 → bit_at y j ≡ bit_at (rotate_right w32 (bit_xor (v j) (w j)) s) i) xs n new inside
          (λ j lj. turned_bit (get_or c.args.x.now ((n + s) % 32) 0) (get_or c.args.y.now ((n + s) % 32) 0) (v j) (w j) s n j (p.below j lj) (q.below j lj) low (p.bits j ((n + s) % 32) lj at) (q.bits j ((n + s) % 32) lj at))
          (λ i li j lj. I.so_far v w p q j i lj li) i li j lj;
    }

pub returns : goal.returns
returns c v w p q = record {
  long = c.loop-k.invariant.long;
  below = λ j lj. turned_below (v j) (w j) c.args.s (p.below j lj) (q.below j lj);
  bits = λ j k lj lk. c.loop-k.invariant.so_far v w p q j k lj (omega (arith, lk));
}
