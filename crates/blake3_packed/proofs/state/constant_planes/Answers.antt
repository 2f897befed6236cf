use Rattle.std.proofs.Common.{◌≡◌, ℕ, ◌*◌, ◌<◌, length, ◌∙◌, arith, length-set}
use Rattle.std.specs.Int.{bit_at}
use Rattle.std.proofs.lemmas.Nat.Bits.{bit_at-lt}
use Rattle.blake3_packed.specs.Laws.Written.{written}
use Rattle.blake3_packed.specs.Laws.Present.{chosen_below}
use Rattle.blake3_packed.proofs.state.constant_planes.Goals as goal

pub loop-k-init : goal.loop-k-init
loop-k-init c = record {
  long = omega arith;
  so_far = λ k lk j. absurd (omega (arith, lk));
}

pub loop-k-preserved : goal.loop-k-preserved
loop-k-preserved c =
    let I = c.loop-k.invariant in
    let n = c.loop-k.k in
    let inside : n < length c.loop-k.planes = omega (arith, I.long) in
    record {
      long = length-set c.loop-k.planes n _ ∙ I.long;
      so_far = written (λ k y. (j : ℕ) → bit_at y j ≡ bit_at (bit_at c.args.present j * c.args.word) k) c.loop-k.planes n _ inside c.constant_plane.ensures I.so_far;
    }

pub returns : goal.returns
returns c = record {
  long = c.loop-k.invariant.long;
  below = λ j lj. chosen_below (bit_at c.args.present j) c.args.word (bit_at-lt c.args.present j) (omega arith);
  bits = λ j k lj lk. c.loop-k.invariant.so_far k (omega (arith, lk)) j;
}
