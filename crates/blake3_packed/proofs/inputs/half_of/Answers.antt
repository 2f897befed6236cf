use Rattle.std.proofs.Common.{◌≡◌, ◌+◌, ◌<◌, get_or, length, refl, ◌∙◌, arith, length-set}
use Rattle.blake3_packed.specs.Laws.Written.{written}
use Rattle.blake3_packed.proofs.inputs.half_of.Goals as goal

pub loop-k-preserved : goal.loop-k-preserved
loop-k-preserved c =
    let I = c.loop-k.invariant in
    let n = c.loop-k.k in
    let inside : n < length c.loop-k.half = omega (arith, I.long) in
    record {
      long = length-set c.loop-k.half n _ ∙ I.long;
      so_far = written (λ k y. y ≡ get_or c.args.planes.now (c.args.from + k) 0) c.loop-k.half n _ inside refl I.so_far;
    }
