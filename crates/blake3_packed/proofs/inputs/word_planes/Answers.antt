use Rattle.std.proofs.Common.{ℕ, ◌+◌, ◌*◌, ◌<◌, List, [], set, length, ◌∙◌, arith, length-set}
use Rattle.blake3_binary.specs.Rows.{compression}
use Rattle.blake3_packed.specs.Lanes.{ArePlanes}
use Rattle.blake3_packed.specs.Laws.Written.{written_in}
use Rattle.blake3_packed.specs.Laws.Inputs.{low_planes, high_planes}
use Rattle.blake3_packed.proofs.inputs.word_planes.Goals as goal

pub loop-p-preserved : goal.loop-p-preserved
loop-p-preserved c =
    let I = c.loop-p.invariant in
    let p = c.loop-p.p in
    let block = c.args.block.now in
    let words = c.loop-p.words in
    let A = c.half_of.result in
    let B = c.half_of-in-loop-p.result in
    let P = λ (i : ℕ) (planes : List ℕ). ArePlanes planes (λ j. compression block j i) in
    let rows = c.pairs_at.result in
    let a = low_planes rows c.transposed-planes.result A block p c.pairs_at.ensures c.transposed-planes.ensures c.half_of.ensures.long c.half_of.ensures.words in
    let b = high_planes rows c.transposed-planes.result B block p c.pairs_at.ensures c.transposed-planes.ensures c.half_of-in-loop-p.ensures.long c.half_of-in-loop-p.ensures.words in
    let at : 2 * p < length words = omega (arith, I.long) in
    let next : 2 * p + 1 < length (set words (2 * p) A) = omega (arith, I.long, length-set words (2 * p) A) in
    record {
      long = length-set (set words (2 * p) A) (2 * p + 1) B ∙ (length-set words (2 * p) A ∙ I.long);
      so_far = λ i li.
          written_in [] P (set words (2 * p) A) (2 * p + 1) B next b
          (written_in [] P words (2 * p) A at a I.so_far) i (omega (arith, li));
    }

pub returns : goal.returns
returns c i li = c.loop-p.invariant.so_far i (omega (arith, li))
