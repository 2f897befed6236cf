use Rattle.std.proofs.Common.{◌+◌, ◌*◌, lit<}
use Rattle.std.specs.Int.{bit_at}
use Rattle.blake3_compress.specs.Compress.{iv}
use Rattle.blake3_packed.specs.Laws.Present.{four_planes}
use Rattle.blake3_packed.proofs.state.first_planes.Goals as goal

pub returns : goal.returns
returns c x h = record {
  rows0 = four_planes _ _ _ _ (λ j i. x j (16 + i)) (h 16 (lit< tt)) (h 17 (lit< tt)) (h 18 (lit< tt)) (h 19 (lit< tt));
  rows1 = four_planes _ _ _ _ (λ j i. x j (16 + (4 + i))) (h 20 (lit< tt)) (h 21 (lit< tt)) (h 22 (lit< tt)) (h 23 (lit< tt));
  rows2 = four_planes _ _ _ _ (λ j i. bit_at c.args.present j * iv i) c.constant_planes.ensures c.constant_planes-2.ensures c.constant_planes-3.ensures c.constant_planes-4.ensures;
  rows3 = four_planes _ _ _ _ (λ j i. x j (24 + i)) (h 24 (lit< tt)) (h 25 (lit< tt)) (h 26 (lit< tt)) (h 27 (lit< tt));
}
