use Rattle.std.proofs.Common.{◌≡◌, ◌*◌, length}
use Rattle.blake3_binary.specs.Rows.{compression}
use Rattle.blake3_packed.specs.Lanes.{AreWordPlanes}
use Rattle.blake3_packed.proofs.inputs.word_planes.Given as goal

abbrev pub invariant-loop-p : goal.invariant-loop-p
invariant-loop-p l = record {
  long : length l.words ≡ 28;
  so_far : AreWordPlanes (2 * l.p) l.words (compression l.block);
}
