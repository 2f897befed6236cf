use Rattle.std.proofs.Common.{◌≡◌, length}
use Rattle.blake3_packed.specs.Lanes.{ExchangedBelow}
use Rattle.blake3_packed.proofs.transposing.exchanged.Given as goal

abbrev pub invariant-loop-p : goal.invariant-loop-p
invariant-loop-p l = record {
  long : length l.made ≡ 64;
  so_far : ExchangedBelow l.p l.width l.rows l.made;
}
