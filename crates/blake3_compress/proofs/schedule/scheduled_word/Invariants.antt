use Rattle.std.proofs.Common.{◌≡◌, ◌-◌, ◌<◌}
use Rattle.blake3_compress.specs.Compress.{scheduled}
use Rattle.blake3_compress.proofs.schedule.scheduled_word.Given as goal

abbrev pub invariant-loop-turn : goal.invariant-loop-turn
invariant-loop-turn l = record {
  below : l.word < 16;
  same : scheduled (l.round - l.turn) l.word ≡ scheduled l.round l.fn.i;
}
