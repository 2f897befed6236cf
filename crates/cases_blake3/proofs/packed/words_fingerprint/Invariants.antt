use Rattle.std.proofs.Common.{◌<◌}
use Rattle.cases_blake3.proofs.packed.words_fingerprint.Given as goal

abbrev pub invariant-loop-word : goal.invariant-loop-word
invariant-loop-word l = l.sum < 65521
