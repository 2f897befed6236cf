use Rattle.std.proofs.Common.{ℕ, ◌+◌, ◌*◌}
use Rattle.blake3_compress.specs.Compress.{Input}
use Rattle.blake3_compress.specs.TraceRow.{bit_cells}
use Rattle.blake3_packed.specs.Lanes.{PushedLanes, AreWordPlanes}
use Rattle.blake3_packed.proofs.pushing.push_words.Given as goal

abbrev pub invariant-loop-i : goal.invariant-loop-i
invariant-loop-i l = (x : ℕ → Input) → AreWordPlanes 28 l.words x → PushedLanes l.fn.values.items l.values.items (32 * l.i) (λ j. bit_cells l.i (λ i. x j (l.from + i)))
