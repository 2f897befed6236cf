use Rattle.std.proofs.Common.{◌+◌, ◌*◌}
use Rattle.blake3_compress.specs.Compress.{Input}
use Rattle.air_core.specs.Joined.{joined}
use Rattle.blake3_compress.specs.TraceRow.{state}
use Rattle.blake3_compress.specs.Generated.{AreFirst, IsState, Pushed}
use Rattle.blake3_binary.specs.Row.{half_cells}
use Rattle.blake3_binary.proofs.generation.push_four.Given as goal

abbrev pub invariant-loop-g : goal.invariant-loop-g
invariant-loop-g g l =
    (x : Input) → AreFirst l.words x → IsState l.first (state x (2 * l.p)) → IsState l.second (state x (2 * l.p + 1))
    → Pushed g.F.RingCore.ring l.fn.values.items l.values.items (joined l.g (λ k. joined 2 (λ h. half_cells x (2 * l.p + h) k)))
