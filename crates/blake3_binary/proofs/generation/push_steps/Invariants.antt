use Rattle.std.proofs.Common.{◌+◌, ◌*◌}
use Rattle.blake3_compress.specs.Compress.{Input, first_state}
use Rattle.air_core.specs.Joined.{joined}
use Rattle.blake3_compress.specs.TraceRow.{state}
use Rattle.blake3_compress.specs.Generated.{AreFirst, IsState, Pushed}
use Rattle.blake3_binary.specs.Row.{half_cells}
use Rattle.blake3_binary.proofs.generation.push_steps.Given as goal

abbrev pub invariant-loop-p : goal.invariant-loop-p
invariant-loop-p g l =
    (x : Input) → AreFirst l.words x → IsState l.fn.first (first_state x)
    → IsState l.before (state x (2 * l.p)) × Pushed g.F.RingCore.ring l.fn.values.items l.values.items (joined l.p (λ p. joined 4 (λ k. joined 2 (λ h. half_cells x (2 * p + h) k))))
