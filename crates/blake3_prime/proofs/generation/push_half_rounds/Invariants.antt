use Rattle.std.proofs.Common.{suc}
use Rattle.blake3_compress.specs.Compress.{Input, first_state}
use Rattle.air_core.specs.Joined.{joined}
use Rattle.blake3_compress.specs.TraceRow.{state_cells, state}
use Rattle.blake3_compress.specs.Generated.{AreFirst, IsState, Pushed}
use Rattle.blake3_prime.proofs.generation.push_half_rounds.Given as goal

abbrev pub invariant-loop-n : goal.invariant-loop-n
invariant-loop-n g l =
    (x : Input) → AreFirst l.words x → IsState l.fn.first (first_state x)
    → IsState l.state (state x l.n) × Pushed g.F.RingCore.ring l.fn.values.items l.values.items (joined l.n (λ n. state_cells (state x (suc n))))
