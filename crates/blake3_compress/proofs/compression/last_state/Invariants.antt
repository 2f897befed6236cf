use Rattle.blake3_compress.specs.Compress.{Input, first_state}
use Rattle.blake3_compress.specs.TraceRow.{state}
use Rattle.blake3_compress.specs.Generated.{AreFirst, IsState}
use Rattle.blake3_compress.proofs.compression.last_state.Given as goal

abbrev pub invariant-loop-n : goal.invariant-loop-n
invariant-loop-n l = (x : Input) → AreFirst l.words x → IsState l.fn.first (first_state x) → IsState l.state (state x l.n)
