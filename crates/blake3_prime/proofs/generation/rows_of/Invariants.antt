use Rattle.std.proofs.Common.{[]}
use Rattle.air_core.specs.Joined.{joined}
use Rattle.blake3_compress.specs.TraceRow.{row_cells}
use Rattle.blake3_compress.specs.Generated.{Pushed, input_of}
use Rattle.blake3_prime.specs.Rows.{compression_input}
use Rattle.blake3_prime.proofs.generation.rows_of.Given as goal

abbrev pub invariant-loop-i : goal.invariant-loop-i
invariant-loop-i g l = Pushed g.F.RingCore.ring [] l.values.items (joined l.i (λ i. row_cells (input_of (compression_input l.inputs i))))
