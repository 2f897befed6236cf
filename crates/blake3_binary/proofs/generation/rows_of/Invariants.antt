use Rattle.std.proofs.Common.{[]}
use Rattle.air_core.specs.Joined.{joined}
use Rattle.blake3_compress.specs.Generated.{Pushed}
use Rattle.blake3_binary.specs.Row.{binary_cells}
use Rattle.blake3_binary.specs.Rows.{compression}
use Rattle.blake3_binary.proofs.generation.rows_of.Given as goal

abbrev pub invariant-loop-i : goal.invariant-loop-i
invariant-loop-i g l = Pushed g.F.RingCore.ring [] l.values.items (joined l.i (λ i. binary_cells (compression l.inputs i)))
