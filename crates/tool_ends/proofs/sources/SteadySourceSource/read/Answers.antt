use Rattle.std.proofs.Common.{arith}
use Rattle.std.proofs.lemmas.Grind.{common_steps}
use Rattle.tool_bytes.proofs.Bytes.{memory-read}
use Rattle.tool_ends.proofs.sources.SteadySourceSource.read.Goals as goal

pub returns-clause-bytes : goal.returns-clause-bytes
returns-clause-bytes c = rw (← c.self.view_is)
    (memory-read c.self.inside.bytes.items c.args.buf.now c.copy_from_slice.new.self c.self.inside.at c.min-count.result c.self.invariant
    (grind (arith, common_steps)) (grind (arith, common_steps)))
