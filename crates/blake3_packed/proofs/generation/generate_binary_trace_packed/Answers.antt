use Rattle.std.proofs.Common.{length}
use Rattle.blake3_packed.specs.PackedRows.{packed_height}
use Rattle.blake3_packed.specs.Laws.Blocks.{fills, packed_rows, dense_cells}
use Rattle.blake3_packed.proofs.generation.generate_binary_trace_packed.Goals as goal

pub new-requires : goal.new-requires
new-requires g c = fills c.args.inputs.now (packed_height (length c.args.inputs.now)) _ c.in_ok-values.ensures

pub returns-clause-width : goal.returns-clause-width
returns-clause-width g c = (packed_rows c.args.inputs.now _ _ c.in_ok-values.ensures c.new.ensures).width

pub returns-clause-height : goal.returns-clause-height
returns-clause-height g c = (packed_rows c.args.inputs.now _ _ c.in_ok-values.ensures c.new.ensures).height

pub returns-clause-bits : goal.returns-clause-bits
returns-clause-bits g c = (packed_rows c.args.inputs.now _ _ c.in_ok-values.ensures c.new.ensures).bits

pub returns-clause-cells : goal.returns-clause-cells
returns-clause-cells g c = dense_cells g.F.RingCore.ring c.args.inputs.now _ (packed_rows c.args.inputs.now _ _ c.in_ok-values.ensures c.new.ensures)

pub returns-clause-past : goal.returns-clause-past
returns-clause-past g c = (packed_rows c.args.inputs.now _ _ c.in_ok-values.ensures c.new.ensures).past
