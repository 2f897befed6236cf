use Rattle.std.specs.Prelude.{slice_range}
use Rattle.blake3_packed.specs.Laws.Lanes.{carries_are_lanes}
use Rattle.blake3_packed.proofs.pushing.push_carries.Goals as goal

pub returns : goal.returns
returns c v w p = record {
  words = slice_range c.args.carries.now 1 32;
  pushed = c.in_ok-extend_from_slice.ensures.items;
  are_lanes = carries_are_lanes c.args.carries.now v w p;
}
