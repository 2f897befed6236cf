use Rattle.blake3_packed.specs.Laws.Lanes.{planes_are_lanes}
use Rattle.blake3_packed.proofs.pushing.push_planes.Goals as goal

pub returns : goal.returns
returns c w p = record {
  words = c.args.planes.now;
  pushed = c.in_ok-extend_from_slice.ensures.items;
  are_lanes = planes_are_lanes c.args.planes.now w p;
}
