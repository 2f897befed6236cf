use Rattle.blake3_packed.specs.Laws.Present.{present_bits}
use Rattle.blake3_packed.proofs.state.present_lanes.Goals as goal

pub returns : goal.returns
returns c j lj = present_bits c.args.count j c.requires.most lj
