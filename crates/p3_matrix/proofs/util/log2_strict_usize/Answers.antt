use Rattle.p3_matrix.specs.Laws.Powers.{power_between}
use Rattle.p3_matrix.proofs.util.log2_strict_usize.Goals as goal

pub returns : goal.returns
returns c = power_between c.args.n c.ilog2.result c.ilog2.ensures.power_le c.ilog2.ensures.next_power_gt c.requires
