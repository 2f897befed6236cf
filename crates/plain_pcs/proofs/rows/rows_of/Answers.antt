use Rattle.std.proofs.Common.{◌≤◌}
use Rattle.std.specs.Int.{IsPowerOfTwo}
use Rattle.p3_matrix.specs.Matrix.{height}
use Rattle.plain_pcs.proofs.Places.{read_all}
use Rattle.plain_pcs.proofs.Heights.{none_higher, greatest_power}
use Rattle.plain_pcs.proofs.rows.rows_of.Goals as goal

pub row_of-requires-clause-power : goal.row_of-requires-clause-power
row_of-requires-clause-power g c = read_all (λ m. IsPowerOfTwo (height m)) c.args.matrices.now c.loop-m.m-index c.m-item.result c.loop-m-test.true c.m-item.is c.requires.powers

pub row_of-requires-clause-most_power : goal.row_of-requires-clause-most_power
row_of-requires-clause-most_power g c = greatest_power c.args.matrices.now c.args.most c.requires.greatest c.requires.powers

pub row_of-requires-clause-not_more : goal.row_of-requires-clause-not_more
row_of-requires-clause-not_more g c = read_all (λ m. height m ≤ c.args.most) c.args.matrices.now c.loop-m.m-index c.m-item.result c.loop-m-test.true c.m-item.is (none_higher c.args.matrices.now c.args.most c.requires.greatest)
