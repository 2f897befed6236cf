use Rattle.commit_rows.specs.Batches.{lists}
use Rattle.plain_pcs.proofs.Heights.{the_rows_at_greatest}
use Rattle.plain_pcs.proofs.rows.are_the_rows.Goals as goal

pub returns : goal.returns
returns g c = (
  λ e. the_rows_at_greatest c.args.matrices.now c.args.index g.T.PartialEq.eq c.most_rows-most.result (lists c.args.rows.now) c.most_rows-most.ensures (c.are_rows.ensures.0 e),
  λ a. c.are_rows.ensures.1 (a c.most_rows-most.result c.most_rows-most.ensures),
)
