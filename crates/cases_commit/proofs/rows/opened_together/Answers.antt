use Rattle.std.proofs.Common.{All, subst}
use Rattle.commit_rows.specs.Batches.{IsRowOf}
use Rattle.cases_commit.proofs.rows.opened_together.Goals as goal

pub open_multi_batch-requires : goal.open_multi_batch-requires
open_multi_batch-requires g c = subst (λ ms. All (IsRowOf ms) c.as_slice-indices.result.now) c.get_matrices.ensures (c.are_rows.ensures.0 c.if-not-are_rows.false)
