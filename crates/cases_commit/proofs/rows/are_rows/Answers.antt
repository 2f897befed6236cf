use Rattle.std.proofs.Common.{refl, subst}
use Rattle.std.specs.Prelude.{All}
use Rattle.std.proofs.lemmas.List.{take_all}
use Rattle.std.proofs.lemmas.List.Elements.{All-more}
use Rattle.commit_rows.specs.Batches.{IsRowOf}
use Rattle.cases_commit.proofs.rows.are_rows.Goals as goal

pub loop-index-preserved : goal.loop-index-preserved
loop-index-preserved g c =
    All-more (IsRowOf c.args.matrices.now) c.args.indices.now c.loop-index.index-index 0 c.loop-index-test.true c.loop-index.invariant (c.if-not-is_row.ensures.0 refl)

pub returns : goal.returns
returns g c = (
  λ e. subst (λ l. All (IsRowOf c.args.matrices.now) l) (take_all c.loop-index.index-index c.args.indices.now c.loop-index-test.false) c.loop-index.invariant,
  λ e. refl,
)
