use Rattle.std.proofs.Common.{◌<◌, All, sym, subst, arith}
use Rattle.std.specs.Int.{IsPowerOfTwo}
use Rattle.std.proofs.lemmas.List.Elements.{All-push}
use Rattle.p3_matrix.specs.Matrix.{Rows, height}
use Rattle.cases_commit.proofs.rows.columns_of.Goals as goal

pub loop-list-preserved : goal.loop-list-preserved
loop-list-preserved g c =
    let column = c.new_col-column.result in
    let power : IsPowerOfTwo (height column) = subst IsPowerOfTwo c.height.ensures.result (c.is_power_of_two.ensures.0 c.if-not-is_power_of_two.false) in
    let narrow : column.width < 65536 = subst (λ (m : Rows g.row.T.Denot). m.width < 65536) (sym c.new_col-column.ensures) (omega arith) in (
      subst (λ (l : _). All (λ (m : Rows g.row.T.Denot). IsPowerOfTwo (height m)) l) (sym c.in_ok-push.ensures.items)
          (All-push (λ (m : Rows g.row.T.Denot). IsPowerOfTwo (height m)) c.loop-list.columns.items column c.loop-list.invariant.0 power),
      subst (λ (l : _). All (λ (m : Rows g.row.T.Denot). m.width < 65536) l) (sym c.in_ok-push.ensures.items)
          (All-push (λ (m : Rows g.row.T.Denot). m.width < 65536) c.loop-list.columns.items column c.loop-list.invariant.1 narrow),
    )
