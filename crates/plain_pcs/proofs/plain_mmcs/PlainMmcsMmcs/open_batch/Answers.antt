use Rattle.std.proofs.Common.{◌≡◌, ◌∙◌, length, map, sym, subst}
use Rattle.std.specs.Prelude.{All}
use Rattle.std.specs.Int.{IsPowerOfTwo}
use Rattle.p3_matrix.specs.Matrix.{height}
use Rattle.commit_rows.specs.Batches.{lists, AreRowsAt, dimensions_of}
use Rattle.plain_pcs.specs.PlainMmcs.{IsRowOpening}
use Rattle.plain_pcs.proofs.Heights.{opened_rows_accepted, widths_of}
use Rattle.plain_pcs.proofs.plain_mmcs.PlainMmcsMmcs.open_batch.Goals as goal

pub returns-clause-accepted : goal.returns-clause-accepted
returns-clause-accepted g c = λ k e.
    let ms = c.args.prover_data.now in
    let rows = lists c.in_ok-opened_values.opened_values.items in
    let same = c.deref.ensures.value ∙ c.prover_data.view_is in
    subst (λ l. IsRowOpening g.T.PartialEq.eq l (dimensions_of ms) c.args.index rows) (sym e)
    (opened_rows_accepted ms c.args.index g.T.PartialEq.eq rows g.met.T.Eq.laws
    (subst (λ l. All (λ m. IsPowerOfTwo (height m)) l) c.prover_data.view_is c.prover_data.invariant.heights) c.requires
    (subst (λ l. AreRowsAt l c.args.index rows) same c.in_ok-opened_values.ensures.values)
    (widths_of ms rows (subst (λ l. map (λ row. length row) rows ≡ map (λ m. m.width) l) same c.in_ok-opened_values.ensures.widths)))
