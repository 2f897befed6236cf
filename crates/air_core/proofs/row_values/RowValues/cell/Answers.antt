use Rattle.std.proofs.Common.{◌≡◌, sym, subst, ◌∙◌}
use Rattle.air_core.specs.Shape.{Declares}
use Rattle.air_core.specs.RowCheck.{Row, row_shape, cell_value}
use Rattle.air_core.specs.Laws.PointValues.{row_point-declares, row_point-cell}
use Rattle.air_core.proofs.row_values.RowValues.cell.Goals as goal

pub cell-requires : goal.cell-requires
cell-requires g c =
    let s = c.self.inside in
    let row : Row g.row.F.Denot g.row.EF.Denot = record { main_local = s.main_local.now; main_next = s.main_next.now; preprocessed_local = s.preprocessed_local.now; preprocessed_next = s.preprocessed_next.now; periodic = s.periodic.now; public_values = s.public_values.now; is_first_row = s.is_first_row; is_last_row = s.is_last_row; permutation_local = s.permutation_local.now; permutation_next = s.permutation_next.now; challenges = s.challenges.now; terminals = s.terminals.now } in
    let P : Row g.row.F.Denot g.row.EF.Denot → Type 0 = λ r. Declares (row_shape r) c.args.c in
    row_point-declares row c.from_bool.result c.from_bool-2.result c.from_bool-3.result c.args.c c.self.invariant (subst P (sym c.self.view_is) c.requires)

pub returns : goal.returns
returns g c =
    let s = c.self.inside in
    let row : Row g.row.F.Denot g.row.EF.Denot = record { main_local = s.main_local.now; main_next = s.main_next.now; preprocessed_local = s.preprocessed_local.now; preprocessed_next = s.preprocessed_next.now; periodic = s.periodic.now; public_values = s.public_values.now; is_first_row = s.is_first_row; is_last_row = s.is_last_row; permutation_local = s.permutation_local.now; permutation_next = s.permutation_next.now; challenges = s.challenges.now; terminals = s.terminals.now } in
    let P : Row g.row.F.Denot g.row.EF.Denot → Type 0 = λ r. c.cell.result ≡ cell_value g.F.RingCore.ring r c.args.c in
    subst P c.self.view_is
    (c.cell.ensures ∙ row_point-cell g.F.RingCore.ring row c.from_bool.result c.from_bool-2.result c.from_bool-3.result c.from_bool.ensures c.from_bool-2.ensures c.from_bool-3.ensures c.args.c)
