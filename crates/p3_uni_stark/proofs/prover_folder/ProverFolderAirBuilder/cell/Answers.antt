use Rattle.std.proofs.Common.{sym, subst, ◌∙◌, ap}
use Rattle.air_core.specs.Shape.{Declares}
use Rattle.air_core.specs.PointValues.{PointValues, point_cell, point_shape}
use Rattle.p3_uni_stark.specs.ProverState.{folder_values_of}
use Rattle.p3_uni_stark.specs.Laws.Folders.{image_of_cell}
use Rattle.p3_uni_stark.proofs.prover_folder.ProverFolderAirBuilder.cell.Goals as goal

pub cell-requires : goal.cell-requires
cell-requires g c =
    let P : PointValues g.row.F.Denot g.row.F.Denot → Type 0 = λ v. Declares (point_shape v) c.args.c in
    subst P (sym c.cells.ensures) c.requires

pub returns-clause-represents : goal.returns-clause-represents
returns-clause-represents g c =
    let zero = g.F.RingCore.ring.zero in
    let embed = g.E.ExtensionField.embed in
    ap embed (c.cell.ensures ∙ ap (λ (v : PointValues g.row.F.Denot g.row.F.Denot). point_cell zero (λ x. x) v c.args.c) c.cells.ensures)
    ∙ image_of_cell embed zero g.E.RingCore.ring.zero g.met.E.ExtensionField.embed_laws.keeps_zero (folder_values_of c.args.self.now) c.args.c
