use Rattle.std.proofs.Common.{sym, subst, ◌∙◌, ap}
use Rattle.air_core.specs.Shape.{Declares}
use Rattle.air_core.specs.PointValues.{PointValues, point_cell, point_shape}
use Rattle.p3_uni_stark.proofs.verifier_folder.VerifierFolderAirBuilder.cell.Goals as goal

pub cell-requires : goal.cell-requires
cell-requires g c =
    let P : PointValues g.row.F.Denot g.row.E.Denot → Type 0 = λ v. Declares (point_shape v) c.args.c in
    subst P (sym c.cells.ensures) c.requires

pub returns-clause-represents : goal.returns-clause-represents
returns-clause-represents g c =
    c.cell.ensures ∙ ap (λ (v : PointValues g.row.F.Denot g.row.E.Denot). point_cell g.E.RingCore.ring.zero g.E.ExtensionField.embed v c.args.c) c.cells.ensures
