use Rattle.std.proofs.Common.{ℕ, ◌/◌, ◌<◌, subst, sym}
use Rattle.p3_matrix.specs.Matrix.{height}
use Rattle.plain_pcs.proofs.Heights.{row_below}
use Rattle.plain_pcs.proofs.rows.row_of.Goals as goal

pub row-requires : goal.row-requires
row-requires g c =
    let P : ℕ → Type 0 = λ h. c.args.index / (c.args.most / h) < height c.args.matrix.now in
    subst P (sym c.height.ensures.result) (row_below c.args.most (height c.args.matrix.now) c.args.index c.requires.most_power c.requires.power c.requires.not_more c.requires.row)
