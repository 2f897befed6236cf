-- A matrix of one column.
use Rattle.std.proofs.Common.{◌≡◌, ◌+◌, ◌*◌, ◌/◌, ◌<◌, ◌∙◌, ap, arith, length, get_or}
use Rattle.std.proofs.lemmas.List.{ext_get_or}
use Rattle.p3_matrix.specs.Matrix.{Rows, height, column}
use Rattle.p3_matrix.specs.Laws.Cells.{length-column, get_or-column}
use Rattle.p3_matrix.specs.Laws.Grids.{product_height}

-- its values are those of the column
pub only_column : {A : Type 0} (d : A) (m : Rows A) → m.width ≡ 1 → column d m 0 ≡ m.values
only_column d m e =
    let rows : height m ≡ length m.values = ap (λ w. length m.values / w) e ∙ product_height m.values (length m.values) 1 (omega arith) (omega arith) in
    ext_get_or d (column d m 0) m.values (length-column d m 0 ∙ rows)
    (λ i b.
    let row : i < height m = omega (arith, length-column d m 0) in
    let at : i * 1 + 0 ≡ i = omega arith in
    get_or-column d m 0 i row ∙ (ap (λ w. get_or m.values (i * w + 0) d) e ∙ ap (λ k. get_or m.values k d) at))
