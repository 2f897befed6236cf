use Rattle.std.proofs.Common.{sym, subst}
use Rattle.p3_field.specs.declared.baby_bear.BabyBear.{BabyBear as Element}
use Rattle.p3_matrix.specs.Matrix.{Rows}
use Rattle.tool_lines.specs.Texts.{Reads}
use Rattle.tool_lines.specs.Laws.Stops.{handed-on, same-stops, same-reads, pair-first, pair-second, pair-reads, own-items}
use Rattle.tool_proof_text.specs.Matrices.{MatrixWithin, matrix_numbers}
use Rattle.tool_proof_text.specs.Laws.Matrices.{HeightWithin, ElementsWithin, height-grammar, width-grammar, shape-grammar, elements-grammar, same-matrix}
use Rattle.tool_proof_text.proofs.Heights.{height-reads, height-stops}
use Rattle.tool_proof_text.proofs.matrices.MatrixTextForm.read.Goals as goal

pub returns-in_err-width : goal.returns-in_err-width
returns-in_err-width c = handed-on (λ m. m) MatrixWithin matrix_numbers _ _ _ c.in_err-width.field-0.0 c.from_residual.ensures.1
    (λ m. same-stops same-matrix (pair-first ElementsWithin (λ s _. elements-grammar s) (pair-first HeightWithin (λ w _. height-grammar w) c.in_err-width.ensures.1)))

pub returns-in_err-height : goal.returns-in_err-height
returns-in_err-height c = handed-on (λ m. m) MatrixWithin matrix_numbers _ _ _ c.in_err-height.field-0.0 c.from_residual-in_err-height.ensures.1
    (λ m. same-stops same-matrix (pair-first ElementsWithin (λ s _. elements-grammar s) (pair-second HeightWithin width-grammar c.in_ok-width.ensures
    (height-stops c.in_ok-width.width _ _ _ _ c.heights_of-least.ensures.least c.heights_of-least.ensures.most c.in_err-height.ensures.1))))

pub returns-in_err-values : goal.returns-in_err-values
returns-in_err-values c =
    let height = height-reads c.in_ok-width.width _ _ _ _ c.in_ok-height.height c.heights_of-least.ensures.least c.heights_of-least.ensures.most c.in_ok-height.ensures in
    handed-on (λ m. m) MatrixWithin matrix_numbers _ _ _ c.in_err-values.field-0.0 c.from_residual-in_err-values.ensures.1
    (λ m. same-stops same-matrix (pair-second ElementsWithin shape-grammar (pair-reads HeightWithin c.in_ok-width.ensures height) (c.in_err-values.ensures m)))

pub returns : goal.returns
unfolding same-matrix
returns c =
    let height = height-reads c.in_ok-width.width _ _ _ _ c.in_ok-height.height c.heights_of-least.ensures.least c.heights_of-least.ensures.most c.in_ok-height.ensures in
    subst (λ (m : Rows Element). Reads MatrixWithin matrix_numbers c.args.reader.now c.read_items.new.reader m) (sym c.new.ensures)
    (same-reads same-matrix (pair-reads ElementsWithin (pair-reads HeightWithin c.in_ok-width.ensures height) (own-items c.in_ok-values.values.items c.in_ok-values.ensures)))
