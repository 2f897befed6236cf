use Rattle.std.proofs.Common.{length, sym, ap, ◌∙◌}
use Rattle.json_proof_files.specs.MatrixTrees.{fills}
use Rattle.json_proof_files.proofs.Rows.{filled}
use Rattle.json_proof_files.proofs.matrices.MatrixFormJsonForm.read.Goals as goal

pub new-requires-2 : goal.new-requires-2
new-requires-2 c =
    let count = c.len.ensures ∙ c.in_ok-values.values.ok.0 in
    filled c.in_ok-height.height (length c.in_ok-values.values.items) c.in_ok-width.width
    (ap (λ n. fills c.in_ok-height.height n c.in_ok-width.width) (sym count) ∙ (sym c.fills.ensures ∙ c.if-not-fills.false))
