use Rattle.tool_lines.specs.Laws.Stops.{handed-on, own-items, same-reads, same-stops, then-first, then-second, then-reads}
use Rattle.tool_proof_files.specs.Files.{FileWithin, file_numbers}
use Rattle.tool_proof_text.specs.Laws.Proofs.{proof-grammar}
use Rattle.tool_proof_files.specs.Laws.Files.{listed-grammar, same-file, stated-grammar, version-grammar}
use Rattle.tool_proof_files.proofs.file.WholeFileForm.read.Goals as goal

pub returns-in_err-version : goal.returns-in_err-version
returns-in_err-version c = handed-on (λ v. v) FileWithin file_numbers _ _ _ c.in_err-version.field-0.0 c.from_residual.ensures.1
    (λ m. same-stops same-file (then-first stated-grammar c.in_err-version.ensures.1))

pub returns-in_err-tables : goal.returns-in_err-tables
returns-in_err-tables c = handed-on (λ v. v) FileWithin file_numbers _ _ _ c.in_err-tables.field-0.0 c.from_residual-in_err-tables.ensures.1
    (λ m. same-stops same-file (then-second version-grammar c.in_ok-version.ensures (then-first proof-grammar (c.in_err-tables.ensures m))))

pub returns-in_err-proof : goal.returns-in_err-proof
returns-in_err-proof c = handed-on (λ v. v) FileWithin file_numbers _ _ _ c.in_err-proof.field-0.0 c.from_residual-in_err-proof.ensures.1
    (λ m. same-stops same-file (then-second version-grammar c.in_ok-version.ensures
    (then-second listed-grammar (own-items c.in_ok-tables.tables.items c.in_ok-tables.ensures) (c.in_err-proof.ensures m))))

pub returns : goal.returns
unfolding same-file
returns c =
    same-reads same-file (then-reads c.in_ok-version.ensures (then-reads (own-items c.in_ok-tables.tables.items c.in_ok-tables.ensures) c.in_ok-proof.ensures))
