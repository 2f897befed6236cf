use Rattle.tool_lines.specs.Laws.Stops.{handed-on, same-reads, same-stops, then-first, then-reads, then-second}
use Rattle.tool_proof_text.specs.Laws.Proofs.{proof-grammar}
use Rattle.stark_chain.specs.Laws.Texts.{ends-grammar, last-grammar, rows-grammar, same-file, stated-grammar, version-grammar, words-grammar}
use Rattle.stark_chain.specs.Seen.{read_file}
use Rattle.stark_chain.specs.Texts.{FileWithin, file_numbers}
use Rattle.stark_chain.proofs.file.WholeChainFileForm.read.Goals as goal

pub returns-in_err-number : goal.returns-in_err-number
returns-in_err-number c = handed-on read_file FileWithin file_numbers _ _ _ c.in_err-number.field-0.0 c.from_residual.ensures.1
    (λ m. same-stops same-file (then-first stated-grammar c.in_err-number.ensures.1))

pub returns-in_err-log_rows : goal.returns-in_err-log_rows
returns-in_err-log_rows c = handed-on read_file FileWithin file_numbers _ _ _ c.in_err-log_rows.field-0.0 c.from_residual-in_err-log_rows.ensures.1
    (λ m. same-stops same-file (then-second version-grammar c.in_ok-number.ensures (then-first ends-grammar c.in_err-log_rows.ensures.1)))

pub returns-in_err-start : goal.returns-in_err-start
returns-in_err-start c = handed-on read_file FileWithin file_numbers _ _ _ c.in_err-start.field-0.0 c.from_residual-in_err-start.ensures.1
    (λ m. same-stops same-file (then-second version-grammar c.in_ok-number.ensures (then-second rows-grammar c.in_ok-log_rows.ensures (then-first last-grammar (c.in_err-start.ensures m)))))

pub returns-in_err-end : goal.returns-in_err-end
returns-in_err-end c = handed-on read_file FileWithin file_numbers _ _ _ c.in_err-end.field-0.0 c.from_residual-in_err-end.ensures.1
    (λ m. same-stops same-file (then-second version-grammar c.in_ok-number.ensures (then-second rows-grammar c.in_ok-log_rows.ensures
    (then-second (words-grammar 8) c.in_ok-start.ensures (then-first proof-grammar (c.in_err-end.ensures m))))))

pub returns-in_err-proof : goal.returns-in_err-proof
returns-in_err-proof c = handed-on read_file FileWithin file_numbers _ _ _ c.in_err-proof.field-0.0 c.from_residual-in_err-proof.ensures.1
    (λ m. same-stops same-file (then-second version-grammar c.in_ok-number.ensures (then-second rows-grammar c.in_ok-log_rows.ensures
    (then-second (words-grammar 8) c.in_ok-start.ensures (then-second (words-grammar 8) c.in_ok-end.ensures (c.in_err-proof.ensures m))))))

pub returns : goal.returns
unfolding same-file
returns c =
    same-reads same-file (then-reads c.in_ok-number.ensures (then-reads c.in_ok-log_rows.ensures (then-reads c.in_ok-start.ensures (then-reads c.in_ok-end.ensures c.in_ok-proof.ensures))))
