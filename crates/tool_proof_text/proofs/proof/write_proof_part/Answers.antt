use Rattle.std.proofs.Common.{◌≡◌, ◌++◌, ◌∙◌, ap, ℕ, List}
use Rattle.tool_lines.specs.Texts.{line_text}
use Rattle.tool_lines.specs.Laws.Back.{part-reads-back}
use Rattle.tool_proof_text.specs.ProofText.{proof_numbers}
use Rattle.tool_proof_text.specs.Laws.Proofs.{proof-grammar}
use Rattle.tool_proof_text.proofs.proof.write_proof_part.Goals as goal

pub returns-clause-reads_back : goal.returns-clause-reads_back
returns-clause-reads_back c fits =
    let front = c.args.out.now.items in
    let part : c.deref.result.now ≡ line_text (proof_numbers c.args.proof.now)
    = c.deref.ensures.value
    ∙ (c.in_ok-print.ensures ∙ ap (λ (l : List ℕ). l ++ line_text (proof_numbers c.args.proof.now)) c.new-part.ensures.items) in
    let text : c.extend_from_slice.new.self.items ≡ front ++ line_text (proof_numbers c.args.proof.now)
    = c.in_ok-extend_from_slice.ensures.items ∙ ap (λ (l : List ℕ). front ++ l) part in
    part-reads-back proof-grammar c.args.proof.now front c.extend_from_slice.new.self.items fits text
