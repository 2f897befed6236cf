use Rattle.std.proofs.Common.{◌≡◌, List, sym, ◌∙◌, ap, subst}
use Rattle.transcript_version.specs.declared.TranscriptVersion.{TranscriptVersion}
use Rattle.tool_proof_files.specs.Files.{FileData, version_of}
use Rattle.tool_proof_text.specs.ProofText.{ToolProofData}
use Rattle.tool_statement.specs.declared.table.TableStatement.{TableStatement}
use Rattle.tool_verifier.specs.FileAnswer.{IsAccepted, IsFileAnswer}
use Rattle.tool_verifier.specs.declared.status.Status.{Status}
use Rattle.tool_balance.proofs.Answering.{balance_told, same_file, same_refusal, was_accepted}
use Rattle.tool_balance.specs.FileBalance.{balance_text}
use Rattle.tool_balance.proofs.answer.answer_balance.Goals as goal

pub balance_text-requires-clause-accepted : goal.balance_text-requires-clause-accepted
balance_text-requires-clause-accepted c =
    let f = c.args.file.now in
    let v = version_of f.version in
    let tables : c.deref.result.now ≡ f.tables = c.deref.ensures.value ∙ ap (λ (g : FileData). g.tables) c.file.view_is in
    let proof : c.file.inside.proof ≡ f.proof = ap (λ (g : FileData). g.proof) c.file.view_is in
    let done = subst (λ (s : Status). IsFileAnswer v f.tables f.proof s c.in_ok-answer.answer.text.items) c.in-Done.is c.in_ok-answer.ensures in
    same_file IsAccepted v c.transcript_version.result f.tables c.deref.result.now f.proof c.file.inside.proof (sym c.transcript_version.ensures) (sym tables) (sym proof)
    (was_accepted v f.tables f.proof c.in_ok-answer.answer.text.items done)

pub returns-in_ok-balance_text-in-Done : goal.returns-in_ok-balance_text-in-Done
returns-in_ok-balance_text-in-Done c =
    let f = c.args.file.now in
    let v = version_of f.version in
    let new = c.in_ok-balance_text-in-Done.field-0.items in
    let tables : c.deref.result.now ≡ f.tables = c.deref.ensures.value ∙ ap (λ (g : FileData). g.tables) c.file.view_is in
    let proof : c.file.inside.proof ≡ f.proof = ap (λ (g : FileData). g.proof) c.file.view_is in
    let done = subst (λ (s : Status). IsFileAnswer v f.tables f.proof s c.in_ok-answer.answer.text.items) c.in-Done.is c.in_ok-answer.ensures in
    balance_told v f.tables f.proof c.in_ok-answer.answer.text.items new done
    (same_file (λ (w : TranscriptVersion) (t : List TableStatement) (p : ToolProofData). new ≡ balance_text w t p) c.transcript_version.result v c.deref.result.now f.tables c.file.inside.proof f.proof
    c.transcript_version.ensures tables proof c.in_ok-balance_text-in-Done.ensures)

pub returns-in_default : goal.returns-in_default
returns-in_default c =
    let f = c.args.file.now in
    same_refusal (version_of f.version) f.tables f.proof c.in_ok-answer.answer.status c.in_ok-answer.answer.text.items c.in_default.not-Done c.in_ok-answer.ensures
