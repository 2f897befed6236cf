use Rattle.std.proofs.Common.{◌≡◌, List, refl}
use Rattle.plain_pcs.specs.declared.error.PlainError.{PlainError}
use Rattle.batch_statement.specs.declared.error.BatchVerificationError.{BatchVerificationError}
use Rattle.transcript_version.specs.declared.TranscriptVersion.{TranscriptVersion}
use Rattle.transcript_version.specs.declared.TranscriptVersion.TheVariants.{V1, V2}
use Rattle.tool_proof_text.specs.ProofText.{ToolProofData}
use Rattle.tool_statement.specs.StatedTables.{tool_statement}
use Rattle.tool_statement.specs.declared.table.TableStatement.{TableStatement}
use Rattle.audit_batch.specs.Asked.{AreNamed}
use Rattle.audit_batch.specs.Audit.{audit}
use Rattle.stark_audit.specs.Laws.Audited.{audited_is}
use Rattle.stark_audit.specs.Laws.OneAnswer.{OneAudit, one-answer-of-audit, one-name}
use Rattle.stark_audit.proofs.laws.one_answer.Goals as goal

pub returns-clause-command : goal.returns-clause-command
returns-clause-command c words = one-name words

pub returns-clause-answer : goal.returns-clause-answer
returns-clause-answer c words bytes = one-answer-of-audit audits words bytes
  where
    audits : (version : TranscriptVersion) (tables : List TableStatement) (p : ToolProofData) → OneAudit version tables p
    audits V1 tables p =
        let s = tool_statement tables in
        audited_is (λ o b t. (ds es : List (BatchVerificationError PlainError)) → AreNamed (audit o b t p) ds → AreNamed (audit o b t p) es → ds ≡ es) V1 _ c.tool_config-first.result.pcs s.tables
        s.tables s.publics s.publics s.common s.common c.tool_config-first.ensures.setting c.tool_config-first.ensures.scheme refl refl refl
        (c.there_is_one_audit.ensures.one c.tool_config-first.result s p)
    audits V2 tables p =
        let s = tool_statement tables in
        audited_is (λ o b t. (ds es : List (BatchVerificationError PlainError)) → AreNamed (audit o b t p) ds → AreNamed (audit o b t p) es → ds ≡ es) V2 _ c.tool_config-second.result.pcs s.tables
        s.tables s.publics s.publics s.common s.common c.tool_config-second.ensures.setting c.tool_config-second.ensures.scheme refl refl refl
        (c.there_is_one_audit.ensures.one c.tool_config-second.result s p)
