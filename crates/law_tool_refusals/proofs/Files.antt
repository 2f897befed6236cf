-- A proof file is refused only with a line that may come.
use Rattle.std.proofs.Common.{ℕ, List, inl, inr}
use Rattle.tool_proof_files.specs.Files.{FileData, FileWithin, version_of}
use Rattle.tool_verifier.specs.FileAnswer.{IsFileAnswer, IsRefusedWith}
use Rattle.tool_verifier.specs.declared.status.Status.TheVariants.{Refused}
use Rattle.tool_balance.specs.FileBalance.{IsFileBalance}
use Rattle.batch_tool.specs.Answer.{IsBalanceAnswer, IsVerifyAnswer}
use Rattle.law_tool_refusals.specs.Lines.{IsPossibleLine}
use Rattle.law_tool_refusals.proofs.Tables.{tables_may_come}

refused_may_come : (file : FileData) → FileWithin file → (text : List ℕ) → IsRefusedWith (version_of file.version) file.tables file.proof text → IsPossibleLine text
refused_may_come file within text refused =
    let tables = within.tables in
    elim refused [
      | inl m ↦ inl (m.0, m.2)
      | inr f ↦ inr (f.1.0, tables_may_come (version_of file.version) file.tables tables.1 tables.0.1 file.proof f.0 f.1.0 f.1.1, f.1.2)
    ]

pub line_may_come : (bytes text : List ℕ) → IsVerifyAnswer bytes Refused text → IsPossibleLine text
unfolding IsFileAnswer
line_may_come bytes text a = refused_may_come a.0 a.1 text a.3

-- the same of `balance`
pub balance_may_come : (bytes text : List ℕ) → IsBalanceAnswer bytes Refused text → IsPossibleLine text
unfolding IsFileBalance
balance_may_come bytes text a = refused_may_come a.0 a.1 text a.3
