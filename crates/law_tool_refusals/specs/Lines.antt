-- The lines with which the program's `verify` may refuse a proof file (not in Plonky3).
use Rattle.std.specs.Prelude.{◌≡◌, ◌⊎◌, ℕ, List}
use Rattle.plain_pcs.specs.declared.error.PlainError.{PlainError}
use Rattle.batch_statement.specs.declared.error.BatchVerificationError.{BatchVerificationError}
use Rattle.tool_verifier.specs.FileAnswer.{mismatch_text}
use Rattle.tool_verifier.specs.Refusals.{fault_text}
use Rattle.law_tool_refusals.specs.Possible.{MayCome}

-- the line of a table whose height isn't the proof's, or of a refusal that may come
abbrev pub IsPossibleLine : List ℕ → Type 0
IsPossibleLine text = ((i : ℕ) × (text ≡ mismatch_text i)) ⊎ ((e : BatchVerificationError PlainError) × MayCome e × (text ≡ fault_text e))
