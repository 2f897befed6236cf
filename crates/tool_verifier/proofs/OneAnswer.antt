-- Two answers to a file are one.
use Rattle.std.proofs.Common.{◌≡◌, ℕ, List, inl, inr, refl, sym, ◌∙◌, ap, arith}
use Rattle.std.proofs.lemmas.Bool.{cases_lt}
use Rattle.p3_field.specs.Checks.{AreSingle, IsFirstFailing}
use Rattle.p3_field.specs.Laws.Checks.{none_first, same_first}
use Rattle.verifier_batch.specs.BatchChecks.{checks}
use Rattle.transcript_version.specs.declared.TranscriptVersion.{TranscriptVersion}
use Rattle.tool_statement.specs.Config.{tool_setting, tool_backend}
use Rattle.tool_statement.specs.StatedTables.{tool_statement}
use Rattle.tool_statement.specs.declared.table.TableStatement.{TableStatement}
use Rattle.tool_proof_text.specs.ProofText.{ToolProofData}
use Rattle.tool_verifier.specs.FileAnswer.{IsAccepted, IsFileAnswer, IsRefusedWith, SameAnswer, mismatch_text}
use Rattle.tool_verifier.specs.Refusals.{fault_text}
use Rattle.tool_verifier.specs.declared.status.Status.{Status}
use Rattle.tool_verifier.specs.declared.status.Status.TheVariants.{Done, Refused, Usage, BadInput, ReadFault, WriteFault, OutOfMemory, TooLarge}

-- the first of the numbers that fail is one
same_failing : (n : ℕ) (P : ℕ → Type 0) (i j : ℕ) → IsFirstFailing n P i → IsFirstFailing n P j → i ≡ j
same_failing n P i j a b = elim (cases_lt i j) [
  | inl h ↦ absurd (a.fails (b.earlier i h))
  | inr h ↦ elim (cases_lt j i) [
    | inl k ↦ absurd (b.fails (a.earlier j k))
    | inr k ↦ omega (arith, h, k)
  ]
]

module _ (version : TranscriptVersion) (tables : List TableStatement) (p : ToolProofData) (single : AreSingle (checks (tool_setting version) tool_backend (tool_statement tables) p)) where
  -- a refused file isn't accepted
  not_both : (x : List ℕ) → IsAccepted version tables p → IsRefusedWith version tables p x → ⊥
  not_both x a r = elim r [
    | inl m ↦ m.1.fails (a.0 m.0 m.1.within)
    | inr f ↦ none_first (checks (tool_setting version) tool_backend (tool_statement tables) p) f.1.0 a.1 f.1.1
  ]

  -- its line is one
  one_line : (x y : List ℕ) → IsRefusedWith version tables p x → IsRefusedWith version tables p y → x ≡ y
  one_line x y f g = elim f [
    | inl a ↦ elim g [
      | inl b ↦ a.2 ∙ (ap mismatch_text (same_failing _ _ a.0 b.0 a.1 b.1) ∙ sym b.2)
      | inr b ↦ absurd (a.1.fails (b.0 a.0 a.1.within))
    ]
    | inr a ↦ elim g [
      | inl b ↦ absurd (b.1.fails (a.0 b.0 b.1.within))
      | inr b ↦ a.1.2 ∙ (ap fault_text (same_first (checks (tool_setting version) tool_backend (tool_statement tables) p) a.1.0 b.1.0 single a.1.1 b.1.1) ∙ sym b.1.2)
    ]
  ]

  pub same_answer : (s t : Status) (x y : List ℕ) → IsFileAnswer version tables p s x → IsFileAnswer version tables p t y → SameAnswer s t x y
  unfolding IsFileAnswer
  same_answer Done Done x y a b = (refl, a.2 ∙ sym b.2)
  same_answer Done Refused x y a b = absurd (not_both y a.0 b)
  same_answer Refused Done x y a b = absurd (not_both x b.0 a)
  same_answer Refused Refused x y a b = (refl, one_line x y a b)
  same_answer Done Usage x y a b = absurd b
  same_answer Done BadInput x y a b = absurd b
  same_answer Done ReadFault x y a b = absurd b
  same_answer Done WriteFault x y a b = absurd b
  same_answer Done OutOfMemory x y a b = absurd b
  same_answer Done TooLarge x y a b = absurd b
  same_answer Refused Usage x y a b = absurd b
  same_answer Refused BadInput x y a b = absurd b
  same_answer Refused ReadFault x y a b = absurd b
  same_answer Refused WriteFault x y a b = absurd b
  same_answer Refused OutOfMemory x y a b = absurd b
  same_answer Refused TooLarge x y a b = absurd b
  same_answer Usage t x y a b = absurd a
  same_answer BadInput t x y a b = absurd a
  same_answer ReadFault t x y a b = absurd a
  same_answer WriteFault t x y a b = absurd a
  same_answer OutOfMemory t x y a b = absurd a
  same_answer TooLarge t x y a b = absurd a
