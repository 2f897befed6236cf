-- What `balance` answers, off the answer of `verify`.
use Rattle.std.proofs.Common.{◌≡◌, ℕ, List, refl, sym, ◌∙◌, subst}
use Rattle.transcript_version.specs.declared.TranscriptVersion.{TranscriptVersion}
use Rattle.tool_proof_text.specs.ProofText.{ToolProofData}
use Rattle.tool_statement.specs.declared.table.TableStatement.{TableStatement}
use Rattle.tool_verifier.specs.FileAnswer.{IsAccepted, IsFileAnswer, SameAnswer, accepted_text}
use Rattle.tool_verifier.specs.declared.status.Status.{Status}
use Rattle.tool_verifier.specs.declared.status.Status.TheVariants.{Done, Refused, Usage, BadInput, ReadFault, WriteFault, OutOfMemory, TooLarge}
use Rattle.tool_balance.proofs.Left.{told}
use Rattle.tool_balance.specs.FileBalance.{IsFileBalance, balance_text}

-- what holds of a version, of tables and of a proof holds of others that are the same
pub same_file : (P : TranscriptVersion → List TableStatement → ToolProofData → Type 0) (v w : TranscriptVersion) (s t : List TableStatement) (p q : ToolProofData) → v ≡ w → s ≡ t → p ≡ q → P v s p → P w t q
same_file P v w s t p q e f g h = subst (λ x. P x t q) e (subst (λ y. P v y q) f (subst (λ z. P v s z) g h))

module _ (version : TranscriptVersion) (tables : List TableStatement) (p : ToolProofData) where
  -- a proof that `verify` accepts is accepted
  pub was_accepted : (text : List ℕ) → IsFileAnswer version tables p Done text → IsAccepted version tables p
  unfolding IsFileAnswer
  was_accepted text a = a.0

  pub balance_told : (text new : List ℕ) → IsFileAnswer version tables p Done text → new ≡ balance_text version tables p → IsFileBalance version tables p Done new
  unfolding IsFileAnswer IsFileBalance
  balance_told text new a e = (a.0, record { meant = a.1; told = e; balanced = told version tables p new a.1.balance e })

  -- what isn't accepted is answered as by `verify`
  pub same_refusal : (s : Status) (text : List ℕ) → (s ≡ Done → ⊥) → IsFileAnswer version tables p s text → IsFileBalance version tables p s text
  unfolding IsFileAnswer IsFileBalance
  same_refusal Done text n a = absurd (n refl)
  same_refusal Refused text n a = a
  same_refusal Usage text n a = a
  same_refusal BadInput text n a = a
  same_refusal ReadFault text n a = a
  same_refusal WriteFault text n a = a
  same_refusal OutOfMemory text n a = a
  same_refusal TooLarge text n a = a

  -- there is one answer, as there is of `verify`
  pub same_balance : ((s t : Status) (x y : List ℕ) → IsFileAnswer version tables p s x → IsFileAnswer version tables p t y → SameAnswer s t x y)
      → (s t : Status) (x y : List ℕ) → IsFileBalance version tables p s x → IsFileBalance version tables p t y → SameAnswer s t x y
  unfolding IsFileAnswer IsFileBalance
  same_balance one Done Done x y a b = (refl, a.1.told ∙ sym b.1.told)
  same_balance one Done Refused x y a b = let q : Done ≡ Refused = (one Done Refused (accepted_text tables p) y (a.0, a.1.meant, refl) b).0 in absurd (cc q)
  same_balance one Refused Done x y a b = let q : Refused ≡ Done = (one Refused Done x (accepted_text tables p) a (b.0, b.1.meant, refl)).0 in absurd (cc q)
  same_balance one Refused Refused x y a b = one Refused Refused x y a b
  same_balance one Done Usage x y a b = absurd b
  same_balance one Done BadInput x y a b = absurd b
  same_balance one Done ReadFault x y a b = absurd b
  same_balance one Done WriteFault x y a b = absurd b
  same_balance one Done OutOfMemory x y a b = absurd b
  same_balance one Done TooLarge x y a b = absurd b
  same_balance one Refused Usage x y a b = absurd b
  same_balance one Refused BadInput x y a b = absurd b
  same_balance one Refused ReadFault x y a b = absurd b
  same_balance one Refused WriteFault x y a b = absurd b
  same_balance one Refused OutOfMemory x y a b = absurd b
  same_balance one Refused TooLarge x y a b = absurd b
  same_balance one Usage t x y a b = absurd a
  same_balance one BadInput t x y a b = absurd a
  same_balance one ReadFault t x y a b = absurd a
  same_balance one WriteFault t x y a b = absurd a
  same_balance one OutOfMemory t x y a b = absurd a
  same_balance one TooLarge t x y a b = absurd a
