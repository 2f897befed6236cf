-- A report and a verifier's answer: nothing fails exactly where a verifier accepts, and else the first line of what fails names its refusal.
use Rattle.std.proofs.Common.{◌≡◌, ℕ, ◌+◌, List, [], ◌∷◌, length, None, subst, ◌∙◌, arith, refl}
use Rattle.p3_field.specs.Checks.{FirstFailing, IsFirstFailing, numbers}
use Rattle.batch_config.specs.Setting.{Setting, Backend}
use Rattle.batch_statement.specs.Proof.{ProofData}
use Rattle.batch_statement.specs.Statement.{Statement}
use Rattle.batch_statement.specs.declared.error.BatchVerificationError.{BatchVerificationError}
use Rattle.verifier_batch.specs.BatchChecks.{Accepted, FirstFault}
use Rattle.audit_batch.specs.Asked.{AreNamed, always}
use Rattle.audit_batch.specs.Audit.{audit}
use Rattle.audit_batch.specs.Report.{IsReport}
use Rattle.audit_batch.specs.Laws.Audit.{accepted_if_none_named, none_named_if_accepted, first_named_is_fault, holds_if_none_named, none_named_if_holds, first_named_fails}

empty_list : {A : Type 0} (xs : List A) → length xs ≡ 0 → xs ≡ []
empty_list [] h = refl
empty_list (x ∷ xs) h = absurd cc

module _ {S F E C P R : Type 0} (c : Setting S F E C) (b : Backend S F E C P R) (s : Statement F C) (p : ProofData F E C P) (stated : ℕ) (HasHeight : ℕ → Type 0)
    (name : BatchVerificationError R → List ℕ) (fields : BatchVerificationError R → List ℕ) (coefficients : E → List ℕ) (text : List ℕ) (count : ℕ)
    (r : IsReport c b s p stated HasHeight name fields coefficients text count) where
  pub nothing_fails : count ≡ 0 → FirstFailing stated HasHeight None × Accepted c b s p
  nothing_fails z =
      let k = r.counts in
      let h : r.heights ≡ [] = empty_list r.heights (omega (arith, k, z)) in
      let f : r.faults ≡ [] = empty_list r.faults (omega (arith, k, z)) in
      (holds_if_none_named stated HasHeight (subst (AreNamed (always (numbers stated HasHeight))) h r.mismatches), accepted_if_none_named c b s p (subst (AreNamed (audit c b s p)) f r.failing))

  pub nothing_to_report : FirstFailing stated HasHeight None → Accepted c b s p → count ≡ 0
  nothing_to_report h a =
      let x : r.heights ≡ [] = none_named_if_holds stated HasHeight r.heights h r.mismatches in
      let y : r.faults ≡ [] = none_named_if_accepted c b s p r.faults a r.failing in
      r.counts ∙ (λ i. length (x i) + length (y i))

  -- the first line is of a table of another height
  pub first_mismatch : (i : ℕ) (rest : List ℕ) → r.heights ≡ i ∷ rest → IsFirstFailing stated HasHeight i
  first_mismatch i rest e = first_named_fails stated HasHeight i rest (subst (AreNamed (always (numbers stated HasHeight))) e r.mismatches)

  -- or all heights are the stated ones, and it is of the first check that fails
  pub first_fault : (e : BatchVerificationError R) (rest : List (BatchVerificationError R)) → r.heights ≡ [] → r.faults ≡ e ∷ rest → FirstFailing stated HasHeight None × FirstFault c b s p e
  first_fault e rest h f =
      (holds_if_none_named stated HasHeight (subst (AreNamed (always (numbers stated HasHeight))) h r.mismatches), first_named_is_fault c b s p e rest (subst (AreNamed (audit c b s p)) f r.failing))
