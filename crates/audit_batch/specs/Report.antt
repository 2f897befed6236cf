-- What is reported of a batch proof over stated heights: each step of the script, where it was played; each table of another height and each check that fails,
-- by its name and its numbers; and how many these are.
use Rattle.std.specs.Prelude.{◌≡◌, ◌⊎◌, ℕ, ◌+◌, List, [], ◌∷◌, ◌++◌, codes, decimal, flat_map, length}
use Rattle.p3_field.specs.Checks.{numbers}
use Rattle.batch_config.specs.Setting.{Setting, Backend}
use Rattle.batch_statement.specs.Proof.{ProofData}
use Rattle.batch_statement.specs.Statement.{Statement}
use Rattle.batch_statement.specs.declared.error.BatchVerificationError.{BatchVerificationError}
use Rattle.verifier_draws.specs.Draws.{given_of, script_shape}
use Rattle.audit_batch.specs.Asked.{always, AreNamed}
use Rattle.audit_batch.specs.Parts.{IsPlayed}
use Rattle.audit_batch.specs.Audit.{audit, parts_of}
use Rattle.audit_script.specs.Steps.{script_text, spaced_numbers}

-- the line of something that fails
abbrev pub fails_line : (name fields : List ℕ) → List ℕ
fails_line name fields = codes "fails " ++ name ++ spaced_numbers fields ++ 10 ∷ []

-- the last line
abbrev pub failed_line : ℕ → List ℕ
failed_line n = codes "failed " ++ decimal n ++ 10 ∷ []

-- table i has another height
abbrev pub mismatch_line : ℕ → List ℕ
mismatch_line i = fails_line (codes "HeightMismatch") (i ∷ [])

-- of a configuration with its backend, a statement and a proof, with these numbers of the challenges' coefficients
module _ {S F E C P R : Type 0} (c : Setting S F E C) (b : Backend S F E C P R) (s : Statement F C) (p : ProofData F E C P) (coefficients : E → List ℕ) where
  -- the lines of the script's steps, from the seeded state on
  abbrev pub steps_text : List ℕ
  steps_text =
      script_text c.challenger coefficients c.field.ring c.extension.ring c.extension.dimension c.initial
      (script_shape c.version c.zk c.lookup_bits c.ood_bits s) (given_of s p)

  -- they are there exactly where the script is played
  abbrev pub IsPlayedText : List ℕ → Type 0
  IsPlayedText text = (IsPlayed (parts_of c b s p) × (text ≡ steps_text)) ⊎ ((IsPlayed (parts_of c b s p) → ⊥) × (text ≡ []))

-- The report, of so many stated heights, of which this property says that the proof has them, and with these names and numbers of refusals.
module _ {S F E C P R : Type 0} (c : Setting S F E C) (b : Backend S F E C P R) (s : Statement F C) (p : ProofData F E C P) (stated : ℕ) (HasHeight : ℕ → Type 0)
    (name : BatchVerificationError R → List ℕ) (fields : BatchVerificationError R → List ℕ) (coefficients : E → List ℕ) where
  pub record IsReport (text : List ℕ) (count : ℕ) : Type 0 where
    pub steps : List ℕ
    pub heights : List ℕ
    pub faults : List (BatchVerificationError R)
    pub played : IsPlayedText c b s p coefficients steps
    pub mismatches : AreNamed (always (numbers stated HasHeight)) heights
    pub failing : AreNamed (audit c b s p) faults
    pub counts : count ≡ length heights + length faults
    pub lines : text ≡ steps ++ flat_map mismatch_line heights ++ flat_map (λ e. fails_line (name e) (fields e)) faults ++ failed_line count
