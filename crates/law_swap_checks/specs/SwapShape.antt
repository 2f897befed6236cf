-- Proofs with the shape of an honest one of one swap table.
use Rattle.std.specs.Prelude.{◌≡◌, ℕ, ◌+◌, ◌*◌, ◌^◌, List, [], ◌∷◌, length, None, IsSomeAnd}
use Rattle.p3_field.specs.declared.baby_bear.BabyBear.{BabyBear}
use Rattle.p3_field.specs.declared.quartic.QuarticExtension.{QuarticExtension}
use Rattle.p3_matrix.specs.Matrix.{Rows}
use Rattle.plain_pcs.specs.Scheme.{PlainCommitmentData}
use Rattle.plain_pcs.specs.declared.commitment.PlainProof.{PlainProof}
use Rattle.batch_statement.specs.Proof.{OpenedWithLookups, ProofData}

-- a proof of the program's configuration
abbrev pub SwapProof : Type 0
SwapProof = ProofData BabyBear QuarticExtension (PlainCommitmentData BabyBear) PlainProof

-- a list of one item, which has the property
abbrev pub Single : {A : Type 0} → (A → Type 0) → List A → Type 0
Single P [] = ⊥
Single P (x ∷ []) = P x
Single P (x ∷ y ∷ xs) = ⊥

-- a list of so many items
abbrev pub HasLength : {A : Type 0} → ℕ → List A → Type 0
HasLength n xs = length xs ≡ n

-- a matrix of this width and height
pub record HasWidthAndHeight (columns rows : ℕ) (m : Rows BabyBear) : Type 0 where
  pub width : m.width ≡ columns
  pub values : length m.values ≡ columns * rows

-- What an honest proof opens of a swap table: both columns at zeta and at the next point, and the four columns of the one quotient chunk.
pub record IsSwapOpening (o : OpenedWithLookups QuarticExtension) : Type 0 where
  pub trace_local : HasLength 2 o.base.trace_local
  pub trace_next : IsSomeAnd o.base.trace_next (HasLength 2)
  pub preprocessed : o.base.preprocessed ≡ None
  pub quotient_chunks : Single (HasLength 4) o.base.quotient_chunks
  pub random : o.base.random ≡ None
  pub permutation_local : o.permutation_local ≡ []
  pub permutation_next : o.permutation_next ≡ []

-- A proof with the shape of an honest one of a swap table of 2^k rows: one matrix of two columns and one of four are committed to, whose values stand on a
-- domain twice as large as the rows', and nothing is there of lookups or of what is random.
pub record IsSwapShape (k : ℕ) (p : SwapProof) : Type 0 where
  pub main : Single (HasWidthAndHeight 2 (2 ^ (k + 1))) p.commitments.main.matrices
  pub permutation : p.commitments.permutation ≡ None
  pub quotient_chunks : Single (HasWidthAndHeight 4 (2 ^ (k + 1))) p.commitments.quotient_chunks.matrices
  pub random : p.commitments.random ≡ None
  pub instances : Single IsSwapOpening p.instances
  pub lookup_terminals : p.lookup_terminals ≡ None ∷ []
  pub degree_bits : p.degree_bits ≡ k ∷ []
  pub lookup_pow_witness : p.lookup_pow_witness ≡ None
