-- What fixes a plain scheme (this project's own transparent commitment scheme).
use Rattle.std.specs.Prelude.{ℕ, List}
use Rattle.p3_field.specs.Ring.{Ring}
use Rattle.p3_field.specs.Field.{TwoAdic}
use Rattle.p3_matrix.specs.Matrix.{Rows}

-- the scheme of a field, as its one number: an extension is 2^log_blowup times as large as a column's domain
pub record Blowup : Type 0 where
  pub log_blowup : ℕ

-- the scheme with its field, whose largest two-adic subgroup has the size 2^most
pub record Scheme (F : Type 0) : Type 0 where
  pub field : TwoAdic F
  pub most : ℕ
  pub log_blowup : ℕ

-- the scheme over a field
abbrev pub scheme : {F : Type 0} → Ring F → (F → F) → (ℕ → F) → F → ℕ → Blowup → Scheme F
scheme ring inv root generator most b = record {
  field = record { ring = ring; inv = inv; root = root; generator = generator };
  most = most;
  log_blowup = b.log_blowup;
}

-- a commitment: the matrices that hold the committed columns' extensions
pub record PlainCommitmentData (F : Type 0) : Type 0 where
  pub matrices : List (Rows F)
