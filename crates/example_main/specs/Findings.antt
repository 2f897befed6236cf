-- What the program says of a list of bytes.
use Rattle.std.specs.Int.{IsPowerOfTwo}
use Rattle.std.specs.Prelude.{◌≡◌, ◌≢◌, ℕ, ◌^◌, ◌≤◌, List, ◌∷◌, length, codes}
use Rattle.p3_field.specs.BabyBear.{baby_bear_ring}
use Rattle.p3_field.specs.Checks.{FirstFails}
use Rattle.plain_pcs.specs.declared.error.PlainError.{PlainError}
use Rattle.plain_pcs.specs.declared.error.PlainProverError.{PlainProverError}
use Rattle.batch_statement.specs.declared.error.BatchVerificationError.{BatchVerificationError}
use Rattle.prover_answer.specs.declared.error.ProvingError.{ProvingError}
use Rattle.prover_answer.specs.declared.error.ProvingError.TheVariants.{OutOfMemory as NoMemory}
use Rattle.tool_airs.specs.Airs.{AirsProof, DrawsOutside}
use Rattle.example_air.specs.Bytes.{bits_rows, bytes_rows}
use Rattle.example_air.specs.Proving.{IsTablesProof, LacksTablesProof, bytes_batch}
use Rattle.example_air.specs.Statement.{PassesChecks, RowsAreBytes, bytes_checks}
use Rattle.example_main.specs.declared.Finding.{Finding}
use Rattle.example_main.specs.declared.Finding.TheVariants.{Accepted, Refused, Unproved, Usage, OutOfMemory}

-- these are 2^log_rows bytes, and this is the honest proof of their two tables
pub record IsProofOf (bytes : List ℕ) (log_rows : ℕ) (p : AirsProof) : Type 0 where
  pub count : length bytes ≡ 2 ^ log_rows
  pub honest : IsTablesProof (bits_rows baby_bear_ring bytes) (bytes_rows baby_bear_ring bytes) p

-- a check of this proof fails first, and so the point of its openings lies on the rows of a table
pub record IsRefusedProof (bytes : List ℕ) (log_rows : ℕ) (p : AirsProof) (e : BatchVerificationError PlainError) : Type 0 where
  pub first : FirstFails (bytes_checks log_rows p) e
  pub inside : DrawsOutside (bytes_batch bytes) p → ⊥

-- What is said of these bytes. Accepted: their honest proof passes every check, and each row of the committed table of bits is the row of a byte, unless a
-- drawn challenge is unlucky. Refused: a check of it fails first, and the point of its openings lies on the rows of a table. Unproved: there is none, for a reason that is told, which isn't that memory ran out.
-- Usage: they aren't a power of two of bytes, up to 1024. OutOfMemory: they are, since else nothing takes memory.
abbrev pub IsFinding : List ℕ → Finding → Type 0
IsFinding bytes Accepted = (k : ℕ) × (p : AirsProof) × IsProofOf bytes k p × PassesChecks k p × RowsAreBytes k p
IsFinding bytes Refused = (k : ℕ) × (p : AirsProof) × (e : BatchVerificationError PlainError) × IsProofOf bytes k p × IsRefusedProof bytes k p e
IsFinding bytes Unproved = (e : ProvingError PlainProverError) × (e ≢ NoMemory) × LacksTablesProof (bits_rows baby_bear_ring bytes) (bytes_rows baby_bear_ring bytes) e
IsFinding bytes Usage = IsPowerOfTwo (length bytes) → length bytes ≤ 1024 → ⊥
IsFinding bytes OutOfMemory = IsPowerOfTwo (length bytes) × (length bytes ≤ 1024)

-- the line that says it
abbrev pub line_of : Finding → List ℕ
line_of Accepted = codes "accepted"
line_of Refused = codes "refused"
line_of Unproved = codes "no proof"
line_of Usage = codes "usage: example_main TEXT, a power of two of bytes, up to 1024"
line_of OutOfMemory = codes "out of memory"
