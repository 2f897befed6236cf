-- When an honest proof is accepted.
use Rattle.std.specs.Prelude.{ℕ, ◌+◌, ◌*◌, ◌^◌, ◌<◌, List, length, All}
use Rattle.p3_field.specs.Domain.{CosetData, subgroup}
use Rattle.p3_matrix.specs.Matrix.{Rows}
use Rattle.air_core.specs.Shape.{HasColumns, ReadsDeclared, declared_shape}
use Rattle.verifier_identity.specs.Identity.{IsInDomain}
use Rattle.batch_config.specs.Setting.{Setting}
use Rattle.batch_statement.specs.Statement.{Statement}
use Rattle.law_honest.specs.HonestProof.{Prover}
use Rattle.law_valid.specs.Traced.{TracedTable, declared, log_parts, log_rows, traced_at}

-- the prover with these inverses in the extension, these canonical numbers of values, and these commitments
abbrev pub prover_with : {F E C : Type 0} → (E → E) → (F → ℕ) → (List (CosetData F × Rows F) → C) → Prover F E C
prover_with inverse canonical commitment_of = record { inverse = inverse; canonical = canonical; commitment_of = commitment_of }

-- A table is regular: a preprocessed trace has a column, and the AIR's constraints read declared cells alone, as each AIR's do. For n rows and
-- a quotient of C chunks n (C + 1) is below 2^64, as it is where n is below 2^63.
pub record IsRegular {S F E C : Type 0} (c : Setting S F E C) (t : TracedTable F) : Type 0 where
  pub has_columns : HasColumns (declared t).preprocessed
  pub reads : All (ReadsDeclared (declared_shape (declared t))) t.table.trees
  pub small : 2 ^ log_rows c t * (2 ^ log_parts c t + 1) < 2 ^ 64

abbrev pub AreRegular : {S F E C : Type 0} → Setting S F E C → Statement F C → (traces : List (Rows F)) → (degree_bits : List ℕ) → Type 0
AreRegular c s traces degree_bits = (i : ℕ) → i < length s.tables → IsRegular c (traced_at s traces degree_bits i)

-- each table has fewer than 2^63 rows
abbrev pub HaveFewRows : {S F E C : Type 0} → Setting S F E C → Statement F C → (traces : List (Rows F)) → (degree_bits : List ℕ) → Type 0
HaveFewRows c s traces degree_bits = (i : ℕ) → i < length s.tables → log_rows c (traced_at s traces degree_bits i) < 63

-- the point isn't one of the domain of the table's rows
abbrev pub IsOutsideRows : {S F E C : Type 0} → Setting S F E C → TracedTable F → E → Type 0
IsOutsideRows c t x = IsInDomain c.field c.extension (subgroup c.field.ring (log_rows c t)) x → ⊥
