-- When the plain scheme refuses to commit, to extend or to open.
use Rattle.std.specs.Prelude.{◌≡◌, ℕ, ◌+◌, ◌-◌, ◌*◌, ◌^◌, ◌<◌, ◌≤◌, List, Result, Ok, Err, ⊤, length}
use Rattle.p3_field.specs.Checks.{IsFirstWithout}
use Rattle.p3_field.specs.Domain.{CosetData}
use Rattle.p3_matrix.specs.Matrix.{Rows, height}
use Rattle.commit_core.specs.Claims.{Request}
use Rattle.commit_core.specs.declared.failure.PcsFailure.{PcsFailure}
use Rattle.commit_core.specs.declared.failure.PcsFailure.TheVariants.{OutOfMemory, Refused}
use Rattle.plain_pcs.specs.Scheme.{Scheme}
use Rattle.plain_pcs.specs.Extension.{IsCommittable}
use Rattle.plain_pcs.specs.declared.error.PlainProverError.{PlainProverError}
use Rattle.plain_pcs.specs.declared.error.PlainProverError.TheVariants.{Commit, Open}

-- committing and extending are refused for the first matrix that the scheme can't commit to on its domain
abbrev pub CommitFault : {F : Type 0} → Scheme F → List (CosetData F × Rows F) → PlainProverError → Type 0
CommitFault s evaluated (Commit i) = IsFirstWithout (λ e. IsCommittable s e.0 e.1) evaluated i
CommitFault s evaluated (Open i) = ⊥

-- A matrix of values on its domain is within the scheme's bounds: it has columns, a row for each point, and at most
-- 2^(most - log_blowup) rows, as a trace may have.
pub record IsWithinBounds {F : Type 0} (s : Scheme F) (e : CosetData F × Rows F) : Type 0 where
  pub has_columns : 0 < e.1.width
  pub height_is : height e.1 ≡ 2 ^ e.0.log_size
  pub short : e.0.log_size ≤ s.most - s.log_blowup

-- the field has a subgroup with as many elements as the matrix has rows
abbrev pub HasSubgroupHeight : {F : Type 0} → ℕ → Rows F → Type 0
HasSubgroupHeight most m = (k : ℕ) × (k ≤ most) × (height m ≡ 2 ^ k)

-- committing to extensions is refused for the first matrix whose height isn't 2^k with k at most `most`
abbrev pub ExtensionsFault : {F : Type 0} → Scheme F → List (Rows F) → PlainProverError → Type 0
ExtensionsFault s extensions (Commit i) = IsFirstWithout (HasSubgroupHeight s.most) extensions i
ExtensionsFault s extensions (Open i) = ⊥

-- Committing to a quotient on the domain d, in n parts of one size, is refused for the first part, where a part's extension
-- would have more rows than the largest subgroup has elements: those of all parts together, 2^log_blowup times as many as d
-- has points, are more than n times 2^most. Since there is a value for each point, no part lacks columns or rows.
abbrev pub QuotientFault : {F : Type 0} → Scheme F → CosetData F → ℕ → PlainProverError → Type 0
QuotientFault s d n (Commit i) = (i ≡ 0) × (2 ^ s.most * n < 2 ^ (d.log_size + s.log_blowup))
QuotientFault s d n (Open i) = ⊥

-- opening is refused for the first request whose lists of points aren't one per matrix
abbrev pub OpenFault : {F E : Type 0} → List (Request (List (CosetData F × Rows F)) E) → PlainProverError → Type 0
OpenFault requests (Commit i) = ⊥
OpenFault requests (Open i) = IsFirstWithout (λ r. length r.points ≡ length r.prover_data) requests i

-- What holds where memory runs out. A call that looks for causes to refuse before it takes any memory then has none.
abbrev pub IfOutOfMemory : {T E : Type 0} → Result T (PcsFailure E) → Type 0 → Type 0
IfOutOfMemory (Ok w) p = ⊤
IfOutOfMemory (Err OutOfMemory) p = p
IfOutOfMemory (Err (Refused e)) p = ⊤
