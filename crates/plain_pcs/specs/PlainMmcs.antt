-- Openings of matrices that are themselves the commitment.
use Rattle.std.specs.Prelude.{◌≡◌, ℕ, List, [], ◌∷◌, Bool, IsTrue, length, map, All}
use Rattle.std.specs.Int.{IsPowerOfTwo}
use Rattle.std.specs.Cmp.Lexicographic.{pointwise}
use Rattle.p3_field.specs.Checks.{Check, check, FirstFails}
use Rattle.p3_matrix.specs.Matrix.{Rows, height, row_at}
use Rattle.p3_matrix.specs.declared.dense.Dimensions.{Dimensions as Size}
use Rattle.commit_core.specs.Periodic.{IsGreatest, EachFrom}
use Rattle.commit_rows.specs.Batches.{IsRowOf, row_in, dimensions_of, HaveWidths}
use Rattle.plain_pcs.specs.declared.plain_mmcs.PlainMmcsError.{PlainMmcsError}
use Rattle.plain_pcs.specs.declared.plain_mmcs.PlainMmcsError.TheVariants.{Dimensions, Index, Value}

-- the widths and heights are those of the matrices, and each height is a power of two
pub record AreDimensions {T : Type 0} (ms : List (Rows T)) (ds : List Size) : Type 0 where
  pub same : ds ≡ dimensions_of ms
  pub powers : All (λ m. IsPowerOfTwo (height m)) ms

-- the shape of an opening is that of the matrices: the dimensions, and a row for each, as long as it is wide
pub record HasOpeningShape {T : Type 0} (ms : List (Rows T)) (ds : List Size) (rows : List (List T)) : Type 0 where
  pub dimensions : AreDimensions ms ds
  pub widths : HaveWidths ds rows

-- the values of a row are those of row i of the matrix, by their ==
abbrev pub IsRowByEq : {T : Type 0} → (T → T → Bool) → ℕ → Rows T → List T → Type 0
IsRowByEq eq i m row = IsTrue (pointwise eq row (row_at m i))

-- the rows are of each matrix the one that belongs to row i of the highest
abbrev pub AreTheRows : {T : Type 0} → (T → T → Bool) → List (Rows T) → ℕ → List (List T) → Type 0
AreTheRows eq ms i rows = (most : ℕ) → IsGreatest (map (λ m. height m) ms) most → EachFrom ms rows (λ m row. IsRowByEq eq (row_in most (height m) i) m row)

-- the opening of row i is that of the matrices
pub record IsRowOpening {T : Type 0} (eq : T → T → Bool) (ms : List (Rows T)) (ds : List Size) (i : ℕ) (rows : List (List T)) : Type 0 where
  pub shape : HasOpeningShape ms ds rows
  pub place : IsRowOf ms i
  pub values : AreTheRows eq ms i rows

-- the checks of an opening: its shape, its place, and its values
abbrev pub row_opening_checks : Type 0 → Type 0 → Type 0 → List (Check PlainMmcsError)
row_opening_checks Shape Place Values = check Dimensions Shape ∷ check Index Place ∷ check Value Values ∷ []

-- the fault of an opening
abbrev pub IsOpeningFault : {T : Type 0} → (T → T → Bool) → List (Rows T) → List Size → ℕ → List (List T) → PlainMmcsError → Type 0
IsOpeningFault eq ms ds i rows e = FirstFails (row_opening_checks (HasOpeningShape ms ds rows) (IsRowOf ms i) (AreTheRows eq ms i rows)) e

-- the shape of several openings
pub record HaveOpeningShapes {T : Type 0} (ms : List (Rows T)) (ds : List Size) (is : List ℕ) (openings : List (List (List T))) : Type 0 where
  pub dimensions : AreDimensions ms ds
  pub count : length openings ≡ length is
  pub widths : All (HaveWidths ds) openings

-- the openings of these rows are those of the matrices
pub record AreRowOpenings {T : Type 0} (eq : T → T → Bool) (ms : List (Rows T)) (ds : List Size) (is : List ℕ) (openings : List (List (List T))) : Type 0 where
  pub shape : HaveOpeningShapes ms ds is openings
  pub places : All (IsRowOf ms) is
  pub values : EachFrom is openings (AreTheRows eq ms)

-- the fault of several openings
abbrev pub IsFaultOfOpenings : {T : Type 0} → (T → T → Bool) → List (Rows T) → List Size → List ℕ → List (List (List T)) → PlainMmcsError → Type 0
IsFaultOfOpenings eq ms ds is openings e = FirstFails (row_opening_checks (HaveOpeningShapes ms ds is openings) (All (IsRowOf ms) is) (EachFrom is openings (AreTheRows eq ms))) e
