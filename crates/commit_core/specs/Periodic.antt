-- Periodic columns, which list one period of values and repeat it over all rows. The rules are those of Plonky3's
-- p3-commit (PeriodicColumns, PolynomialSpace, PeriodicLdeTable).
use Rattle.std.specs.Prelude.{◌≡◌, ℕ, ◌/◌, ◌%◌, ◌<◌, ◌≤◌, ◌⊎◌, List, [], ◌∷◌, Contains, Some, length, slice_get}
use Rattle.std.specs.Int.{IsPowerOfTwo, ◌∣◌}
use Rattle.std.specs.List.{All, repeat}
use Rattle.p3_field.specs.Ring.{Ring}
use Rattle.p3_field.specs.Checks.{Check, check, FirstFails, of_items}
use Rattle.p3_matrix.specs.Matrix.{Rows, height, cell_at}
use Rattle.p3_matrix.specs.Interpolation.{IsInterpolatedAt}
use Rattle.commit_core.specs.Space.{EachOf}
use Rattle.commit_core.specs.declared.periodic.PeriodicColumnShapeError.{PeriodicColumnShapeError}
use Rattle.commit_core.specs.declared.periodic.PeriodicColumnShapeError.TheVariants.{LengthNotPowerOfTwo, LengthNotDividingHeight}

-- A column of this length can be laid over so many rows: there is a subgroup of its size, and whole copies fill the
-- rows. Every length divides 0.
abbrev pub IsPeriod : ℕ → ℕ → Type 0
IsPeriod height length = IsPowerOfTwo length × (length ∣ height)

-- the checks of a column of this length: a power of two, before a divisor of the number of rows
abbrev pub period_checks : ℕ → ℕ → ℕ → List (Check PeriodicColumnShapeError)
period_checks height index length =
    check (LengthNotPowerOfTwo index length) (IsPowerOfTwo length) ∷ check (LengthNotDividingHeight index length height) (length ∣ height) ∷ []

-- the error that names the first column that can't be laid over so many rows, and says what its length fails
abbrev pub NamesFirstUnfit : ℕ → List ℕ → PeriodicColumnShapeError → Type 0
NamesFirstUnfit height lengths e = FirstFails (of_items (period_checks height) lengths) e

-- n is one of the numbers, and none of them is greater
pub record IsGreatest (xs : List ℕ) (n : ℕ) : Type 0 where
  pub is_one : Contains xs n
  pub none_greater : All (λ x. x ≤ n) xs

-- a column over n rows: its period, as often as it goes into n
unfoldable pub over_rows : {A : Type 0} → ℕ → List A → List A
over_rows n column = repeat (n / length column) column

-- y is the value at x of the interpolant on n points of this column, repeated over them
abbrev pub IsPeriodicAt : {A B : Type 0} → Ring A → Ring B → (A → B) → ℕ → (ℕ → A) → B → List A → B → Type 0
IsPeriodicAt r s embed n p x column y = IsInterpolatedAt r s embed p (over_rows n column) x y

-- there is an item of ys for each of xs, in order, and R relates the two
abbrev pub EachFrom : {X Y : Type 0} → List X → List Y → (X → Y → Type 0) → Type 0
EachFrom {X} xs ys R = EachOf (length xs) ys (λ i y. (x : X) → slice_get xs i ≡ Some x → R x y)

-- The table t has a column for each periodic one. At row i, taken modulo its height, it reads the values at point q i
-- of the columns' interpolants on the n points p, for each of the m points q.
pub record IsPeriodicTable {A : Type 0} (r : Ring A) (n : ℕ) (p : ℕ → A) (m : ℕ) (q : ℕ → A) (columns : List (List A)) (t : Rows A) : Type 0 where
  pub width_is : t.width ≡ length columns
  pub has_rows : 0 < length columns → 0 < height t
  pub cell_is : (j : ℕ) (column : List A) (i : ℕ) → slice_get columns j ≡ Some column → i < m
      → IsPeriodicAt r r (λ y. y) n p (q i) column (cell_at r.zero t (i % height t) j)

-- how many rows a table may have: none, or a power of two
abbrev pub IsTableHeight : ℕ → Type 0
IsTableHeight n = (n ≡ 0) ⊎ IsPowerOfTwo n
