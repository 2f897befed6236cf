-- Matrices that may be absent: what their flattened ones have, and what is behind references.
use Rattle.std.proofs.Common.{◌≡◌, ℕ, zero, suc, ◌+◌, ◌*◌, ◌/◌, ◌^◌, ◌<◌, ◌≤◌, Option, Some, None, List, length, map, refl, sym, ◌∙◌, ap, subst, arith}
use Rattle.std.specs.Prelude.{IfSome}
use Rattle.std.specs.List.{All}
use Rattle.std.specs.Option.{option_map}
use Rattle.std.proofs.Math.Nat.{div-zero, mul-div_cancel, pow-le-pow_right}
use denote.Bor.{Bor}
use Rattle.p3_field.specs.Field.{Extension, VectorLaws}
use Rattle.p3_matrix.specs.Matrix.{Rows, height}
use Rattle.p3_matrix.specs.Laws.Flattened.{height-pieces}
use Rattle.air_core.specs.Shape.{width_of}
use Rattle.commit_core.specs.Periodic.{IsPeriod}
use Rattle.batch_constraints.specs.Laws.Images.{all_of_map}
use Rattle.law_committed.specs.Rows.{flattened_matrix}
use Rattle.prover_values.specs.QuotientRows.{permutation_column_count}

-- what holds of what is behind a reference that may be there
pub of_reference : {X : Type 0} (P : X → Type 0) (o : Option (Bor X)) → IfSome (option_map (λ m. m.now) o) P → IfSome o (λ m. P m.now)
of_reference P None h = h
of_reference P (Some m) h = h

pub in_front : {X : Type 0} (P : X → Type 0) (o : Option (Bor X)) → IfSome o (λ m. P m.now) → IfSome (option_map (λ m. m.now) o) P
in_front P None h = h
in_front P (Some m) h = h

-- the numbers of rows and columns of a matrix, from those of its flattened one
pub unflattened_tall : {F E : Type 0} (e : Extension F E) → VectorLaws e.dimension e.coefficients e.from_coefficients → (m : Option (Rows E)) (n : ℕ) → IfSome (option_map (flattened_matrix e) m) (λ r. height r ≡ n)
    → IfSome m (λ r. height r ≡ n)
unflattened_tall e V None n h = h
unflattened_tall e V (Some m) n h = sym (height-pieces e.coefficients e.dimension V.coefficients_length V.positive m (flattened_matrix e m) refl refl) ∙ h

pub unflattened_wide : {F E : Type 0} (e : Extension F E) → VectorLaws e.dimension e.coefficients e.from_coefficients → (m : Option (Rows E)) (n : ℕ) → width_of (option_map (flattened_matrix e) m) ≡ n * e.dimension
    → width_of m ≡ n
unflattened_wide e V None n h = let z : 0 * e.dimension ≡ n * e.dimension = omega (arith, h) in sym (mul-div_cancel 0 V.positive) ∙ (ap (λ k. k / e.dimension) z ∙ mul-div_cancel n V.positive)
unflattened_wide e V (Some m) n h = sym (mul-div_cancel m.width V.positive) ∙ (ap (λ k. k / e.dimension) h ∙ mul-div_cancel n V.positive)

-- a matrix with rows has a column for the running sum and one for each lookup
pub some_wide : {F : Type 0} (m : Option (Rows F)) (lookups d N : ℕ) → 0 < N → IfSome m (λ r. height r ≡ N) → width_of m ≡ permutation_column_count lookups * d → IfSome m (λ r. r.width ≡ (lookups + 1) * d)
some_wide None lookups d N pos tall wide = tt
some_wide (Some m) zero d N pos tall wide =
    let none : m.width ≡ 0 = omega (arith, wide) in
    let flat : length m.values / m.width ≡ 0 = ap (λ k. length m.values / k) none ∙ div-zero (length m.values) in
    absurd (omega (arith, flat, tall, pos))
some_wide (Some m) (suc lookups) d N pos tall wide = wide

-- periods that fit so many rows, in columns as a program has them
pub periods_along : {F V : Type 0} (items : V → List F) (cs : List V) (columns : List (List F)) (n m : ℕ) → n ≡ m → map items cs ≡ columns → All (λ c. IsPeriod m (length c)) columns
    → All (λ v. IsPeriod n (length (items v))) cs
periods_along {F} items cs columns n m e is fit =
    all_of_map (λ (l : List F). IsPeriod n (length l)) items cs columns is (subst (λ (k : ℕ). All (λ c. IsPeriod k (length c)) columns) (sym e) fit)

-- a larger domain has no fewer points
pub points_fewer : (k l n m : ℕ) → k ≤ l → n ≡ 2 ^ k → m ≡ 2 ^ l → n ≤ m
points_fewer k l n m h e d =
    let two : 0 < 2 = omega arith in
    let more : 2 ^ k ≤ 2 ^ l = pow-le-pow_right {n = 2} two {i = k} {j = l} h in
    omega (arith, more, e, d)
