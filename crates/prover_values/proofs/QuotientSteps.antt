-- Facts on numbers, lists and options that the quotient's loop needs.
use Rattle.std.proofs.Common.{◌≡◌, ℕ, ◌+◌, ◌^◌, ◌<◌, ◌≤◌, ◌++◌, Option, Some, None, List, length, refl, ◌∙◌, ap, arith, length-append}
use Rattle.std.specs.Prelude.{IfSome}
use Rattle.std.specs.Option.{option_map}
use Rattle.std.proofs.Math.Nat.{pow-le-pow_right}
use Rattle.p3_field.specs.Field.{Extension, VectorLaws}
use Rattle.p3_field.specs.Poly.{tabulate}
use Rattle.p3_field.specs.Laws.Tabulate.{length-tabulate}
use Rattle.p3_matrix.specs.Matrix.{Rows, height}
use Rattle.p3_matrix.specs.Laws.Flattened.{height-pieces}
use Rattle.air_core.specs.Layout.{place_count}
use Rattle.batch_constraints.specs.BatchTrees.{places_of}
use Rattle.law_committed.specs.Rows.{flattened_matrix}

-- a place and a step further fit a machine word
pub further_fits : (row step size k c top : ℕ) → size ≡ 2 ^ k → step ≡ 2 ^ c → k ≤ top → c ≤ k → top < 64 → row < size → row + step < 2 ^ 64
further_fits row step size k c top e d h l t b =
    let two : 0 < 2 = omega arith in
    let small : k ≤ 63 = omega arith in
    let smaller : c ≤ 63 = omega arith in
    let first : 2 ^ k ≤ 2 ^ 63 = pow-le-pow_right {n = 2} two {i = k} {j = 63} small in
    let second : 2 ^ c ≤ 2 ^ 63 = pow-le-pow_right {n = 2} two {i = c} {j = 63} smaller in
    omega (arith, first, second, e, d, b)

-- a place below the size is one of a table's
pub within : {X : Type 0} (xs : List X) (n size row : ℕ) (t : ℕ → X) → xs ≡ tabulate n t → size ≡ n → row < size → row < length xs
within xs n size row t is e h = omega (arith, ap length is, length-tabulate n t, e, h)

-- what holds of an item holds of its image
pub if_some_mapped : {X Y : Type 0} (f : X → Y) (P : Y → Type 0) (o : Option X) → IfSome o (λ x. P (f x)) → IfSome (option_map f o) P
if_some_mapped f P None h = h
if_some_mapped f P (Some x) h = h

-- flattened columns have the height of those that they make
pub flattened_tall : {F E : Type 0} (e : Extension F E) → VectorLaws e.dimension e.coefficients e.from_coefficients → (m : Option (Rows E)) (n : ℕ) → IfSome m (λ r. height r ≡ n)
    → IfSome (option_map (flattened_matrix e) m) (λ r. height r ≡ n)
flattened_tall e V None n h = h
flattened_tall e V (Some m) n h = height-pieces e.coefficients e.dimension V.coefficients_length V.positive m (flattened_matrix e m) refl refl ∙ h

-- the number of a table's constraints
pub total_is : {X : Type 0} (own others : List X) → place_count (places_of (length own) (length others)) ≡ length (own ++ others)
total_is own others = omega (arith, length-tabulate (length own) (λ i. i), length-tabulate (length others) (λ i. length own + i), length-append own others)
