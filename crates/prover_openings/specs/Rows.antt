-- The rows of matrices that are opened at one point or at two.
use Rattle.std.specs.Prelude.{List, [], ◌∷◌, map, Option, None, Some, Vec}
use Rattle.p3_uni_stark.specs.Opened.{PreprocessedData}

-- the first of some lists, empty where there is none
abbrev pub first_list : {A : Type 0} → List (List A) → List A
first_list [] = []
first_list (x ∷ xs) = x

-- the second item, where there is one
abbrev pub second_of : {A : Type 0} → List A → Option A
second_of [] = None
second_of (x ∷ []) = None
second_of (x ∷ y ∷ ys) = Some y

-- a row that is absent has no values
abbrev pub values_of_row : {E : Type 0} → Option (List E) → List E
values_of_row None = []
values_of_row (Some xs) = xs

-- the rows of a matrix that is opened at zeta, or at zeta and the next point
abbrev pub rows_in : {E : Type 0} → List (List E) → PreprocessedData E
rows_in matrix = record { local = first_list matrix; next = second_of matrix }

-- the rows of each matrix as lists
abbrev pub matrices_in : {E A : Type 0} → List (Vec (Vec E A) A) → List (List (List E))
matrices_in matrices = map (λ m. map (λ v. v.items) m.items) matrices

-- and of each round
abbrev pub rounds_in : {E A : Type 0} → List (Vec (Vec (Vec E A) A) A) → List (List (List (List E)))
rounds_in rounds = map (λ r. matrices_in r.items) rounds
