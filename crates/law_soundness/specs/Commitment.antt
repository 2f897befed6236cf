-- What a commitment of the plain scheme binds to: polynomials that can be read off it (not in
-- Plonky3).
use Rattle.std.specs.Prelude.{ℕ, List, []}
use Rattle.std.specs.Prelude.{slice_index_or as get_or}
use Rattle.p3_matrix.specs.Matrix.{Rows}
use Rattle.plain_pcs.specs.Binding.{committed_polynomials}
use Rattle.plain_pcs.specs.Scheme.{Scheme, PlainCommitmentData}

-- a matrix past the end of a commitment, which no table has
abbrev pub no_matrix : {F : Type 0} → Rows F
no_matrix = record { values = []; width = 0 }

-- matrix number `place` of a commitment
abbrev pub matrix_at : {F : Type 0} → PlainCommitmentData F → (place : ℕ) → Rows F
matrix_at c place = get_or c.matrices place no_matrix

-- the polynomials of its columns, which were given on 2^log_height rows
abbrev pub polynomials_at : {F : Type 0} → Scheme F → (log_height : ℕ) → PlainCommitmentData F → (place : ℕ) → List (List F)
polynomials_at s log_height c place = (committed_polynomials s log_height (matrix_at c place)).polynomials
