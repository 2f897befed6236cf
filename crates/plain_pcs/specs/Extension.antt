-- Low-degree extensions: the values of columns' polynomials on a larger coset (the rule of FRI-based schemes, here without
-- any hashing).
use Rattle.std.specs.Prelude.{◌≡◌, ℕ, zero, suc, ◌+◌, ◌^◌, ◌<◌, ◌≤◌, List, [], ◌++◌, length, map, get_or}
use Rattle.p3_field.specs.Field.{TwoAdic}
use Rattle.p3_field.specs.Poly.{eval_poly, tabulate}
use Rattle.p3_field.specs.Domain.{CosetData, point}
use Rattle.p3_field.specs.Newton.{newton}
use Rattle.p3_matrix.specs.Matrix.{Rows, height, column}
use Rattle.plain_pcs.specs.Scheme.{Scheme, PlainCommitmentData}

-- the columns of a matrix; z, which no cell in range reads, is the answer past the end
abbrev pub columns : {F : Type 0} → F → Rows F → List (List F)
columns z m = tabulate m.width (column z m)

-- the rows 0 to n - 1, one after another
unfoldable pub row_major : {A : Type 0} → ℕ → (ℕ → List A) → List A
row_major zero row = []
row_major (suc n) row = row_major n row ++ row n

-- the values of polynomials on a domain: a row for each point, a column for each polynomial
unfoldable pub evaluations : {F : Type 0} → TwoAdic F → CosetData F → List (List F) → Rows F
evaluations t d fs = record {
  values = row_major (2 ^ d.log_size) (λ i. map (λ f. eval_poly t.ring f (point t.ring t.root d i)) fs);
  width = length fs;
}

-- the polynomial with these values on a domain, by as many coefficients (Newton's form; no other list of that length has
-- these values)
abbrev pub interpolant : {F : Type 0} → TwoAdic F → CosetData F → List F → List F
interpolant t d v = newton t.ring t.inv (length v) (point t.ring t.root d) (λ i. get_or v i t.ring.zero)

-- where columns on a domain of size 2^k are extended: the coset whose shift is the field's GENERATOR, 2^log_blowup times
-- as large
abbrev pub extended_domain : {F : Type 0} → Scheme F → ℕ → CosetData F
extended_domain s k = record { shift = s.field.generator; log_size = k + s.log_blowup }

-- the extension of a matrix whose columns are given on a domain
unfoldable pub extension_of : {F : Type 0} → Scheme F → CosetData F → Rows F → Rows F
extension_of s d m = evaluations s.field (extended_domain s d.log_size) (map (interpolant s.field d) (columns s.field.ring.zero m))

-- the commitment to matrices on domains
abbrev pub commitment_of : {F : Type 0} → Scheme F → List (CosetData F × Rows F) → PlainCommitmentData F
commitment_of s evaluated = record { matrices = map (λ e. extension_of s e.0 e.1) evaluated }

-- the matrix has columns, a row for each point of its domain, and a domain large enough for its extension is there
pub record IsCommittable {F : Type 0} (s : Scheme F) (d : CosetData F) (m : Rows F) : Type 0 where
  pub has_columns : 0 < m.width
  pub height_is : height m ≡ 2 ^ d.log_size
  pub fits : d.log_size + s.log_blowup ≤ s.most

-- l is the extension of such a matrix m; the domain's shift isn't zero
pub record Extends {F : Type 0} (s : Scheme F) (d : CosetData F) (m l : Rows F) : Type 0 where
  pub shift_not_zero : d.shift ≡ s.field.ring.zero → ⊥
  pub committable : IsCommittable s d m
  pub extension_is : l ≡ extension_of s d m
