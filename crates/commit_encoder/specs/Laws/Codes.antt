-- The shape of a code.
use Rattle.std.proofs.Common.{◌≡◌, ℕ, ◌+◌, ◌*◌, ◌/◌, ◌^◌, ◌<◌, inl, inr, length, sym, ◌∙◌, ap, arith}
use Rattle.std.specs.Int.{IsPowerOfTwo}
use Rattle.std.proofs.lemmas.Bool.{cases_eq}
use Rattle.std.proofs.lemmas.Nat.{pow_pos, pow-add}
use Rattle.p3_field.specs.Ring.{Ring}
use Rattle.p3_field.specs.Poly.{eval_poly}
use Rattle.p3_field.specs.Domain.{coset_point}
use Rattle.p3_field.specs.Laws.Tabulate.{length-tabulate}
use Rattle.p3_matrix.specs.Matrix.{Rows, height, column}
use Rattle.p3_matrix.specs.Laws.Cells.{length-column, width_positive}
use Rattle.p3_dft.specs.Transform.{values_at}
use Rattle.commit_encoder.specs.Encoder.{IsCodeOf}

-- a code is as wide as its message, and 2^rate times as high
pub code_shape : {A : Type 0} (r : Ring A) (root : ℕ → A) (m code : Rows A) (rate : ℕ) → IsPowerOfTwo (height m) → IsCodeOf r root m rate code → (code.width ≡ m.width) × (height code ≡ height m * 2 ^ rate)
unfolding values_at
code_shape r root m code rate p C =
    let k = p.0 + rate in
    let size : height m * 2 ^ rate ≡ 2 ^ k = ap (λ n. n * 2 ^ rate) p.1 ∙ sym (pow-add 2 p.0 rate) in
    let column_is = C.column_is 0 k (width_positive m p) size in
    let high : height code ≡ 2 ^ k =
    sym (length-column r.zero code 0) ∙ (ap length column_is ∙ length-tabulate (2 ^ k) (λ i. eval_poly r (column r.zero m 0) (coset_point r r.one (root k) i))) in
    (C.width_is, high ∙ sym size)
