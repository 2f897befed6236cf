-- What fills its rows, in the words of matrices.
use Rattle.std.proofs.Common.{◌≡◌, ℕ, zero, suc, ◌*◌, ◌/◌, Bool, true, false, ◌&&◌, refl, ap, sym, ◌∙◌, arith}
use Rattle.std.proofs.lemmas.Bool.{eqb-true}
use Rattle.std.proofs.Math.Nat.{div-zero, mul-div_cancel_left, mul_comm}
use Rattle.json_proof_files.specs.MatrixTrees.{fills}

pub filled : (rows count columns : ℕ) → fills rows count columns ≡ true → count / columns * columns ≡ count
filled rows count columns e = filled-at columns rows count (eqb-true (columns * rows) count (first-true _ _ e))
  where
    first-true : (a b : Bool) → (a && b) ≡ true → a ≡ true
    first-true true b e = refl
    first-true false b e = absurd (cc)

    filled-at : (w h n : ℕ) → w * h ≡ n → n / w * w ≡ n
    filled-at zero h n e = rw (div-zero n) (omega (arith, e))
    filled-at (suc w) h n e =
        let whole : n / suc w ≡ h = ap (λ (k : ℕ). k / suc w) (sym e) ∙ mul-div_cancel_left h (omega arith) in
        rw whole (mul_comm h (suc w) ∙ e)
