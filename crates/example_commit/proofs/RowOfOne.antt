-- The rows opened of one matrix.
use Rattle.std.proofs.Common.{◌≡◌, ◌∙◌, ℕ, ◌*◌, ◌/◌, ◌<◌, ◌≤◌, List, [], ◌∷◌, refl, subst, ap, arith}
use Rattle.std.proofs.Math.Nat.{mul-div_cancel}
use Rattle.std.proofs.lemmas.List.Elements.{All-cons, All-nil}
use Rattle.p3_matrix.specs.Matrix.{Rows, height, row_at}
use Rattle.commit_rows.specs.Batches.{AreRowsAt, row_in}
use Rattle.commit_core.specs.Periodic.{IsGreatest}

-- a row of the highest matrix is that with its number
own_row : (h i : ℕ) → i < h → row_in h h i ≡ i
own_row h i b =
    let whole : h ≡ 1 * h = omega arith in
    let one : h / h ≡ 1 = ap (λ k. k / h) whole ∙ mul-div_cancel 1 (omega arith) in
    ap (λ k. i / k) one ∙ (omega arith)

pub row_of_one : {T : Type 0} (m : Rows T) (ms : List (Rows T)) (i : ℕ) (rows : List (List T)) → ms ≡ m ∷ [] → i < height m → AreRowsAt ms i rows → rows ≡ row_at m i ∷ []
row_of_one m ms i rows one below are =
    let n = height m in
    let greatest : IsGreatest (n ∷ []) n = record { is_one = (0, omega arith, refl); none_greater = All-cons (λ x. x ≤ n) n [] (omega arith) (All-nil (λ x. x ≤ n)) } in
    let of_one : AreRowsAt (m ∷ []) i rows = subst (λ l. AreRowsAt l i rows) one are in
    of_one n greatest ∙ ap (λ k. row_at m k ∷ []) (own_row n i below)
