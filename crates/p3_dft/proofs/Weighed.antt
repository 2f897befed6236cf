-- Rows times weights, place by place.
use Rattle.std.proofs.Common.{◌≡◌, ℕ, ◌+◌, ◌*◌, ◌/◌, ◌<◌, ◌≤◌, ◌∙◌, inl, inr, List, refl, sym, ap, subst, arith, length, get_or, set, length-set, get_or-set_same, get_or-set_other}
use Rattle.std.proofs.lemmas.Bool.{cases_lt}
use Rattle.std.proofs.lemmas.Nat.{div-mul-add}
use Rattle.std.proofs.lemmas.List.{ext_get_or}
use Rattle.p3_field.specs.Ring.{Ring}
use Rattle.p3_field.specs.Poly.{tabulate}
use Rattle.p3_field.specs.Domain.{coset_point}
use Rattle.p3_field.specs.Laws.Tabulate.{length-tabulate, get_or-tabulate}
use Rattle.p3_matrix.specs.Matrix.{Rows, FillsRows, height, column}
use Rattle.p3_matrix.specs.Laws.Cells.{length-column, get_or-column}
use Rattle.p3_matrix.specs.Laws.Grids.{in_matrix}
use Rattle.p3_dft.specs.Transform.{weighted}

-- the first n places are weighed, and the others as they were
pub record IsWeighed {A : Type 0} (r : Ring A) (w : ℕ) (s h : A) (old new : List A) (n : ℕ) : Type 0 where
  pub count : length new ≡ length old
  pub done : (k : ℕ) → k < n → get_or new k r.zero ≡ r.mul (get_or old k r.zero) (coset_point r s h (k / w))
  pub rest : (k : ℕ) → n ≤ k → get_or new k r.zero ≡ get_or old k r.zero

pub none_weighed : {A : Type 0} (r : Ring A) (w : ℕ) (s h : A) (old : List A) (n : ℕ) → n ≡ 0 → IsWeighed r w s h old old n
none_weighed r w s h old n z = record { count = refl; done = λ k b. absurd (omega arith); rest = λ k b. refl }

pub one_more_weighed : {A : Type 0} (r : Ring A) (w : ℕ) (s h : A) (old new : List A) (n i : ℕ) (factor x : A) → IsWeighed r w s h old new n → n < length old → n / w ≡ i → factor ≡ coset_point r s h i
    → x ≡ r.mul (get_or new n r.zero) factor → IsWeighed r w s h old (set new n x) (n + 1)
one_more_weighed r w s h old new n i factor x W b row p q =
    let inside : n < length new = omega (arith, W.count) in
    let before : get_or new n r.zero ≡ get_or old n r.zero = W.rest n (omega arith) in
    let value : x ≡ r.mul (get_or old n r.zero) (coset_point r s h (n / w)) = cc (q, before, p, row) in
    record {
      count = length-set new n x ∙ W.count;
      done = λ k c. elim (cases_lt k n) [
        | inl l ↦ get_or-set_other new n k x r.zero (omega arith) ∙ W.done k l
        | inr g ↦
            let same : k ≡ n = omega arith in
            ap (λ j. get_or (set new n x) j r.zero) same ∙ (get_or-set_same new n x r.zero inside ∙ (value ∙ ap (λ j. r.mul (get_or old j r.zero) (coset_point r s h (j / w))) (sym same)))
      ];
      rest = λ k c. get_or-set_other new n k x r.zero (omega arith) ∙ W.rest k (omega arith);
    }

pub weighed_column : {A : Type 0} (r : Ring A) (s h : A) (m v : Rows A) (j : ℕ) → FillsRows m.values m.width → v.width ≡ m.width → height v ≡ height m → IsWeighed r m.width s h m.values v.values (length m.values) → j < m.width
    → column r.zero v j ≡ weighted r s h (column r.zero m j)
unfolding weighted
weighed_column r s h m v j fills wide tall W b =
    let c = column r.zero m j in
    let t : ℕ → _ = λ i. r.mul (get_or c i r.zero) (coset_point r s h i) in
    ext_get_or r.zero (column r.zero v j) (tabulate (length c) t)
    (length-column r.zero v j ∙ (tall ∙ (sym (length-column r.zero m j) ∙ sym (length-tabulate (length c) t))))
    (λ i d.
    let high : i < height v = omega (arith, length-column r.zero v j) in
    let row : i < height m = omega (arith, tall) in
    let long : i < length c = omega (arith, length-column r.zero m j) in
    let at = i * m.width + j in
    let inside : at < length m.values = in_matrix m i j fills row b in
    get_or-column r.zero v j i high
    ∙ (ap (λ w. get_or v.values (i * w + j) r.zero) wide
    ∙ (W.done at inside
    ∙ (ap (λ x. r.mul (get_or m.values at r.zero) (coset_point r s h x)) (div-mul-add i m.width j b)
    ∙ (ap (λ x. r.mul x (coset_point r s h i)) (sym (get_or-column r.zero m j i row)) ∙ sym (get_or-tabulate (length c) t i r.zero long))))))

pub same_weighed : {A : Type 0} (r : Ring A) (v w : ℕ) (s h : A) (old new xs : List A) (n k : ℕ) → v ≡ w → new ≡ xs → n ≡ k → IsWeighed r v s h old new n → IsWeighed r w s h old xs k
same_weighed r v w s h old new xs n k p q e W =
    subst (λ (i : ℕ). IsWeighed r w s h old xs i) e (subst (λ l. IsWeighed r w s h old l n) q (subst (λ (i : ℕ). IsWeighed r i s h old new n) p W))
