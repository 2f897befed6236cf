-- The butterflies on rows, place by place.
use Rattle.std.proofs.Common.{◌≡◌, ℕ, ◌+◌, ◌-◌, ◌*◌, ◌/◌, ◌<◌, ◌≤◌, ◌∙◌, inl, inr, List, refl, sym, ap, arith, length, get_or, set, get_or-set_same, get_or-set_other}
use Rattle.std.proofs.lemmas.Bool.{cases_lt}
use Rattle.std.proofs.lemmas.Nat.{mul-add-lt, div-mul-add}
use Rattle.p3_field.specs.Ring.{Ring, sub}
use Rattle.p3_field.specs.Domain.{coset_point}
use Rattle.p3_dft.specs.Reversed.{summed, subtracted}

-- the first n places are combined, and the others as they were
pub record IsCombined {A : Type 0} (r : Ring A) (w : ℕ) (s h : A) (e o first second : List A) (n : ℕ) : Type 0 where
  pub first_done : (k : ℕ) → k < n → get_or first k r.zero ≡ summed r w s h e o k
  pub second_done : (k : ℕ) → k < n → get_or second k r.zero ≡ subtracted r w s h e o k
  pub first_rest : (k : ℕ) → n ≤ k → get_or first k r.zero ≡ get_or e k r.zero
  pub second_rest : (k : ℕ) → n ≤ k → get_or second k r.zero ≡ get_or o k r.zero

pub none_combined : {A : Type 0} (r : Ring A) (w : ℕ) (s h : A) (e o : List A) (n : ℕ) → n ≡ 0 → IsCombined r w s h e o e o n
none_combined r w s h e o n z = record {
  first_done = λ k b. absurd (omega arith);
  second_done = λ k b. absurd (omega arith);
  first_rest = λ k b. refl;
  second_rest = λ k b. refl;
}

pub one_more_combined : {A : Type 0} (r : Ring A) (w : ℕ) (s h : A) (e o first second : List A) (n i : ℕ) (point turned x y : A) → IsCombined r w s h e o first second n → n < length first → n < length second
    → n / w ≡ i → point ≡ coset_point r s h i → turned ≡ r.mul point (get_or second n r.zero) → x ≡ r.add (get_or first n r.zero) turned → y ≡ sub r (get_or first n r.zero) turned
    → IsCombined r w s h e o (set first n x) (set second n y) (n + 1)
unfolding summed subtracted
one_more_combined r w s h e o first second n i point turned x y C a b row p t d f =
    let old_e : get_or first n r.zero ≡ get_or e n r.zero = C.first_rest n (omega arith) in
    let old_o : get_or second n r.zero ≡ get_or o n r.zero = C.second_rest n (omega arith) in
    let at : point ≡ coset_point r s h (n / w) = p ∙ ap (coset_point r s h) (sym row) in
    let sum : x ≡ r.add (get_or e n r.zero) (r.mul (coset_point r s h (n / w)) (get_or o n r.zero)) = cc (old_e, old_o, at, t, d) in
    let difference : y ≡ sub r (get_or e n r.zero) (r.mul (coset_point r s h (n / w)) (get_or o n r.zero)) =
    f ∙ (ap (λ z. sub r z turned) old_e ∙ ap (sub r (get_or e n r.zero)) (t ∙ cc (old_o, at))) in
    record {
      first_done = λ k c. elim (cases_lt k n) [
        | inl l ↦ get_or-set_other first n k x r.zero (omega arith) ∙ C.first_done k l
        | inr g ↦
            let same : k ≡ n = omega arith in
            ap (λ j. get_or (set first n x) j r.zero) same ∙ (get_or-set_same first n x r.zero a ∙ (sum ∙ ap (λ j. r.add (get_or e j r.zero) (r.mul (coset_point r s h (j / w)) (get_or o j r.zero))) (sym same)))
      ];
      second_done = λ k c. elim (cases_lt k n) [
        | inl l ↦ get_or-set_other second n k y r.zero (omega arith) ∙ C.second_done k l
        | inr g ↦
            let same : k ≡ n = omega arith in
            ap (λ j. get_or (set second n y) j r.zero) same ∙ (get_or-set_same second n y r.zero b ∙ (difference ∙ ap (λ j. sub r (get_or e j r.zero) (r.mul (coset_point r s h (j / w)) (get_or o j r.zero))) (sym same)))
      ];
      first_rest = λ k c. get_or-set_other first n k x r.zero (omega arith) ∙ C.first_rest k (omega arith);
      second_rest = λ k c. get_or-set_other second n k y r.zero (omega arith) ∙ C.second_rest k (omega arith);
    }

-- a place of row i
pub place_below : (n w i at : ℕ) → n / w * w ≡ n → i < n / w → i * w ≤ at → at < i * w + w → at < n
place_below n w i at e a l b =
    let d = at - i * w in
    let inside : d < w = omega arith in
    omega (arith, mul-add-lt i w d (n / w) a inside, e)

pub row_of_place : (w i at : ℕ) → i * w ≤ at → at < i * w + w → at / w ≡ i
row_of_place w i at l b =
    let d = at - i * w in
    let inside : d < w = omega arith in
    let sum : at ≡ i * w + d = omega arith in
    ap (λ k. k / w) sum ∙ div-mul-add i w d inside
