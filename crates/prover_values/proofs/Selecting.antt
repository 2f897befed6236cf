-- Selectors as quotients of values that repeat.
use Rattle.std.proofs.Common.{◌≡◌, ℕ, ◌-◌, ◌%◌, ◌^◌, ◌<◌, ◌≤◌, ◌⊎◌, List, length, get_or, refl, ◌∙◌, ap, arith}
use Rattle.std.proofs.Math.Nat.{pow-le-pow_right}
use Rattle.std.proofs.lemmas.Nat.{pow_pos, mod_below}
use Rattle.p3_field.specs.Ring.{Ring, RingLaws}
use Rattle.p3_field.specs.Field.{FieldLaws, TwoAdicLaws}
use Rattle.p3_field.specs.Poly.{eval_poly, tabulate}
use Rattle.p3_field.specs.Domain.{CosetData, point, vanishing_polynomial, first_selector, last_selector}
use Rattle.p3_field.specs.Laws.Tabulate.{length-tabulate, get_or-tabulate, tabulate_same}
use Rattle.commit_core.specs.Space.{AreDisjoint}
use Rattle.commit_core.specs.Laws.SelectorLaws.{from_first, from_last, first_at, last_at, nonzero_items, vanishing_not_zero}
use Rattle.prover_values.specs.Laws.Repeating.{vanishing_repeats}

-- each of n dividends, over and over, over the divisor at its place
quotients_of : {A : Type 0} (r : Ring A) (inv : A → A) (xs ys : List A) (n m : ℕ) (t u w : ℕ → A) → 0 < n → xs ≡ tabulate n t → ys ≡ tabulate m u
    → ((i : ℕ) → i < m → r.mul (t (i % n)) (inv (u i)) ≡ w i) → tabulate (length ys) (λ i. r.mul (get_or xs (i % length xs) r.zero) (inv (get_or ys i r.zero))) ≡ tabulate m w
quotients_of r inv xs ys n m t u w pos e d h =
    let long : length xs ≡ n = ap length e ∙ length-tabulate n t in
    ap (λ k. tabulate k (λ i. r.mul (get_or xs (i % length xs) r.zero) (inv (get_or ys i r.zero)))) (ap length d ∙ length-tabulate m u)
    ∙ tabulate_same m (λ i. r.mul (get_or xs (i % length xs) r.zero) (inv (get_or ys i r.zero))) w
    (λ i b. cc (
      ap (λ k. get_or xs (i % k) r.zero) long,
      ap (λ l. get_or l (i % n) r.zero) e ∙ get_or-tabulate n t (i % n) r.zero (mod_below i n pos),
      ap (λ l. get_or l i r.zero) d ∙ get_or-tabulate m u i r.zero b,
      h i b,
    ))

module _ {A : Type 0} (r : Ring A) (L : RingLaws r) (inv : A → A) (W : FieldLaws r inv) (top : ℕ) (root : ℕ → A) (T : TwoAdicLaws r top root)
    (dec : (x y : A) → (x ≡ y) ⊎ (x ≡ y → ⊥)) (d e : CosetData A) (nz : d.shift ≡ r.zero → ⊥) (fits : d.log_size ≤ top)
    (apart : AreDisjoint (2 ^ d.log_size) (point r root d) (2 ^ e.log_size) (point r root e)) (larger : d.log_size ≤ e.log_size) (inside : e.log_size ≤ top)
    (vs : List A) (are : vs ≡ tabulate (2 ^ (e.log_size - d.log_size)) (λ i. eval_poly r (vanishing_polynomial r inv d) (point r root e i))) where
  abbrev step : ℕ
  step = 2 ^ (e.log_size - d.log_size)

  repeats : (i : ℕ) → eval_poly r (vanishing_polynomial r inv d) (point r root e (i % 2 ^ (e.log_size - d.log_size))) ≡ eval_poly r (vanishing_polynomial r inv d) (point r root e i)
  repeats i = vanishing_repeats r L top root T e d.log_size (e.log_size - d.log_size) (omega (arith, larger)) inside inv W d nz refl i

  pub some : 0 < length vs
  some = omega (arith, ap length are, length-tabulate step (λ i. eval_poly r (vanishing_polynomial r inv d) (point r root e i)), pow_pos (e.log_size - d.log_size))

  pub values_not_zero : (i : ℕ) → i < length vs → get_or vs i r.zero ≡ r.zero → ⊥
  values_not_zero = nonzero_items r.zero vs step (λ i. eval_poly r (vanishing_polynomial r inv d) (point r root e i)) are (λ i b. vanishing_not_zero r L inv W top root T dec d e nz fits apart i (omega (arith, b, fewer)))
    where
      fewer : 2 ^ (e.log_size - d.log_size) ≤ 2 ^ e.log_size
      fewer = pow-le-pow_right {n = 2} (omega arith) (omega arith)

  pub firsts : (xs : List A) → xs ≡ tabulate (2 ^ e.log_size) (from_first r L inv W top root T dec d e nz fits apart)
      → tabulate (length xs) (λ i. r.mul (get_or vs (i % length vs) r.zero) (inv (get_or xs i r.zero))) ≡ tabulate (2 ^ e.log_size) (λ i. eval_poly r (first_selector r inv d) (point r root e i))
  firsts xs h =
      quotients_of r inv vs xs step (2 ^ e.log_size) (λ i. eval_poly r (vanishing_polynomial r inv d) (point r root e i)) (from_first r L inv W top root T dec d e nz fits apart) (λ i. eval_poly r (first_selector r inv d) (point r root e i))
      (pow_pos (e.log_size - d.log_size)) are h
      (λ i b. ap (λ v. r.mul v (inv (from_first r L inv W top root T dec d e nz fits apart i))) (repeats i) ∙ first_at r L inv W top root T dec d e nz fits apart i b)

  pub lasts : (xs : List A) → xs ≡ tabulate (2 ^ e.log_size) (from_last r L inv W top root T dec d e nz fits apart)
      → tabulate (length xs) (λ i. r.mul (get_or vs (i % length vs) r.zero) (inv (get_or xs i r.zero))) ≡ tabulate (2 ^ e.log_size) (λ i. eval_poly r (last_selector r inv root d) (point r root e i))
  lasts xs h =
      quotients_of r inv vs xs step (2 ^ e.log_size) (λ i. eval_poly r (vanishing_polynomial r inv d) (point r root e i)) (from_last r L inv W top root T dec d e nz fits apart) (λ i. eval_poly r (last_selector r inv root d) (point r root e i))
      (pow_pos (e.log_size - d.log_size)) are h
      (λ i b. ap (λ v. r.mul v (inv (from_last r L inv W top root T dec d e nz fits apart i))) (repeats i) ∙ last_at r L inv W top root T dec d e nz fits apart i b)
