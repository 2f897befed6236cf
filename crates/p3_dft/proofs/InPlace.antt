-- A transform of rows in place, step by step.
use Rattle.std.proofs.Common.{◌≡◌, ℕ, zero, suc, ◌+◌, ◌-◌, ◌*◌, ◌/◌, ◌^◌, ◌<◌, ◌≤◌, ◌∙◌, inl, inr, List, [], ◌∷◌, ◌++◌, refl, sym, ap, subst, arith, length, get_or}
use Rattle.std.proofs.lemmas.Bool.{cases_lt}
use Rattle.std.proofs.lemmas.Nat.{mul-add-lt, div-mul-add}
use Rattle.std.proofs.lemmas.List.{ext_get_or, get_or_append_left, get_or-append-add, get_or_past}
use Rattle.p3_field.specs.Ring.{Ring, RingLaws, pow, sub}
use Rattle.p3_field.specs.Poly.{eval_poly, even_part, odd_part, tabulate, SamePoly}
use Rattle.p3_field.specs.Domain.{coset_point}
use Rattle.p3_field.specs.Laws.Algebra.{mul_zero}
use Rattle.p3_field.specs.Laws.Subcosets.{butterfly_first, butterfly_second}
use Rattle.p3_field.specs.Laws.Values.{eval_same}
use Rattle.p3_field.specs.Laws.Tabulate.{length-tabulate, get_or-tabulate}
use Rattle.p3_matrix.specs.Matrix.{Rows, FillsRows, height, cell_at, column}
use Rattle.p3_matrix.specs.Laws.Cells.{length-column, get_or-column}
use Rattle.p3_dft.specs.Transform.{TurnsIn, values_at}
use Rattle.p3_dft.proofs.Halves.{length-even_part, length-odd_part, turns_square}
use Rattle.p3_dft.specs.Laws.Values.{length-values_at, get_or-values_at}
use Rattle.p3_dft.specs.Reversed.{strided, summed, subtracted, PutsReversed, AreReversed, AreValues}
use Rattle.p3_dft.proofs.PutRows.{doubled, reversed_first, reversed_second}

module _ {A : Type 0} (r : Ring A) (L : RingLaws r) where
  -- one coefficient is the value
  single_value : (f : List A) (x : A) → length f ≤ 1 → get_or f 0 r.zero ≡ eval_poly r f x
  single_value [] x h = refl
  single_value (c ∷ []) x h = sym (ap (r.add c) (mul_zero r L x) ∙ L.add_zero c)
  single_value (c ∷ d ∷ f) x h = absurd (omega arith)

  pub one_row : (w j : ℕ) (s h : A) (values f : List A) → length f ≤ 2 ^ 0 → AreReversed r w 0 values j f → AreValues r w s h 0 values j f
  one_row w j s h values f short R = record { each = λ i b. R.each i b ∙ (only i b ∙ single_value f (coset_point r s h i) short) }
    where
      only : (i : ℕ) → i < 2 ^ 0 → get_or (get_or f 0 r.zero ∷ []) i r.zero ≡ get_or f 0 r.zero
      only zero b = refl
      only (suc i) b = absurd (omega arith)

  -- a place of the first half, and one of the second
  first_place : (k w i j : ℕ) (a b : List A) → length a ≡ 2 ^ k * w → i < 2 ^ k → j < w → get_or (a ++ b) (i * w + j) r.zero ≡ get_or a (i * w + j) r.zero
  first_place k w i j a b long l c = get_or_append_left a b r.zero (i * w + j) (omega (arith, long, mul-add-lt i w j (2 ^ k) l c))

  second_place : (k w i j : ℕ) (a b : List A) → length a ≡ 2 ^ k * w → get_or (a ++ b) ((2 ^ k + i) * w + j) r.zero ≡ get_or b (i * w + j) r.zero
  second_place k w i j a b long =
      let e : (2 ^ k + i) * w + j ≡ length a + (i * w + j) = omega (arith, long) in
      ap (λ n. get_or (a ++ b) n r.zero) e ∙ get_or-append-add a b (i * w + j) r.zero

  -- the halves of rows in bit-reversed order are those of the parts
  pub first_half : (k w j : ℕ) (v a b f : List A) → v ≡ a ++ b → length a ≡ 2 ^ k * w → j < w → AreReversed r w (suc k) v j f → AreReversed r w k a j (even_part f)
  first_half k w j v a b f is long c R = record {
    each = λ i l.
        let more : i < 2 ^ suc k = omega (arith, doubled k) in
        sym (first_place k w i j a b long l c) ∙ (ap (λ x. get_or x (i * w + j) r.zero) (sym is) ∙ (R.each i more ∙ reversed_first r k f i l));
  }

  pub second_half : (k w j : ℕ) (v a b f : List A) → v ≡ a ++ b → length a ≡ 2 ^ k * w → AreReversed r w (suc k) v j f → AreReversed r w k b j (odd_part f)
  second_half k w j v a b f is long R = record {
    each = λ i l.
        let more : 2 ^ k + i < 2 ^ suc k = omega (arith, doubled k) in
        sym (second_place k w i j a b long) ∙ (ap (λ x. get_or x ((2 ^ k + i) * w + j) r.zero) (sym is) ∙ (R.each (2 ^ k + i) more ∙ reversed_second r k f i));
  }

  -- the butterflies lead from the values of the parts to those of the whole
  whole_values : (k w j : ℕ) (s h t g u l : A) (f e o a b v : List A) → t ≡ r.mul s s → g ≡ r.mul h h → u ≡ r.mul s s → l ≡ r.mul h h → TurnsIn r (suc k) h → j < w → length a ≡ 2 ^ k * w → length e ≡ 2 ^ k * w
      → AreValues r w t g k e j (even_part f) → AreValues r w u l k o j (odd_part f)
      → ((n : ℕ) → n < length e → get_or a n r.zero ≡ summed r w s h e o n) → ((n : ℕ) → n < length e → get_or b n r.zero ≡ subtracted r w s h e o n)
      → v ≡ a ++ b → AreValues r w s h (suc k) v j f
  unfolding summed subtracted
  whole_values k w j s h t g u l f e o a b v p_t p_g p_u p_l turns c long long_e E O sum difference is = record {
    each = λ i m. elim (cases_lt i (2 ^ k)) [
      | inl low ↦ ap (λ x. get_or x (i * w + j) r.zero) is ∙ (first_place k w i j a b long low c ∙ first i low)
      | inr high ↦
          let d = i - 2 ^ k in
          let total : i ≡ 2 ^ k + d = omega arith in
          let turned : i ≡ d + 2 ^ k = omega arith in
          let low : d < 2 ^ k = omega (arith, doubled k) in
          ap (λ x. get_or x (i * w + j) r.zero) is
          ∙ (ap (λ n. get_or (a ++ b) (n * w + j) r.zero) total
          ∙ (second_place k w d j a b long ∙ (second d low ∙ ap (λ n. eval_poly r f (coset_point r s h n)) (sym turned))))
    ];
  }
    where
      at : (i : ℕ) → i < 2 ^ k → i * w + j < length e
      at i m = omega (arith, long_e, mul-add-lt i w j (2 ^ k) m c)

      even : (i : ℕ) → i < 2 ^ k → get_or e (i * w + j) r.zero ≡ eval_poly r (even_part f) (coset_point r (r.mul s s) (r.mul h h) i)
      even i m = E.each i m ∙ cc (p_t, p_g)

      odd : (i : ℕ) → i < 2 ^ k → get_or o (i * w + j) r.zero ≡ eval_poly r (odd_part f) (coset_point r (r.mul s s) (r.mul h h) i)
      odd i m = O.each i m ∙ cc (p_u, p_l)

      row : (i : ℕ) → coset_point r s h ((i * w + j) / w) ≡ coset_point r s h i
      row i = ap (coset_point r s h) (div-mul-add i w j c)

      first : (i : ℕ) → i < 2 ^ k → get_or a (i * w + j) r.zero ≡ eval_poly r f (coset_point r s h i)
      first i m = sum (i * w + j) (at i m) ∙ (cc (even i m, odd i m, row i) ∙ sym (butterfly_first r L f s h i))

      second : (i : ℕ) → i < 2 ^ k → get_or b (i * w + j) r.zero ≡ eval_poly r f (coset_point r s h (i + 2 ^ k))
      second i m = difference (i * w + j) (at i m)
          ∙ (ap (λ x. sub r x (r.mul (coset_point r s h ((i * w + j) / w)) (get_or o (i * w + j) r.zero))) (even i m)
          ∙ (ap (sub r (eval_poly r (even_part f) (coset_point r (r.mul s s) (r.mul h h) i))) (cc (odd i m, row i)) ∙ sym (butterfly_second r L f s h (2 ^ k) i (turns k refl))))

  -- one step: the halves transformed, and then the butterflies
  pub step : (bits k w j : ℕ) (s h t g u l : A) (f v a b e o x y new : List A) → suc k ≡ bits → t ≡ r.mul s s → g ≡ r.mul h h → u ≡ r.mul s s → l ≡ r.mul h h → TurnsIn r bits h → j < w → length f ≤ 2 ^ bits
      → v ≡ a ++ b → length a ≡ 2 ^ k * w → length e ≡ 2 ^ k * w → length x ≡ 2 ^ k * w
      → ((q : List A) → length q ≤ 2 ^ k → AreReversed r w k a j q → AreValues r w t g k e j q)
      → ((q : List A) → length q ≤ 2 ^ k → AreReversed r w k b j q → AreValues r w u l k o j q)
      → ((n : ℕ) → n < length e → get_or x n r.zero ≡ summed r w s h e o n) → ((n : ℕ) → n < length e → get_or y n r.zero ≡ subtracted r w s h e o n)
      → new ≡ x ++ y → AreReversed r w bits v j f → AreValues r w s h bits new j f
  step bits k w j s h t g u l f v a b e o x y new size p_t p_g p_u p_l turns c short is long_a long_e long_x E O sum difference now R =
      let turns_k : TurnsIn r (suc k) h = λ i q. turns i (q ∙ size) in
      let halves : length f ≤ 2 ^ k + 2 ^ k = omega (arith, short, ap (λ n. 2 ^ n) size, doubled k) in
      let R_k : AreReversed r w (suc k) v j f = subst (λ (n : ℕ). AreReversed r w n v j f) (sym size) R in
      let first : AreValues r w t g k e j (even_part f) = E (even_part f) (length-even_part f (2 ^ k) halves) (first_half k w j v a b f is long_a c R_k) in
      let second : AreValues r w u l k o j (odd_part f) = O (odd_part f) (length-odd_part f (2 ^ k) halves) (second_half k w j v a b f is long_a R_k) in
      subst (λ (n : ℕ). AreValues r w s h n new j f) size (whole_values k w j s h t g u l f e o x y new p_t p_g p_u p_l turns_k c long_x long_e first second sum difference now)

  pub no_step : (bits w j : ℕ) (s h : A) (values f : List A) → bits ≤ 0 → length f ≤ 2 ^ bits → AreReversed r w bits values j f → AreValues r w s h bits values j f
  no_step zero w j s h values f z short R = one_row w j s h values f short R
  no_step (suc b) w j s h values f z short R = absurd (omega arith)

  pub squares_turn : (b : ℕ) (h g : A) → 0 < b → g ≡ r.mul h h → TurnsIn r b h → TurnsIn r (b - 1) g
  squares_turn b h g pos f t = let e : b ≡ suc (b - 1) = omega arith in λ j d. ap (λ x. pow r x (2 ^ j)) f ∙ turns_square r L (b - 1) h (λ i q. t i (q ∙ sym e)) j d

-- half of the rows
pub half_rows : (n b w : ℕ) → 0 < b → n ≡ 2 ^ b * w → n ≡ 2 ^ (b - 1) * w + 2 ^ (b - 1) * w
half_rows n b w pos e =
    let size : suc (b - 1) ≡ b = omega arith in
    omega (arith, e, ap (λ k. 2 ^ k * w) size, ap (λ k. k * w) (doubled (b - 1)))

module _ {A : Type 0} (r : Ring A) (L : RingLaws r) where
  -- the rows that were put are those of the matrix's columns, but for zeros past its end
  same_coefficients : (m : Rows A) (j bits : ℕ) → FillsRows m.values m.width → height m ≤ 2 ^ bits → SamePoly r (strided r m j 0 1 bits) (column r.zero m j)
  same_coefficients m j bits fills fits i =
      let t : ℕ → A = λ k. cell_at r.zero m (0 + 1 * k) j in
      elim (cases_lt i (2 ^ bits)) [
        | inl a ↦
            let e : 0 + 1 * i ≡ i = omega arith in
            get_or-tabulate (2 ^ bits) t i r.zero a
            ∙ (ap (λ k. cell_at r.zero m k j) e
            ∙ elim (cases_lt i (height m)) [
              | inl b ↦ sym (get_or-column r.zero m j i b)
              | inr b ↦
                  get_or_past m.values (i * m.width + j) r.zero (outside (height m) i m.width j (length m.values) fills b)
                  ∙ sym (get_or_past (column r.zero m j) i r.zero (omega (arith, length-column r.zero m j)))
            ])
        | inr a ↦
            get_or_past (tabulate (2 ^ bits) t) i r.zero (omega (arith, length-tabulate (2 ^ bits) t))
            ∙ sym (get_or_past (column r.zero m j) i r.zero (omega (arith, length-column r.zero m j)))
      ]
    where
      outside : (h s w j n : ℕ) → h * w ≡ n → h ≤ s → n ≤ s * w + j
      outside h s w j n e l = let d : s ≡ h + (s - h) = omega arith in omega (arith, e, ap (λ k. k * w) d)

  pub put_are_reversed : (m : Rows A) (j bits : ℕ) (old new : List A) → old ≡ [] → j < m.width → PutsReversed r m 0 1 bits old new → AreReversed r m.width bits new j (strided r m j 0 1 bits)
  put_are_reversed m j bits old new none c P = record {
    each = λ i b. let e : i * m.width + j ≡ length old + (i * m.width + j) = omega (arith, ap length none) in ap (λ n. get_or new n r.zero) e ∙ P.after i j b c;
  }

  pub column_of_values : (m v : Rows A) (j bits : ℕ) (s h : A) → FillsRows m.values m.width → height m ≤ 2 ^ bits → v.width ≡ m.width → height v ≡ 2 ^ bits
      → AreValues r m.width s h bits v.values j (strided r m j 0 1 bits) → column r.zero v j ≡ values_at r (coset_point r s h) (2 ^ bits) (column r.zero m j)
  column_of_values m v j bits s h fills fits wide tall V =
      let p : ℕ → A = coset_point r s h in
      ext_get_or r.zero (column r.zero v j) (values_at r p (2 ^ bits) (column r.zero m j))
      (length-column r.zero v j ∙ (tall ∙ sym (length-values_at r p (2 ^ bits) (column r.zero m j))))
      (λ i b.
      let row : i < height v = omega (arith, length-column r.zero v j) in
      let below : i < 2 ^ bits = omega (arith, tall) in
      get_or-column r.zero v j i row
      ∙ (ap (λ w. get_or v.values (i * w + j) r.zero) wide
      ∙ (V.each i below
      ∙ (eval_same r L (strided r m j 0 1 bits) (column r.zero m j) (p i) (same_coefficients m j bits fills fits)
      ∙ sym (get_or-values_at r p (2 ^ bits) (column r.zero m j) i r.zero below)))))
