-- Rows put in bit-reversed order.
use Rattle.std.proofs.Common.{◌≡◌, ℕ, zero, suc, ◌+◌, ◌-◌, ◌*◌, ◌^◌, ◌<◌, ◌≤◌, ◌∙◌, inl, inr, List, ◌∷◌, ◌++◌, refl, sym, ap, arith, length, length-append, get_or}
use Rattle.std.proofs.lemmas.Bool.{cases_lt}
use Rattle.std.proofs.Math.Nat.{pow-suc}
use Rattle.std.proofs.lemmas.Nat.{mul-add-lt, pow_pos}
use Rattle.std.proofs.lemmas.List.{get_or_append_left, get_or-append-add, get_or_past}
use Rattle.p3_field.specs.Ring.{Ring}
use Rattle.p3_field.specs.Poly.{even_part, odd_part, tabulate}
use Rattle.p3_field.specs.Laws.Tabulate.{tabulate_same}
use Rattle.p3_matrix.specs.Matrix.{Rows, FillsRows, height, cell_at, row_at}
use Rattle.p3_matrix.specs.Laws.Transposed.{get_or-row_at}
use Rattle.p3_dft.specs.Reversed.{reversed, strided, PutsReversed}

pub doubled : (k : ℕ) → 2 ^ suc k ≡ 2 ^ k + 2 ^ k
doubled k = omega (arith, pow-suc 2 k)

-- the parts of a table
even_of_table : {A : Type 0} (n : ℕ) (t : ℕ → A) → even_part (tabulate (n + n) t) ≡ tabulate n (λ i. t (i + i))
even_of_table zero t = refl
even_of_table (suc n) t =
    let e : suc n + suc n ≡ suc (suc (n + n)) = omega arith in
    ap (λ m. even_part (tabulate m t)) e
    ∙ (ap (λ l. t zero ∷ l) (even_of_table n (λ i. t (suc (suc i))))
    ∙ ap (λ l. t zero ∷ l) (tabulate_same n (λ i. t (suc (suc (i + i)))) (λ i. t (suc i + suc i)) (λ i b. let f : suc (suc (i + i)) ≡ suc i + suc i = omega arith in ap t f)))

odd_of_table : {A : Type 0} (n : ℕ) (t : ℕ → A) → odd_part (tabulate (n + n) t) ≡ tabulate n (λ i. t (suc (i + i)))
odd_of_table zero t = refl
odd_of_table (suc n) t =
    let e : suc n + suc n ≡ suc (suc (n + n)) = omega arith in
    ap (λ m. odd_part (tabulate m t)) e
    ∙ (ap (λ l. t (suc zero) ∷ l) (odd_of_table n (λ i. t (suc (suc i))))
    ∙ ap (λ l. t (suc zero) ∷ l) (tabulate_same n (λ i. t (suc (suc (suc (i + i))))) (λ i. t (suc (suc i + suc i))) (λ i b. let f : suc (suc (suc (i + i))) ≡ suc (suc i + suc i) = omega arith in ap t f)))

module _ {A : Type 0} (r : Ring A) where
  pub length-reversed : (k : ℕ) (f : List A) → length (reversed r k f) ≡ 2 ^ k
  length-reversed zero f = refl
  length-reversed (suc k) f = omega (arith, length-append (reversed r k (even_part f)) (reversed r k (odd_part f)), length-reversed k (even_part f), length-reversed k (odd_part f), doubled k)

  -- an item of either half
  pub reversed_first : (k : ℕ) (f : List A) (i : ℕ) → i < 2 ^ k → get_or (reversed r (suc k) f) i r.zero ≡ get_or (reversed r k (even_part f)) i r.zero
  reversed_first k f i h = get_or_append_left (reversed r k (even_part f)) (reversed r k (odd_part f)) r.zero i (omega (arith, length-reversed k (even_part f)))

  pub reversed_second : (k : ℕ) (f : List A) (i : ℕ) → get_or (reversed r (suc k) f) (2 ^ k + i) r.zero ≡ get_or (reversed r k (odd_part f)) i r.zero
  reversed_second k f i =
      let e : 2 ^ k + i ≡ length (reversed r k (even_part f)) + i = omega (arith, length-reversed k (even_part f)) in
      ap (λ n. get_or (reversed r (suc k) f) n r.zero) e ∙ get_or-append-add (reversed r k (even_part f)) (reversed r k (odd_part f)) i r.zero

  module _ (m : Rows A) where
    even_strided : (j start stride k : ℕ) → even_part (strided r m j start stride (suc k)) ≡ strided r m j start (2 * stride) k
    even_strided j start stride k =
        ap (λ n. even_part (tabulate n (λ i. cell_at r.zero m (start + stride * i) j))) (doubled k)
        ∙ (even_of_table (2 ^ k) (λ i. cell_at r.zero m (start + stride * i) j)
        ∙ tabulate_same (2 ^ k) (λ i. cell_at r.zero m (start + stride * (i + i)) j) (λ i. cell_at r.zero m (start + 2 * stride * i) j)
        (λ i b. let e : start + stride * (i + i) ≡ start + 2 * stride * i = omega arith in ap (λ n. cell_at r.zero m n j) e))

    odd_strided : (j start stride k : ℕ) → odd_part (strided r m j start stride (suc k)) ≡ strided r m j (start + stride) (2 * stride) k
    odd_strided j start stride k =
        ap (λ n. odd_part (tabulate n (λ i. cell_at r.zero m (start + stride * i) j))) (doubled k)
        ∙ (odd_of_table (2 ^ k) (λ i. cell_at r.zero m (start + stride * i) j)
        ∙ tabulate_same (2 ^ k) (λ i. cell_at r.zero m (start + stride * suc (i + i)) j) (λ i. cell_at r.zero m (start + stride + 2 * stride * i) j)
        (λ i b. let e : start + stride * suc (i + i) ≡ start + stride + 2 * stride * i = omega arith in ap (λ n. cell_at r.zero m n j) e))

    -- the rows at even places, and then those at odd ones
    pub put_both : (start stride k : ℕ) (old mid new : List A) → PutsReversed r m start (2 * stride) k old mid → PutsReversed r m (start + stride) (2 * stride) k mid new
        → PutsReversed r m start stride (suc k) old new
    put_both start stride k old mid new P Q = record {
      length_is = omega (arith, P.length_is, Q.length_is, ap (λ n. n * m.width) (doubled k));
      before = λ i b. Q.before i (omega (arith, P.length_is)) ∙ P.before i b;
      after = λ i j b c. elim (cases_lt i (2 ^ k)) [
        | inl l ↦
            let inside : i * m.width + j < m.width * 2 ^ k = mul-add-lt i m.width j (2 ^ k) l c in
            let below : length old + (i * m.width + j) < length mid = omega (arith, P.length_is, inside) in
            Q.before (length old + (i * m.width + j)) below
            ∙ (P.after i j l c
            ∙ (ap (λ f. get_or (reversed r k f) i r.zero) (sym (even_strided j start stride k))
            ∙ sym (reversed_first k (strided r m j start stride (suc k)) i l)))
        | inr g ↦
            let e = i - 2 ^ k in
            let sum : i ≡ 2 ^ k + e = omega arith in
            let low : e < 2 ^ k = omega (arith, doubled k) in
            let at : length old + (i * m.width + j) ≡ length mid + (e * m.width + j) = omega (arith, P.length_is, ap (λ n. n * m.width) sum) in
            ap (λ n. get_or new n r.zero) at
            ∙ (Q.after e j low c
            ∙ (ap (λ f. get_or (reversed r k f) e r.zero) (sym (odd_strided j start stride k))
            ∙ (sym (reversed_second k (strided r m j start stride (suc k)) e) ∙ ap (λ n. get_or (reversed r (suc k) (strided r m j start stride (suc k))) n r.zero) (sym sum))))
      ];
    }

    -- one row
    the_only : (start stride i j : ℕ) (x : A) → i < 2 ^ 0 → x ≡ cell_at r.zero m start j → x ≡ get_or (reversed r 0 (strided r m j start stride 0)) i r.zero
    the_only start stride zero j x b e = let f : start ≡ start + stride * 0 = omega arith in e ∙ ap (λ n. cell_at r.zero m n j) f
    the_only start stride (suc i) j x b e = absurd (omega arith)

    pub put_row : (start stride : ℕ) (old new row : List A) → row ≡ row_at m start → length row ≡ m.width → new ≡ old ++ row → PutsReversed r m start stride 0 old new
    put_row start stride old new row is long more = record {
      length_is = ap length more ∙ (length-append old row ∙ omega (arith, long));
      before = λ k b. ap (λ l. get_or l k r.zero) more ∙ get_or_append_left old row r.zero k b;
      after = λ i j b c.
          let none : i * m.width + j ≡ j = first_row i m.width j b in
          the_only start stride i j (get_or new (length old + (i * m.width + j)) r.zero) b
          (ap (λ n. get_or new (length old + n) r.zero) none
          ∙ (ap (λ l. get_or l (length old + j) r.zero) more
          ∙ (get_or-append-add old row j r.zero ∙ (ap (λ l. get_or l j r.zero) is ∙ get_or-row_at m start j r.zero c))));
    }
      where
        first_row : (i w j : ℕ) → i < 2 ^ 0 → i * w + j ≡ j
        first_row zero w j b = omega arith
        first_row (suc i) w j b = absurd (omega arith)

    pub put_zeros : (start stride : ℕ) (old new : List A) → FillsRows m.values m.width → height m ≤ start → length new ≡ length old + m.width
        → ((k : ℕ) → k < length old → get_or new k r.zero ≡ get_or old k r.zero) → ((k : ℕ) → length old ≤ k → get_or new k r.zero ≡ r.zero) → PutsReversed r m start stride 0 old new
    put_zeros start stride old new fills past long before zeros = record {
      length_is = omega (arith, long);
      before = before;
      after = λ i j b c.
          the_only start stride i j (get_or new (length old + (i * m.width + j)) r.zero) b
          (zeros (length old + (i * m.width + j)) (omega arith)
          ∙ sym (get_or_past m.values (start * m.width + j) r.zero (outside (height m) start m.width j (length m.values) fills past)));
    }
      where
        outside : (h s w j n : ℕ) → h * w ≡ n → h ≤ s → n ≤ s * w + j
        outside h s w j n e l = let d : s ≡ h + (s - h) = omega arith in omega (arith, e, ap (λ k. k * w) d)

pub doubled_fits : (stride b : ℕ) → stride * 2 ^ b < 2 ^ 64 → 0 < b → 2 * stride < 2 ^ 64
doubled_fits stride zero h p = absurd (omega arith)
doubled_fits stride (suc b) h p =
    let some : 0 < 2 ^ b = pow_pos b in
    let e : stride * 2 ^ suc b ≡ 2 * stride * 2 ^ b = omega (arith, ap (λ n. stride * n) (doubled b)) in
    let more : 2 * stride ≤ 2 * stride * 2 ^ b = scaled (2 * stride) (2 ^ b) some in
    omega (arith, e, more, h)
  where
    scaled : (x y : ℕ) → 0 < y → x ≤ x * y
    scaled x zero q = absurd (omega arith)
    scaled x (suc y) q = omega arith
