-- A period laid over many points: its items, and its interpolant, which is the period's at a power of the point.
use Rattle.std.proofs.Common.{◌≡◌, ℕ, zero, suc, ◌+◌, ◌-◌, ◌*◌, ◌/◌, ◌%◌, ◌^◌, ◌<◌, ◌≤◌, inl, inr, List, [], ◌∷◌, length, get_or, map, refl, sym, ◌∙◌, ap, arith}
use Rattle.std.specs.List.{repeat}
use Rattle.std.proofs.Math.Nat.{mul-div_cancel, mod-eq-sub-mod, mod-eq_of_lt}
use Rattle.std.proofs.lemmas.Nat.{pow-add, pow_pos}
use Rattle.std.proofs.lemmas.Bool.{cases_lt}
use Rattle.std.proofs.lemmas.List.{length-append, get_or_append_left}
use Rattle.std.proofs.Math.Seq.{get_or-append_right}
use Rattle.p3_field.specs.Ring.{Ring, RingLaws, pow}
use Rattle.p3_field.specs.Field.{RingHom, TwoAdicLaws}
use Rattle.p3_field.specs.Poly.{eval_poly, raise}
use Rattle.p3_field.specs.Domain.{CosetData, IsInterpolant, coset_point, point}
use Rattle.p3_field.specs.Laws.Values.{eval_raise}
use Rattle.p3_field.specs.Laws.Extended.{map_raise}
use Rattle.p3_field.specs.Laws.Roots.{NoZeroDivisors}
use Rattle.p3_field.specs.Laws.Coset.{two_adic_order}
use Rattle.p3_field.specs.Laws.Subcosets.{row_power}
use Rattle.p3_matrix.specs.Interpolation.{IsInterpolatedAt}
use Rattle.commit_core.specs.Periodic.{over_rows, IsPeriodicAt}
use Rattle.commit_core.specs.Laws.Cosets.{root_power, reduced}

-- the items of a repeated list
length_repeat : {A : Type 0} (m : ℕ) (xs : List A) → length (repeat m xs) ≡ m * length xs
length_repeat zero xs = omega arith
length_repeat (suc m) xs = omega (arith, length-append xs (repeat m xs), length_repeat m xs)

get_or_repeat : {A : Type 0} (m : ℕ) (xs : List A) (i : ℕ) (d : A) → i < m * length xs → get_or (repeat m xs) i d ≡ get_or xs (i % length xs) d
get_or_repeat zero xs i d h = absurd (omega arith)
get_or_repeat (suc m) xs i d h = elim (cases_lt i (length xs)) [
  | inl a ↦
      let same : i % length xs ≡ i = mod-eq_of_lt a in
      get_or_append_left xs (repeat m xs) d i a ∙ ap (λ k. get_or xs k d) (sym same)
  | inr a ↦
      let below : i - length xs < m * length xs = omega arith in
      get_or-append_right xs (repeat m xs) i d a
      ∙ (get_or_repeat m xs (i - length xs) d below ∙ ap (λ k. get_or xs k d) (sym (mod-eq-sub-mod a)))
]

-- over m times its length, it is the period m times
whole_times : {A : Type 0} (n m : ℕ) (xs : List A) → n ≡ m * length xs → 0 < length xs → over_rows n xs ≡ repeat m xs
unfolding over_rows
whole_times n m xs e pos =
    let q : n / length xs ≡ m = ap (λ k. k / length xs) e ∙ mul-div_cancel m pos in
    ap (λ k. repeat k xs) q

pub length_over_rows : {A : Type 0} (n m : ℕ) (xs : List A) → n ≡ m * length xs → 0 < length xs → length (over_rows n xs) ≡ n
length_over_rows n m xs e pos = ap length (whole_times n m xs e pos) ∙ (length_repeat m xs ∙ sym e)

-- row i reads the period at i modulo its length
pub get_or_over_rows : {A : Type 0} (n m : ℕ) (xs : List A) (i : ℕ) (d : A) → n ≡ m * length xs → 0 < length xs → i < n → get_or (over_rows n xs) i d ≡ get_or xs (i % length xs) d
get_or_over_rows n m xs i d e pos h = ap (λ l. get_or l i d) (whole_times n m xs e pos) ∙ get_or_repeat m xs i d (omega (arith, e))

-- g(X^(j+1)): each coefficient of g, and j zeros after it
abbrev pub spread : {A : Type 0} → Ring A → ℕ → List A → List A
spread r j [] = []
spread r j (c ∷ cs) = c ∷ raise r j (spread r j cs)

module _ {A : Type 0} (r : Ring A) (L : RingLaws r) where
  length_raise : (j : ℕ) (f : List A) → length (raise r j f) ≡ j + length f
  length_raise zero f = omega arith
  length_raise (suc j) f = omega (arith, length_raise j f)

  -- its length, and its value: that of g at a power of the point
  pub length_spread : (j : ℕ) (g : List A) → length (spread r j g) ≡ suc j * length g
  length_spread j [] = omega arith
  length_spread j (c ∷ cs) = omega (arith, length_raise j (spread r j cs), length_spread j cs)

  pub eval_spread : (j : ℕ) (g : List A) (x : A) → eval_poly r (spread r j g) x ≡ eval_poly r g (pow r x (suc j))
  unfolding pow
  eval_spread j [] x = refl
  eval_spread j (c ∷ cs) x =
      let G = eval_poly r cs (pow r x (suc j)) in
      ap (λ v. r.add c (r.mul x v)) (eval_raise r L j (spread r j cs) x ∙ ap (r.mul (pow r x j)) (eval_spread j cs x))
      ∙ ap (r.add c) (sym (L.mul_assoc x (pow r x j) G))

  -- where the m-th powers of the points go round the period's points, the whole's interpolant is that of the period in X^m
  pub spread_interpolates : (p q : ℕ → A) (n j : ℕ) (column g : List A) → n ≡ suc j * length column → 0 < length column
      → ((i : ℕ) → i < n → pow r (p i) (suc j) ≡ q (i % length column)) → IsInterpolant r q column g → IsInterpolant r p (over_rows n column) (spread r j g)
  spread_interpolates p q n j column g e pos round G =
      let long = length_over_rows n (suc j) column e pos in
      record {
        length_is = length_spread j g ∙ (ap (λ k. suc j * k) G.length_is ∙ (sym e ∙ sym long));
        value_is = λ i h.
            let below : i < n = omega (arith, long) in
            let inside : i % length column < length column = omega arith in
            eval_spread j g (p i) ∙ (ap (eval_poly r g) (round i below) ∙ (G.value_is (i % length column) inside
            ∙ sym (get_or_over_rows n (suc j) column i r.zero e pos below)));
      }

module _ {A B : Type 0} (r : Ring A) (L : RingLaws r) (s : Ring B) (M : RingLaws s) (f : A → B) (H : RingHom r s f) where
  map_spread : (j : ℕ) (g : List A) → map f (spread r j g) ≡ spread s j (map f g)
  map_spread j [] = refl
  map_spread j (c ∷ cs) = ap (λ l. f c ∷ l) (map_raise r L s M f H j (spread r j cs) ∙ ap (raise s j) (map_spread j cs))

  -- where the m-th powers of the points go round the period's points, the value at x of the whole's interpolant is
  -- that of the period's at the m-th power of x
  pub periodic_value : (p q : ℕ → A) (n j : ℕ) (column : List A) (x y : B) → n ≡ suc j * length column → 0 < length column
      → ((i : ℕ) → i < n → pow r (p i) (suc j) ≡ q (i % length column))
      → IsInterpolatedAt r s f q column (pow s x (suc j)) y → IsPeriodicAt r s f n p x column y
  periodic_value p q n j column x y e pos round I =
      let g = I.interpolant in
      record {
        interpolant = spread r j g;
        interpolates = spread_interpolates r L p q n j column g e pos round I.interpolates;
        value_is = I.value_is ∙ sym (ap (λ l. eval_poly s l x) (map_spread j g) ∙ eval_spread s M j (map f g) x);
      }

  module _ (top : ℕ) (root : ℕ → A) (T : TwoAdicLaws r top root) where
    -- the period's coset: its points are powers of the whole's
    pub periods_points : (d e : CosetData A) (a : ℕ) → d.log_size ≤ top → e.log_size + a ≡ d.log_size → e.shift ≡ pow r d.shift (2 ^ a) → (i : ℕ)
        → pow r (point r root d i) (2 ^ a) ≡ point r root e (i % 2 ^ e.log_size)
    periods_points d e a fits sum shift i =
        let k = e.log_size in
        let generator : pow r (root d.log_size) (2 ^ a) ≡ root k =
        ap (λ l. pow r (root l) (2 ^ a)) (sym sum) ∙ root_power r L top root T k a (omega arith) in
        row_power r L d.shift (root d.log_size) 0 (2 ^ a) i
        ∙ (ap (λ z. coset_point r (pow r d.shift (2 ^ a)) z i) generator
        ∙ (ap (λ z. coset_point r z (root k) i) (sym shift)
        ∙ ap (r.mul e.shift) (reduced r L top root T (2 ^ k) (root k) i (pow_pos k) (two_adic_order r L top root T k (omega arith)))))

    -- the value on a coset
    pub periodic_on_coset : (d e : CosetData A) (a : ℕ) (column : List A) (x y : B) → d.log_size ≤ top → e.log_size + a ≡ d.log_size → e.shift ≡ pow r d.shift (2 ^ a) → length column ≡ 2 ^ e.log_size
        → IsInterpolatedAt r s f (point r root e) column (pow s x (2 ^ a)) y → IsPeriodicAt r s f (2 ^ d.log_size) (point r root d) x column y
    periodic_on_coset d e a column x y fits sum shift size I =
        stepped (2 ^ a) (pow_pos a)
        (pow-both e.log_size a d.log_size sum ∙ ap (λ n. 2 ^ a * n) (sym size))
        (λ i b. periods_points d e a fits sum shift i ∙ ap (λ n. point r root e (i % n)) (sym size)) I
      where
        pow-both : (k a n : ℕ) → k + a ≡ n → 2 ^ n ≡ 2 ^ a * 2 ^ k
        pow-both k a n h = let c : a + k ≡ n = omega arith in ap (λ m. 2 ^ m) (sym c) ∙ pow-add 2 a k

        stepped : (m : ℕ) → 0 < m → 2 ^ d.log_size ≡ m * length column → ((i : ℕ) → i < 2 ^ d.log_size → pow r (point r root d i) m ≡ point r root e (i % length column))
            → IsInterpolatedAt r s f (point r root e) column (pow s x m) y → IsPeriodicAt r s f (2 ^ d.log_size) (point r root d) x column y
        stepped zero pos whole round J = absurd (omega arith)
        stepped (suc j) pos whole round J =
            periodic_value (point r root d) (point r root e) (2 ^ d.log_size) j column x y whole (let q : 0 < 2 ^ e.log_size = pow_pos e.log_size in omega (arith, size)) round J

-- powers aren't zero
pub power_not_zero : {A : Type 0} (r : Ring A) → NoZeroDivisors r → (r.one ≡ r.zero → ⊥) → (x : A) (n : ℕ) → (x ≡ r.zero → ⊥) → pow r x n ≡ r.zero → ⊥
unfolding pow
power_not_zero r N one x zero nz = one
power_not_zero r N one x (suc n) nz = λ e. power_not_zero r N one x n nz (N x (pow r x n) nz e)
