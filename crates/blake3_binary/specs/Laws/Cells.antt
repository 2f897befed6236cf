-- Where the cells of the steps stand in a row's list.
use Rattle.std.proofs.Common.{◌≡◌, ℕ, zero, suc, ◌+◌, ◌-◌, ◌*◌, ◌/◌, ◌%◌, ◌<◌, ◌≤◌, ◌++◌, List, length, get_or, sym, ◌∙◌, ap, subst, arith, inl, inr, length-append}
use Rattle.std.proofs.Math.Nat.{mul-suc, mul-le-mul_left}
use Rattle.std.proofs.lemmas.Bool.{cases_eq, cases_lt}
use Rattle.std.proofs.lemmas.List.{get_or_append_left, get_or-append-add}
use Rattle.p3_field.specs.Poly.{tabulate}
use Rattle.p3_field.specs.Laws.Tabulate.{length-tabulate, get_or-tabulate}
use Rattle.air_core.specs.Joined.{joined}
use Rattle.blake3_compress.specs.Laws.Cells.{length-joined}
use Rattle.blake3_binary.specs.Trees.{laid, half_column}

module _ {X : Type 0} (d : X) where
  pub at_joined : (n m : ℕ) (t : ℕ → List X) → ((i : ℕ) → length (t i) ≡ m) → (i j : ℕ) → i < n → j < m → get_or (joined n t) (m * i + j) d ≡ get_or (t i) j d
  unfolding joined
  at_joined zero m t h i j li lj = absurd (omega (arith, li))
  at_joined (suc n) m t h i j li lj =
      let long = length-joined n m t h in
      elim (cases_eq i n) [
        | inl e ↦
            let f : m * i + j ≡ length (joined n t) + j = ap (λ k. m * k + j) e ∙ omega (arith, long) in
            ap (λ k. get_or (joined n t ++ t n) k d) f ∙ (get_or-append-add (joined n t) (t n) j d ∙ ap (λ k. get_or (t k) j d) (sym e))
        | inr c ↦
            let less : i < n = omega (arith, c, li) in
            let wide : m * i + m ≤ m * n = omega (arith, mul-suc m i, mul-le-mul_left m less) in
            get_or_append_left (joined n t) (t n) d (m * i + j) (omega (arith, wide, long, lj)) ∙ at_joined n m t h i j less lj
      ]

  -- 31, 32 and 32 cells
  abbrev pub three : (c e b : ℕ → X) → List X
  three c e b = tabulate 31 c ++ tabulate 32 e ++ tabulate 32 b

  module _ (c e b : ℕ → X) where
    long2 : length (tabulate 31 c ++ tabulate 32 e) ≡ 63
    long2 = omega (arith, length-append (tabulate 31 c) (tabulate 32 e), length-tabulate 31 c, length-tabulate 32 e)

    pub long3 : length (three c e b) ≡ 95
    long3 = omega (arith, length-append (tabulate 31 c ++ tabulate 32 e) (tabulate 32 b), long2, length-tabulate 32 b)

    pub three_first : (o : ℕ) → o < 31 → get_or (three c e b) o d ≡ c o
    three_first o lt =
        get_or_append_left (tabulate 31 c ++ tabulate 32 e) (tabulate 32 b) d o (omega (arith, lt, long2))
        ∙ (get_or_append_left (tabulate 31 c) (tabulate 32 e) d o (omega (arith, lt, length-tabulate 31 c)) ∙ get_or-tabulate 31 c o d lt)

    pub three_second : (o : ℕ) → o < 32 → get_or (three c e b) (31 + o) d ≡ e o
    three_second o lt =
        let f : 31 + o ≡ length (tabulate 31 c) + o = omega (arith, length-tabulate 31 c) in
        get_or_append_left (tabulate 31 c ++ tabulate 32 e) (tabulate 32 b) d (31 + o) (omega (arith, lt, long2))
        ∙ (ap (λ k. get_or (tabulate 31 c ++ tabulate 32 e) k d) f ∙ (get_or-append-add (tabulate 31 c) (tabulate 32 e) o d ∙ get_or-tabulate 32 e o d lt))

    pub three_third : (o : ℕ) → o < 32 → get_or (three c e b) (63 + o) d ≡ b o
    three_third o lt =
        let f : 63 + o ≡ length (tabulate 31 c ++ tabulate 32 e) + o = omega (arith, long2) in
        ap (λ k. get_or (three c e b) k d) f ∙ (get_or-append-add (tabulate 31 c ++ tabulate 32 e) (tabulate 32 b) o d ∙ get_or-tabulate 32 b o d lt)

  module _ (f : ℕ → ℕ → List X) (h : (n g : ℕ) → length (f n g) ≡ 95) where
    abbrev both : ℕ → List X
    both k = joined 2 (λ j. f (2 * (k / 4) + j) (k % 4))

    long_both : (k : ℕ) → length (both k) ≡ 190
    long_both k = length-joined 2 95 (λ j. f (2 * (k / 4) + j) (k % 4)) (λ j. h (2 * (k / 4) + j) (k % 4))

    pub long_laid : length (laid f) ≡ 10640
    unfolding laid
    long_laid = length-joined 56 190 both long_both

    pub at_laid : (n g o : ℕ) → n < 28 → g < 4 → o < 95 → get_or (laid f) (190 * (4 * (n / 2) + g) + 95 * (n % 2) + o) d ≡ get_or (f n g) o d
    unfolding laid
    at_laid n g o ln lg lo =
        let k = 4 * (n / 2) + g in
        let p = n % 2 in
        let lp : p < 2 = omega arith in
        let e : 2 * (k / 4) + p ≡ n = omega (arith, lg) in
        let q : k % 4 ≡ g = omega (arith, lg) in
        let s : 190 * k + 95 * p + o ≡ 190 * k + (95 * p + o) = omega arith in
        ap (λ i. get_or (joined 56 both) i d) s
        ∙ (at_joined 56 190 both long_both k (95 * p + o) (omega (arith, ln, lg)) (omega (arith, lp, lo))
        ∙ (at_joined 2 95 (λ j. f (2 * (k / 4) + j) (k % 4)) (λ j. h (2 * (k / 4) + j) (k % 4)) p o lp lo
        ∙ (λ i. get_or (f (e i) (q i)) o d)))

  -- the cells of the steps after those of the input
  pub record StepCells (xs : List X) (c e b : ℕ → ℕ → ℕ → X) : Type 0 where
    pub first : (n g o : ℕ) → n < 28 → g < 4 → o < 31 → get_or xs (half_column n g + o) d ≡ c n g o
    pub second : (n g o : ℕ) → n < 28 → g < 4 → o < 32 → get_or xs (half_column n g + 31 + o) d ≡ e n g o
    pub third : (n g o : ℕ) → n < 28 → g < 4 → o < 32 → get_or xs (half_column n g + 63 + o) d ≡ b n g o

  pub step_cells : (front : List X) (c e b : ℕ → ℕ → ℕ → X) → length front ≡ 896 → StepCells (front ++ laid (λ n g. three (c n g) (e n g) (b n g))) c e b
  step_cells front c e b long =
      let f : ℕ → ℕ → List X = λ n g. three (c n g) (e n g) (b n g) in
      let wide : (n g : ℕ) → length (f n g) ≡ 95 = λ n g. long3 (c n g) (e n g) (b n g) in
      let here : (n g o : ℕ) → n < 28 → g < 4 → o < 95 → get_or (front ++ laid f) (half_column n g + o) d ≡ get_or (f n g) o d = λ n g o ln lg lo.
      let place = 190 * (4 * (n / 2) + g) + 95 * (n % 2) + o in
      let s : half_column n g + o ≡ length front + place = omega (arith, long) in
      ap (λ i. get_or (front ++ laid f) i d) s ∙ (get_or-append-add front (laid f) place d ∙ at_laid f wide n g o ln lg lo) in
      record {
        first = λ n g o ln lg lo. here n g o ln lg (omega (arith, lo)) ∙ three_first (c n g) (e n g) (b n g) o lo;
        second = λ n g o ln lg lo.
            let s : half_column n g + 31 + o ≡ half_column n g + (31 + o) = omega arith in
            ap (λ i. get_or (front ++ laid f) i d) s ∙ (here n g (31 + o) ln lg (omega (arith, lo)) ∙ three_second (c n g) (e n g) (b n g) o lo);
        third = λ n g o ln lg lo.
            let s : half_column n g + 63 + o ≡ half_column n g + (63 + o) = omega arith in
            ap (λ i. get_or (front ++ laid f) i d) s ∙ (here n g (63 + o) ln lg (omega (arith, lo)) ∙ three_third (c n g) (e n g) (b n g) o lo);
      }

-- each place of the steps is one of theirs
pub cover_steps : (P : ℕ → Type 0) → ((n g o : ℕ) → n < 28 → g < 4 → o < 31 → P (half_column n g + o))
    → ((n g o : ℕ) → n < 28 → g < 4 → o < 32 → P (half_column n g + 31 + o))
    → ((n g o : ℕ) → n < 28 → g < 4 → o < 32 → P (half_column n g + 63 + o))
    → (k : ℕ) → k < 10640 → P (896 + k)
cover_steps P p1 p2 p3 k lt =
    let s = k / 190 in
    let m = k % 190 in
    let n = 2 * (s / 4) + m / 95 in
    let g = s % 4 in
    let o = m % 95 in
    let lm : m < 190 = omega arith in
    let ls : s < 56 = omega (arith, lt) in
    let lp : m / 95 < 2 = omega (arith, lm) in
    let ln : n < 28 = omega (arith, ls, lp) in
    let lg : g < 4 = omega arith in
    let half : n / 2 ≡ s / 4 = omega (arith, lp) in
    let odd : n % 2 ≡ m / 95 = omega (arith, lp) in
    let whole : half_column n g + o ≡ 896 + k = omega (arith, half, odd) in
    elim (cases_lt o 31) [
      | inl a ↦ subst P whole (p1 n g o ln lg a)
      | inr a ↦ elim (cases_lt o 63) [
        | inl b ↦
            let e : half_column n g + 31 + (o - 31) ≡ 896 + k = omega (arith, whole, a) in
            subst P e (p2 n g (o - 31) ln lg (omega (arith, a, b)))
        | inr b ↦
            let e : half_column n g + 63 + (o - 63) ≡ 896 + k = omega (arith, whole, b) in
            let lo : o < 95 = omega arith in
            subst P e (p3 n g (o - 63) ln lg (omega (arith, b, lo)))
      ]
    ]
