-- A split in parts: two parts of a space have no point in common, and the rows of a part are one matrix.
use Rattle.std.proofs.Common.{◌≡◌, ℕ, zero, suc, ◌+◌, ◌*◌, ◌<◌, ◌≤◌, inl, inr, length, get_or, sym, ◌∙◌, ap, subst, arith}
use Rattle.std.proofs.Math.Nat.{mul-le-mul_right}
use Rattle.std.proofs.lemmas.Bool.{cases_lt}
use Rattle.p3_field.specs.Poly.{Apart}
use Rattle.p3_matrix.specs.Matrix.{Rows, FillsRows, height, row_at, cell_at, column}
use Rattle.p3_matrix.specs.Laws.Cells.{length-column, get_or-column, same_matrix}
use Rattle.p3_matrix.specs.Laws.Transposed.{get_or-row_at}
use Rattle.std.proofs.lemmas.List.{ext_get_or}
use Rattle.commit_core.specs.Space.{AreDisjoint, IsSplit}

-- point k of part i is a point of the whole
within_whole : (c n i k : ℕ) → i < c → k < n → i + c * k < n * c
within_whole c n i k h l =
    let whole : suc k * c ≤ n * c = mul-le-mul_right c l in
    let split : suc k * c ≡ c + c * k = omega arith in
    omega (arith, whole, split, h)

-- a point lies in one part alone
one_part : (c i j a b : ℕ) → i < c → j < c → i + c * a ≡ j + c * b → i ≡ j
one_part c i j a b h k e = elim (cases_lt a b) [
  | inl l ↦
      let whole : suc a * c ≤ b * c = mul-le-mul_right c l in
      let split : suc a * c ≡ c + c * a = omega arith in
      let turned : b * c ≡ c * b = omega arith in
      absurd (omega (arith, whole, split, turned, h, k, e))
  | inr l ↦ elim (cases_lt b a) [
    | inl m ↦
        let whole : suc b * c ≤ a * c = mul-le-mul_right c m in
        let split : suc b * c ≡ c + c * b = omega arith in
        let turned : a * c ≡ c * a = omega arith in
        absurd (omega (arith, whole, split, turned, h, k, e))
    | inr m ↦ let same : a ≡ b = omega (arith, l, m) in omega (arith, ap (λ z. c * z) same, e)
  ]
]

-- of n points that differ, those of two parts have none in common
pub parts_apart : {A : Type 0} (p q s : ℕ → A) (n a b c i j : ℕ) → Apart n p → a * c ≡ n → b * c ≡ n → i < c → j < c → (i ≡ j → ⊥)
    → ((k : ℕ) → q k ≡ p (i + c * k)) → ((k : ℕ) → s k ≡ p (j + c * k)) → AreDisjoint a q b s
parts_apart p q s n a b c i j apart first second h k differ left right x y l m same =
    let there : p (i + c * x) ≡ p (j + c * y) = sym (left x) ∙ (same ∙ right y) in
    let one : i + c * x < n = subst (λ z. i + c * x < z) first (within_whole c a i x h l) in
    let other : j + c * y < n = subst (λ z. j + c * y < z) second (within_whole c b j y k m) in
    elim (cases_lt (i + c * x) (j + c * y)) [
      | inl d ↦ apart (i + c * x) (j + c * y) d other there
      | inr d ↦ elim (cases_lt (j + c * y) (i + c * x)) [
        | inl e ↦ apart (j + c * y) (i + c * x) e one (sym there)
        | inr e ↦ differ (one_part c i j x y h k (omega (arith, d, e)))
      ]
    ]

-- equal products by a number that isn't zero have equal factors
equal_factors : (a b c : ℕ) → 0 < c → a * c ≡ b * c → a ≡ b
equal_factors a b c pos e = elim (cases_lt a b) [
  | inl l ↦ let more : suc a * c ≤ b * c = mul-le-mul_right c l in let split : suc a * c ≡ c + a * c = omega arith in absurd (omega (arith, more, split, e, pos))
  | inr l ↦ elim (cases_lt b a) [
    | inl m ↦ let more : suc b * c ≤ a * c = mul-le-mul_right c m in let split : suc b * c ≡ c + b * c = omega arith in absurd (omega (arith, more, split, e, pos))
    | inr m ↦ omega (arith, l, m)
  ]
]

-- a part of a matrix is one matrix
pub one_split : {F : Type 0} (m p q : Rows F) (c i : ℕ) → F → 0 < c → FillsRows p.values p.width → FillsRows q.values q.width → IsSplit m c i p → IsSplit m c i q → p ≡ q
one_split {F} m p q c i d pos fills filled S T =
    sym (same_matrix d p q fills filled width (sym rows) columns)
  where
    width : q.width ≡ p.width
    width = T.width_is ∙ sym S.width_is

    rows : height p ≡ height q
    rows = equal_factors (height p) (height q) c pos (S.height_is ∙ sym T.height_is)

    cells : (j k : ℕ) → j < p.width → k < height q → cell_at d q k j ≡ cell_at d p k j
    cells j k l h =
        let wide : j < q.width = omega (arith, l, width) in
        let high : k < height p = omega (arith, h, rows) in
        sym (get_or-row_at q k j d wide) ∙ (ap (λ r. get_or r j d) (T.row_is k h ∙ sym (S.row_is k high)) ∙ get_or-row_at p k j d l)

    columns : (j : ℕ) → j < p.width → column d q j ≡ column d p j
    columns j l =
        let long : length (column d q j) ≡ length (column d p j) = length-column d q j ∙ (sym rows ∙ sym (length-column d p j)) in
        ext_get_or d (column d q j) (column d p j) long
        (λ k h.
        let high : k < height q = omega (arith, h, length-column d q j) in
        let same : k < height p = omega (arith, high, rows) in
        get_or-column d q j k high ∙ (cells j k l high ∙ sym (get_or-column d p j k same)))
