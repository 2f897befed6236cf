-- Lists made of pieces of one length.
use Rattle.std.proofs.Common.{◌≡◌, ℕ, zero, suc, ◌+◌, ◌-◌, ◌*◌, ◌/◌, ◌<◌, List, [], ◌∷◌, ◌++◌, length, take, drop, refl, sym, ◌∙◌, ap, arith, length-append}
use Rattle.std.proofs.Math.Seq.{take-add, drop-append-add}
use Rattle.std.proofs.Math.Nat.{mul-div-mul_right}
use Rattle.std.proofs.lemmas.List.{take_at, drop_at}
use Rattle.std.specs.List.{flat_map}
use Rattle.p3_matrix.specs.Matrix.{Rows, FillsRows, height, row_at}

module _ {X Y : Type 0} (f : X → List Y) (d : ℕ) (len : (x : X) → length (f x) ≡ d) where
  pub length-pieces : (xs : List X) → length (flat_map f xs) ≡ length xs * d
  length-pieces [] = omega arith
  length-pieces (x ∷ xs) = omega (arith, length-append (f x) (flat_map f xs), len x, length-pieces xs)

  pub take-pieces : (k : ℕ) (xs : List X) → take (k * d) (flat_map f xs) ≡ flat_map f (take k xs)
  take-pieces zero xs = let e : zero * d ≡ zero = omega arith in ap (λ n. take n (flat_map f xs)) e
  take-pieces (suc k) [] = empty (suc k * d)
    where
      empty : (n : ℕ) → take n (flat_map f []) ≡ flat_map f (take (suc k) [])
      empty zero = refl
      empty (suc n) = refl
  take-pieces (suc k) (x ∷ xs) =
      let e : suc k * d ≡ d + k * d = omega arith in
      let rest = flat_map f xs in
      ap (λ n. take n (f x ++ rest)) e
      ∙ (take-add d (k * d) (f x ++ rest)
      ∙ cc (take_at (f x) rest d (len x), drop_at (f x) rest d (len x), take-pieces k xs))

  pub drop-pieces : (k : ℕ) (xs : List X) → drop (k * d) (flat_map f xs) ≡ flat_map f (drop k xs)
  drop-pieces zero xs = let e : zero * d ≡ zero = omega arith in ap (λ n. drop n (flat_map f xs)) e
  drop-pieces (suc k) [] = empty (suc k * d)
    where
      empty : (n : ℕ) → drop n (flat_map f []) ≡ flat_map f (drop (suc k) [])
      empty zero = refl
      empty (suc n) = refl
  drop-pieces (suc k) (x ∷ xs) =
      let e : suc k * d ≡ length (f x) + k * d = omega (arith, len x) in
      ap (λ n. drop n (f x ++ flat_map f xs)) e ∙ (drop-append-add (f x) (flat_map f xs) (k * d) ∙ drop-pieces k xs)

  module _ (pos : 0 < d) where
    pub pieces-fill : (m : Rows X) → FillsRows m.values m.width → FillsRows (flat_map f m.values) (m.width * d)
    pieces-fill m h =
        let n = length m.values in let w = m.width in
        let e : length (flat_map f m.values) ≡ n * d = length-pieces m.values in
        let q : n * d / (w * d) ≡ n / w = mul-div-mul_right n w pos in
        ap (λ k. k / (w * d) * (w * d)) e ∙ (ap (λ k. k * (w * d)) q ∙ (regroup (n / w) w d n h ∙ sym e))
      where
        regroup : (q w d n : ℕ) → q * w ≡ n → q * (w * d) ≡ n * d
        regroup q w d n h = omega (arith, ap (λ k. k * d) h)

    pub height-pieces : (m : Rows X) (v : Rows Y) → v.values ≡ flat_map f m.values → v.width ≡ m.width * d → height v ≡ height m
    height-pieces m v e h =
        ap (λ k. k / v.width) (ap length e ∙ length-pieces m.values) ∙ (ap (λ k. length m.values * d / k) h ∙ mul-div-mul_right (length m.values) m.width pos)

  pub row_at-pieces : (m : Rows X) (v : Rows Y) (i : ℕ) → v.values ≡ flat_map f m.values → v.width ≡ m.width * d → row_at v i ≡ flat_map f (row_at m i)
  row_at-pieces m v i e h =
      let w = m.width in
      let start : i * v.width ≡ (i * w) * d = omega (arith, ap (λ k. i * k) h) in
      let long : (i * v.width + v.width) - i * v.width ≡ ((i * w + w) - i * w) * d = lengths (i * v.width) v.width (i * w) w h in
      cc (
        ap (λ k. take k (drop (i * v.width) v.values)) long,
        ap (λ k. drop k v.values) start,
        ap (drop ((i * w) * d)) e,
        drop-pieces (i * w) m.values,
        take-pieces ((i * w + w) - i * w) (drop (i * w) m.values),
      )
    where
      lengths : (a b c w : ℕ) → b ≡ w * d → (a + b) - a ≡ ((c + w) - c) * d
      lengths a b c w h =
          let x : (a + b) - a ≡ b = omega arith in
          let y : (c + w) - c ≡ w = omega arith in
          x ∙ (h ∙ ap (λ k. k * d) (sym y))
