-- The places of a list's values that aren't zero, as far as a loop has come.
use Rattle.std.proofs.Common.{◌≡◌, ℕ, ◌+◌, ◌<◌, ◌⊎◌, inl, inr, List, [], ◌∷◌, ◌++◌, length, get_or, sym, ◌∙◌, ap, subst, arith, length-append, map}
use Rattle.std.specs.Prelude.{All, Contains}
use Rattle.std.proofs.lemmas.Bool.{cases_lt}
use Rattle.std.proofs.lemmas.List.{get_or_append_left, get_or_push, get_or_default, get_or-map, length-map}
use Rattle.std.proofs.lemmas.List.Elements.{All-push, All-weaker, Contains-append_left, Contains-push}
use Rattle.p3_field.specs.Ring.{Ring}
use Rattle.air_core.specs.Check.{AreNonzero}

-- k is below n, and the value there isn't zero
abbrev pub NonzeroAt : {A : Type 0} → Ring A → List A → ℕ → ℕ → Type 0
NonzeroAt r values n k = (k < n) × (get_or values k r.zero ≡ r.zero → ⊥)

pub record NonzeroBelow {A : Type 0} (r : Ring A) (values : List A) (n : ℕ) (places : List ℕ) : Type 0 where
  pub nonzero : All (NonzeroAt r values n) places
  pub others : (k : ℕ) → k < n → Contains places k ⊎ (get_or values k r.zero ≡ r.zero)
  pub increasing : (i j : ℕ) → i < j → j < length places → get_or places i 0 < get_or places j 0

module _ {A : Type 0} (r : Ring A) (values : List A) where
  weaker : (n : ℕ) (places : List ℕ) → All (NonzeroAt r values n) places → All (NonzeroAt r values (n + 1)) places
  weaker n places h = All-weaker (NonzeroAt r values n) (NonzeroAt r values (n + 1)) (λ k x. let b = x.0 in (omega (arith, b), x.1)) places h

  pub nonzero_skip : (n : ℕ) (places : List ℕ) → NonzeroBelow r values n places → get_or values n r.zero ≡ r.zero → NonzeroBelow r values (n + 1) places
  nonzero_skip n places h z = record {
    nonzero = weaker n places h.nonzero;
    others = λ k lt. elim (cases_lt k n) [
      | inl b ↦ h.others k b
      | inr g ↦ let e : k ≡ n = omega (arith, lt, g) in inr (ap (λ j. get_or values j r.zero) e ∙ z)
    ];
    increasing = h.increasing;
  }

  pub nonzero_push : (n : ℕ) (places : List ℕ) → NonzeroBelow r values n places → (get_or values n r.zero ≡ r.zero → ⊥) → NonzeroBelow r values (n + 1) (places ++ n ∷ [])
  nonzero_push n places h z = record {
    nonzero = All-push (NonzeroAt r values (n + 1)) places n (weaker n places h.nonzero) (omega arith, z);
    others = λ k lt. elim (cases_lt k n) [
      | inl b ↦ elim (h.others k b) [
        | inl c ↦ inl (Contains-append_left places (n ∷ []) k c)
        | inr e ↦ inr e
      ]
      | inr g ↦ let e : n ≡ k = omega (arith, lt, g) in let P : ℕ → Type 0 = λ j. Contains (places ++ n ∷ []) j in inl (subst P e (Contains-push places n))
    ];
    increasing = λ i j a b.
        let long : length (places ++ n ∷ []) ≡ length places + 1 = length-append places (n ∷ []) in
        let here : i < length places = omega (arith, a, b, long) in
        let left : get_or (places ++ n ∷ []) i 0 ≡ get_or places i 0 = get_or_append_left places (n ∷ []) 0 i here in
        elim (cases_lt j (length places)) [
          | inl c ↦
              let right : get_or (places ++ n ∷ []) j 0 ≡ get_or places j 0 = get_or_append_left places (n ∷ []) 0 j c in
              let less = h.increasing i j a c in
              omega (arith, left, right, less)
          | inr g ↦
              let last : length places ≡ j = omega (arith, b, long, g) in
              let right : get_or (places ++ n ∷ []) j 0 ≡ n = get_or_push places n 0 j last in
              let below = (h.nonzero i 0 here).0 in
              omega (arith, left, right, below)
        ];
  }

  -- no places: all values are zero
  pub nonzero_empty : (places : List ℕ) → AreNonzero r values places → length places ≡ 0 → All (λ x. x ≡ r.zero) values
  nonzero_empty places h e = λ k d lt. elim (h.others k lt) [
    | inl c ↦ let b = c.1 in absurd (omega (arith, b, e))
    | inr z ↦ get_or_default values k d r.zero lt ∙ z
  ]

-- what holds of each image holds of each item's image
pub all_of_map : {X Y : Type 0} (Q : Y → Type 0) (f : X → Y) (xs : List X) (ys : List Y) → map f xs ≡ ys → All Q ys → All (λ x. Q (f x)) xs
all_of_map {Y = Y} Q f xs ys e h = λ k d lt.
    let P : List Y → Type 0 = λ l. All Q l in
    let there : k < length (map f xs) = omega (arith, length-map xs f, lt) in
    subst Q (get_or-map f xs k d (f d) lt) (subst P (sym e) h k (f d) there)

-- a place among them is that of a value that isn't zero
pub nonzero_fails : {A : Type 0} (r : Ring A) (values : List A) (places : List ℕ) → AreNonzero r values places → 0 < length places → All (λ x. x ≡ r.zero) values → ⊥
nonzero_fails r values places h some all =
    let first = h.nonzero 0 0 some in
    first.1 (all (get_or places 0 0) r.zero first.0)
