-- The value of a multilinear polynomial from what a loop reads, a variable after another.
use Rattle.std.proofs.Common.{◌≡◌, ℕ, suc, ◌+◌, ◌*◌, ◌/◌, ◌-◌, ◌^◌, ◌<◌, ◌≤◌, List, [], ◌∷◌, length, get_or, drop, drop-cons, sym, ◌∙◌, ap, arith}
use Rattle.std.proofs.lemmas.Nat.{pow_pos}
use Rattle.std.proofs.lemmas.List.{get_or_default, length-drop, nil_from_length}
use Rattle.std.proofs.Math.Nat.{pow-suc}
use Rattle.p3_field.specs.Ring.{Ring, RingLaws, sub}
use Rattle.plain_pcs.specs.Multilinear.{multilinear_value}
use Rattle.plain_pcs.specs.Laws.Multilinear.{between, constant_value}

module _ {A : Type 0} (r : Ring A) (L : RingLaws r) where
  pub between_read : (vs : List A) (i : ℕ) (x low high s m a : A) → 2 * i + 1 < length vs → low ≡ get_or vs (2 * i) low → high ≡ get_or vs (2 * i + 1) high
      → s ≡ sub r high low → m ≡ r.mul x s → a ≡ r.add low m → a ≡ between r x (get_or vs (2 * i) r.zero) (get_or vs (2 * i + 1) r.zero)
  between_read vs i x low high s m a h p q e f k =
      let u : low ≡ get_or vs (2 * i) r.zero = p ∙ get_or_default vs (2 * i) low r.zero (omega arith) in
      let v : high ≡ get_or vs (2 * i + 1) r.zero = q ∙ get_or_default vs (2 * i + 1) high r.zero h in
      k ∙ (ap (r.add low) (f ∙ ap (r.mul x) e) ∙ (ap (λ y. between r x y high) u ∙ ap (λ y. between r x (get_or vs (2 * i) r.zero) y) v))

  -- a variable more, of those of a point
  module _ (point : List A) (i : ℕ) where
    pub next_variable : (x : A) (old new read : List A) (y : A) → i < length point → x ≡ get_or point i x → read ≡ old → length old ≡ 2 ^ (length point - i)
        → multilinear_value r old (drop i point) ≡ y → length new ≡ length read / 2
        → ((xs : List A) → length read ≡ 2 * 2 ^ length xs → multilinear_value r new xs ≡ multilinear_value r read (x ∷ xs))
        → (length new ≡ 2 ^ (length point - (i + 1))) × (multilinear_value r new (drop (i + 1) point) ≡ y)
    next_variable x old new read y h q same n value count step =
        let k = length point - (i + 1) in
        let one_less : length point - i ≡ suc k = omega arith in
        let twice : length read ≡ 2 * 2 ^ k = ap length same ∙ (n ∙ (ap (λ j. 2 ^ j) one_less ∙ omega (arith, pow-suc 2 k))) in
        let rest = drop (i + 1) point in
        let left : length rest ≡ k = length-drop (i + 1) point in
        let next : suc i ≡ i + 1 = omega arith in
        let cons : drop i point ≡ x ∷ rest = drop-cons point i x h ∙ (ap (λ z. z ∷ drop (suc i) point) (sym q) ∙ ap (λ j. x ∷ drop j point) next) in
        let again : length read ≡ 2 * 2 ^ length rest = twice ∙ ap (λ j. 2 * 2 ^ j) (sym left) in (
          omega (arith, count, twice),
          step rest again ∙ (ap (λ l. multilinear_value r l (x ∷ rest)) same ∙ (ap (multilinear_value r old) (sym cons) ∙ value)),
        )

    pub last_variable : (values : List A) (v y : A) → length point ≤ i → v ≡ get_or values 0 v → length values ≡ 2 ^ (length point - i)
        → multilinear_value r values (drop i point) ≡ y → v ≡ y
    last_variable values v y h q n value =
        let none : drop i point ≡ [] = nil_from_length (drop i point) (omega (arith, length-drop i point)) in
        let some : 0 < length values = omega (arith, n, pow_pos (length point - i)) in
        q ∙ (get_or_default values 0 v r.zero some ∙ (sym (constant_value r L values) ∙ (ap (multilinear_value r values) (sym none) ∙ value)))
