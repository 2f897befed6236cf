-- Blocks of bits exchanged, half as wide each time.
use Rattle.std.proofs.Common.{◌≡◌, ℕ, zero, suc, ◌+◌, ◌-◌, ◌*◌, ◌/◌, ◌%◌, ◌^◌, ◌<◌, ◌≤◌, ◌≢◌, Bool, true, false, cond, eqb, List, length, get_or, set, inl, inr, refl, sym, ◌∙◌, ap, subst, arith, get_or-set_same, get_or-set_other, length-set}
use Rattle.std.specs.Prelude.{bit_xor, bit_and}
use Rattle.std.specs.Int.{bit_at}
use Rattle.std.proofs.lemmas.Bool.{cases_eq, cases_lt, cases_Bool, eqb-true}
use Rattle.std.proofs.lemmas.Nat.{shr-shr, pow_pos}
use Rattle.std.proofs.lemmas.Nat.Bits.{bit_at-lt, bit_at-zero, bit_at_xor, bit_at_and, bit_at_cat_low, bit_at_cat_high}
use Rattle.blake3_binary.specs.Laws.Sums.{bit_of_low}
use Rattle.blake3_packed.specs.Lanes.{IsHalving, ExchangedBelow, IsExchanged, IsTransposed}

-- the bits of a word that is shifted
bit_of_shr : (a w j : ℕ) → bit_at (a / 2 ^ w) j ≡ bit_at a (j + w)
bit_of_shr a w j =
    let e : w + j ≡ j + w = omega arith in
    ap (λ m. m % 2) (shr-shr a w j) ∙ ap (bit_at a) e

bit_of_shl_low : (a w j : ℕ) → j < 64 → j < w → bit_at (a * 2 ^ w % 2 ^ 64) j ≡ 0
bit_of_shl_low a w j lj lt =
    let e : a * 2 ^ w ≡ a * 2 ^ w + 0 = omega arith in
    bit_of_low (a * 2 ^ w) 64 j lj ∙ (ap (λ m. bit_at m j) e ∙ (bit_at_cat_low a w 0 j lt ∙ bit_at-zero j))

bit_of_shl_high : (a w j : ℕ) → j < 64 → w ≤ j → bit_at (a * 2 ^ w % 2 ^ 64) j ≡ bit_at a (j - w)
bit_of_shl_high a w j lj le =
    let e : a * 2 ^ w ≡ a * 2 ^ w + 0 = omega arith in
    bit_of_low (a * 2 ^ w) 64 j lj ∙ (ap (λ m. bit_at m j) e ∙ bit_at_cat_high a w 0 j (pow_positive w) le)
  where
    pow_positive : (w : ℕ) → 0 < 2 ^ w
    pow_positive w = pow_pos w

module _ (w mask a b : ℕ) (H : IsHalving w mask) where
  moved : ℕ
  moved = bit_and (bit_xor (a / 2 ^ w) b) mask

  moved_even : (j : ℕ) → j < 64 → j / w % 2 ≡ 0 → bit_at (bit_and (bit_xor (a / 2 ^ w) b) mask) j ≡ (bit_at a (j + w) + bit_at b j) % 2
  moved_even j lj e =
      omega (arith, bit_at_and (bit_xor (a / 2 ^ w) b) mask j, bit_at_xor (a / 2 ^ w) b j, bit_of_shr a w j, H.bits j lj, e)

  moved_odd : (j : ℕ) → j < 64 → j / w % 2 ≡ 1 → bit_at (bit_and (bit_xor (a / 2 ^ w) b) mask) j ≡ 0
  moved_odd j lj e =
      omega (arith, bit_at_and (bit_xor (a / 2 ^ w) b) mask j, H.bits j lj, e)

  pub low_even : (j : ℕ) → j < 64 → j / w % 2 ≡ 0 → bit_at (bit_xor a (bit_and (bit_xor (a / 2 ^ w) b) mask * 2 ^ w % 2 ^ 64)) j ≡ bit_at a j
  low_even j lj e =
      let t = bit_and (bit_xor (a / 2 ^ w) b) mask in
      let none : bit_at (t * 2 ^ w % 2 ^ 64) j ≡ 0 = elim (cases_lt j w) [
        | inl lt ↦ bit_of_shl_low t w j lj lt
        | inr le ↦ bit_of_shl_high t w j lj le ∙ moved_odd (j - w) (omega (arith, lj)) (omega (arith, H.down j lj le, e))
      ] in
      omega (arith, bit_at_xor a (t * 2 ^ w % 2 ^ 64) j, none, bit_at-lt a j)

  pub low_odd : (j : ℕ) → j < 64 → j / w % 2 ≡ 1 → bit_at (bit_xor a (bit_and (bit_xor (a / 2 ^ w) b) mask * 2 ^ w % 2 ^ 64)) j ≡ bit_at b (j - w)
  low_odd j lj e =
      let t = bit_and (bit_xor (a / 2 ^ w) b) mask in
      let le : w ≤ j = H.odd j lj e in
      let back : j - w + w ≡ j = omega (arith, le) in
      let here = bit_of_shl_high t w j lj le ∙ moved_even (j - w) (omega (arith, lj)) (omega (arith, H.down j lj le, e)) in
      let same : bit_at a (j - w + w) ≡ bit_at a j = ap (bit_at a) back in
      omega (arith, bit_at_xor a (t * 2 ^ w % 2 ^ 64) j, here, same, bit_at-lt a j, bit_at-lt b (j - w))

  pub high_even : (j : ℕ) → j < 64 → j / w % 2 ≡ 0 → bit_at (bit_xor b (bit_and (bit_xor (a / 2 ^ w) b) mask)) j ≡ bit_at a (j + w)
  high_even j lj e =
      let t = bit_and (bit_xor (a / 2 ^ w) b) mask in
      omega (arith, bit_at_xor b t j, moved_even j lj e, bit_at-lt a (j + w), bit_at-lt b j)

  pub high_odd : (j : ℕ) → j < 64 → j / w % 2 ≡ 1 → bit_at (bit_xor b (bit_and (bit_xor (a / 2 ^ w) b) mask)) j ≡ bit_at b j
  high_odd j lj e =
      let t = bit_and (bit_xor (a / 2 ^ w) b) mask in
      omega (arith, bit_at_xor b t j, moved_odd j lj e, bit_at-lt b j)

pub none_exchanged : (w : ℕ) (xs ys : List ℕ) → ExchangedBelow 0 w xs ys
none_exchanged w xs ys = record {
  low_even = λ p j lp lj e. absurd (omega (arith, lp));
  low_odd = λ p j lp lj e. absurd (omega (arith, lp));
  high_even = λ p j lp lj e. absurd (omega (arith, lp));
  high_odd = λ p j lp lj e. absurd (omega (arith, lp));
}

-- two rows more
module _ (n w mask : ℕ) (xs ys : List ℕ) (H : IsHalving w mask) (small : n < 32) (long : length ys ≡ 64) where
  two_set : ℕ → ℕ → List ℕ
  two_set x y = set (set ys (2 * n) x) (2 * n + 1) y

  low_at : (x y : ℕ) → get_or (set (set ys (2 * n) x) (2 * n + 1) y) (2 * n) 0 ≡ x
  low_at x y =
      let d : 2 * n ≢ 2 * n + 1 = omega arith in
      get_or-set_other (set ys (2 * n) x) (2 * n + 1) (2 * n) y 0 d ∙ get_or-set_same ys (2 * n) x 0 (omega (arith, long, small))

  high_at : (x y : ℕ) → get_or (set (set ys (2 * n) x) (2 * n + 1) y) (2 * n + 1) 0 ≡ y
  high_at x y = get_or-set_same (set ys (2 * n) x) (2 * n + 1) y 0 (omega (arith, long, small, length-set ys (2 * n) x))

  other_at : (x y i : ℕ) → i < 2 * n → get_or (set (set ys (2 * n) x) (2 * n + 1) y) i 0 ≡ get_or ys i 0
  other_at x y i lt =
      let d : i ≢ 2 * n + 1 = omega (arith, lt) in
      let f : i ≢ 2 * n = omega (arith, lt) in
      get_or-set_other (set ys (2 * n) x) (2 * n + 1) i y 0 d ∙ get_or-set_other ys (2 * n) i x 0 f

  pub more_exchanged : (a b : ℕ) → get_or xs n 0 ≡ a → get_or xs (n + 32) 0 ≡ b → ExchangedBelow n w xs ys
      → ExchangedBelow (n + 1) w xs (set (set ys (2 * n) (bit_xor a (bit_and (bit_xor (a / 2 ^ w) b) mask * 2 ^ w % 2 ^ 64))) (2 * n + 1) (bit_xor b (bit_and (bit_xor (a / 2 ^ w) b) mask)))
  more_exchanged a b ea eb E =
      let x = bit_xor a (bit_and (bit_xor (a / 2 ^ w) b) mask * 2 ^ w % 2 ^ 64) in
      let y = bit_xor b (bit_and (bit_xor (a / 2 ^ w) b) mask) in
      let zs = set (set ys (2 * n) x) (2 * n + 1) y in
      record {
        low_even = λ p j lp lj e. elim (cases_eq p n) [
          | inl same ↦
              ap (λ q. bit_at (get_or zs (2 * q) 0) j) same ∙ (ap (λ m. bit_at m j) (low_at x y) ∙ (low_even w mask a b H j lj e ∙ ap (λ m. bit_at m j) (sym ea ∙ ap (λ q. get_or xs q 0) (sym same))))
          | inr other ↦ ap (λ m. bit_at m j) (other_at x y (2 * p) (omega (arith, other, lp))) ∙ E.low_even p j (omega (arith, other, lp)) lj e
        ];
        low_odd = λ p j lp lj e. elim (cases_eq p n) [
          | inl same ↦
              ap (λ q. bit_at (get_or zs (2 * q) 0) j) same ∙ (ap (λ m. bit_at m j) (low_at x y) ∙ (low_odd w mask a b H j lj e ∙ ap (λ m. bit_at m (j - w)) (sym eb ∙ ap (λ q. get_or xs (q + 32) 0) (sym same))))
          | inr other ↦ ap (λ m. bit_at m j) (other_at x y (2 * p) (omega (arith, other, lp))) ∙ E.low_odd p j (omega (arith, other, lp)) lj e
        ];
        high_even = λ p j lp lj e. elim (cases_eq p n) [
          | inl same ↦
              ap (λ q. bit_at (get_or zs (2 * q + 1) 0) j) same ∙ (ap (λ m. bit_at m j) (high_at x y) ∙ (high_even w mask a b H j lj e ∙ ap (λ m. bit_at m (j + w)) (sym ea ∙ ap (λ q. get_or xs q 0) (sym same))))
          | inr other ↦ ap (λ m. bit_at m j) (other_at x y (2 * p + 1) (omega (arith, other, lp))) ∙ E.high_even p j (omega (arith, other, lp)) lj e
        ];
        high_odd = λ p j lp lj e. elim (cases_eq p n) [
          | inl same ↦
              ap (λ q. bit_at (get_or zs (2 * q + 1) 0) j) same ∙ (ap (λ m. bit_at m j) (high_at x y) ∙ (high_odd w mask a b H j lj e ∙ ap (λ m. bit_at m j) (sym eb ∙ ap (λ q. get_or xs (q + 32) 0) (sym same))))
          | inr other ↦ ap (λ m. bit_at m j) (other_at x y (2 * p + 1) (omega (arith, other, lp))) ∙ E.high_odd p j (omega (arith, other, lp)) lj e
        ];
      }

-- One exchange after others: bit j of row i comes from this column of this row at first.
pub record Comes (xs ys : List ℕ) (row column : ℕ → ℕ → ℕ) : Type 0 where
  pub from_bits : (i j : ℕ) → i < 64 → j < 64 → bit_at (get_or ys i 0) j ≡ bit_at (get_or xs (row i j) 0) (column i j)

-- the places after one exchange more
pub record Follows (w : ℕ) (row column row' column' : ℕ → ℕ → ℕ) : Type 0 where
  pub low_even : (p j : ℕ) → p < 32 → j < 64 → j / w % 2 ≡ 0 → (row p j ≡ row' (2 * p) j) × (column p j ≡ column' (2 * p) j)
  pub low_odd : (p j : ℕ) → p < 32 → j < 64 → j / w % 2 ≡ 1 → (row (p + 32) (j - w) ≡ row' (2 * p) j) × (column (p + 32) (j - w) ≡ column' (2 * p) j)
  pub high_even : (p j : ℕ) → p < 32 → j < 64 → j / w % 2 ≡ 0 → (row p (j + w) ≡ row' (2 * p + 1) j) × (column p (j + w) ≡ column' (2 * p + 1) j)
  pub high_odd : (p j : ℕ) → p < 32 → j < 64 → j / w % 2 ≡ 1 → (row (p + 32) j ≡ row' (2 * p + 1) j) × (column (p + 32) j ≡ column' (2 * p + 1) j)

pub comes_next : (w mask : ℕ) (xs ys zs : List ℕ) (row column row' column' : ℕ → ℕ → ℕ) → IsHalving w mask → Comes xs ys row column → IsExchanged w ys zs → Follows w row column row' column' → Comes xs zs row' column'
comes_next w mask xs ys zs row column row' column' H C E F =
    let both = λ (i : ℕ) (j : ℕ) (i' : ℕ) (j' : ℕ) (e : (row i j ≡ row' i' j') × (column i j ≡ column' i' j')).
    let r = e.0 in let c = e.1 in ap (λ m. bit_at (get_or xs m 0) (column i j)) r ∙ ap (bit_at (get_or xs (row' i' j') 0)) c in
    record {
      from_bits = λ i j li lj.
          let p = i / 2 in
          let lp : p < 32 = omega (arith, li) in
          elim (cases_lt (i % 2) 1) [
            | inl even ↦
                let e : i ≡ 2 * (i / 2) = omega (arith, even) in
                elim (cases_lt (j / w % 2) 1) [
                  | inl low ↦
                      let z : j / w % 2 ≡ 0 = omega (arith, low) in
                      subst (λ i'. bit_at (get_or zs i' 0) j ≡ bit_at (get_or xs (row' i' j) 0) (column' i' j)) (sym e)
                      (E.low_even p j lp lj z ∙ (C.from_bits p j (omega (arith, lp)) lj ∙ both p j (2 * p) j (F.low_even p j lp lj z)))
                  | inr high ↦
                      let z : j / w % 2 ≡ 1 = omega (arith, high) in
                      subst (λ i'. bit_at (get_or zs i' 0) j ≡ bit_at (get_or xs (row' i' j) 0) (column' i' j)) (sym e)
                      (E.low_odd p j lp lj z ∙ (C.from_bits (p + 32) (j - w) (omega (arith, lp)) (omega (arith, lj)) ∙ both (p + 32) (j - w) (2 * p) j (F.low_odd p j lp lj z)))
                ]
            | inr odd ↦
                let e : i ≡ 2 * (i / 2) + 1 = omega (arith, odd) in
                elim (cases_lt (j / w % 2) 1) [
                  | inl low ↦
                      let z : j / w % 2 ≡ 0 = omega (arith, low) in
                      subst (λ i'. bit_at (get_or zs i' 0) j ≡ bit_at (get_or xs (row' i' j) 0) (column' i' j)) (sym e)
                      (E.high_even p j lp lj z ∙ (C.from_bits p (j + w) (omega (arith, lp)) (H.up j lj z) ∙ both p (j + w) (2 * p + 1) j (F.high_even p j lp lj z)))
                  | inr high ↦
                      let z : j / w % 2 ≡ 1 = omega (arith, high) in
                      subst (λ i'. bit_at (get_or zs i' 0) j ≡ bit_at (get_or xs (row' i' j) 0) (column' i' j)) (sym e)
                      (E.high_odd p j lp lj z ∙ (C.from_bits (p + 32) j (omega (arith, lp)) lj ∙ both (p + 32) j (2 * p + 1) j (F.high_odd p j lp lj z)))
                ]
          ];
    }

-- what a number has at each place below another, by computing it
all_below : ℕ → (ℕ → Bool) → Bool
all_below zero f = true
all_below (suc n) f = cond (f n) (all_below n f) false

from_all_below : (n : ℕ) (f : ℕ → Bool) → all_below n f ≡ true → (j : ℕ) → j < n → f j ≡ true
unfolding all_below
from_all_below zero f h j lt = absurd (omega (arith, lt))
from_all_below (suc n) f h j lt =
    elim (cases_Bool (f n)) [
      | inl here ↦
          let rest : all_below n f ≡ true = sym (ap (λ b. cond b (all_below n f) false) here) ∙ h in
          elim (cases_eq j n) [
            | inl e ↦ ap f e ∙ here
            | inr d ↦ from_all_below n f rest j (omega (arith, lt, d))
          ]
      | inr gone ↦
          let wrong : false ≡ true = sym (ap (λ b. cond b (all_below n f) false) gone) ∙ h in
          absurd (cc wrong)
    ]

masked : ℕ → ℕ → ℕ → Bool
masked w mask j = eqb (bit_at mask j) (1 - j / w % 2)

pub halves_32 : IsHalving 32 4294967295
unfolding all_below masked
halves_32 = record {
  bits = λ j lj. eqb-true _ _ (from_all_below 64 (masked 32 4294967295) refl j lj);
  up = λ j lj e. omega (arith, lj, e);
  odd = λ j lj e. omega (arith, lj, e);
  down = λ j lj le. omega (arith, lj, le);
}

pub halves_16 : IsHalving 16 281470681808895
unfolding all_below masked
halves_16 = record {
  bits = λ j lj. eqb-true _ _ (from_all_below 64 (masked 16 281470681808895) refl j lj);
  up = λ j lj e. omega (arith, lj, e);
  odd = λ j lj e. omega (arith, lj, e);
  down = λ j lj le. omega (arith, lj, le);
}

pub halves_8 : IsHalving 8 71777214294589695
unfolding all_below masked
halves_8 = record {
  bits = λ j lj. eqb-true _ _ (from_all_below 64 (masked 8 71777214294589695) refl j lj);
  up = λ j lj e. omega (arith, lj, e);
  odd = λ j lj e. omega (arith, lj, e);
  down = λ j lj le. omega (arith, lj, le);
}

pub halves_4 : IsHalving 4 1085102592571150095
unfolding all_below masked
halves_4 = record {
  bits = λ j lj. eqb-true _ _ (from_all_below 64 (masked 4 1085102592571150095) refl j lj);
  up = λ j lj e. omega (arith, lj, e);
  odd = λ j lj e. omega (arith, lj, e);
  down = λ j lj le. omega (arith, lj, le);
}

pub halves_2 : IsHalving 2 3689348814741910323
unfolding all_below masked
halves_2 = record {
  bits = λ j lj. eqb-true _ _ (from_all_below 64 (masked 2 3689348814741910323) refl j lj);
  up = λ j lj e. omega (arith, lj, e);
  odd = λ j lj e. omega (arith, lj, e);
  down = λ j lj le. omega (arith, lj, le);
}

pub halves_1 : IsHalving 1 6148914691236517205
unfolding all_below masked
halves_1 = record {
  bits = λ j lj. eqb-true _ _ (from_all_below 64 (masked 1 6148914691236517205) refl j lj);
  up = λ j lj e. omega (arith, lj, e);
  odd = λ j lj e. omega (arith, lj, e);
  down = λ j lj le. omega (arith, lj, le);
}

follows_32 : Follows 32 (λ i j. j / 64 * 64 + i / 1) (λ i j. i % 1 * 64 + j % 64) (λ i j. j / 32 * 32 + i / 2) (λ i j. i % 2 * 32 + j % 32)
follows_32 = record {
  low_even = λ p j lp lj e. (omega (arith, lp, lj, e), omega (arith, lp, lj, e));
  low_odd = λ p j lp lj e. (omega (arith, lp, lj, e), omega (arith, lp, lj, e));
  high_even = λ p j lp lj e. (omega (arith, lp, lj, e), omega (arith, lp, lj, e));
  high_odd = λ p j lp lj e. (omega (arith, lp, lj, e), omega (arith, lp, lj, e));
}

follows_16 : Follows 16 (λ i j. j / 32 * 32 + i / 2) (λ i j. i % 2 * 32 + j % 32) (λ i j. j / 16 * 16 + i / 4) (λ i j. i % 4 * 16 + j % 16)
follows_16 = record {
  low_even = λ p j lp lj e. (omega (arith, lp, lj, e), omega (arith, lp, lj, e));
  low_odd = λ p j lp lj e. (omega (arith, lp, lj, e), omega (arith, lp, lj, e));
  high_even = λ p j lp lj e. (omega (arith, lp, lj, e), omega (arith, lp, lj, e));
  high_odd = λ p j lp lj e. (omega (arith, lp, lj, e), omega (arith, lp, lj, e));
}

follows_8 : Follows 8 (λ i j. j / 16 * 16 + i / 4) (λ i j. i % 4 * 16 + j % 16) (λ i j. j / 8 * 8 + i / 8) (λ i j. i % 8 * 8 + j % 8)
follows_8 = record {
  low_even = λ p j lp lj e. (omega (arith, lp, lj, e), omega (arith, lp, lj, e));
  low_odd = λ p j lp lj e. (omega (arith, lp, lj, e), omega (arith, lp, lj, e));
  high_even = λ p j lp lj e. (omega (arith, lp, lj, e), omega (arith, lp, lj, e));
  high_odd = λ p j lp lj e. (omega (arith, lp, lj, e), omega (arith, lp, lj, e));
}

follows_4 : Follows 4 (λ i j. j / 8 * 8 + i / 8) (λ i j. i % 8 * 8 + j % 8) (λ i j. j / 4 * 4 + i / 16) (λ i j. i % 16 * 4 + j % 4)
follows_4 = record {
  low_even = λ p j lp lj e. (omega (arith, lp, lj, e), omega (arith, lp, lj, e));
  low_odd = λ p j lp lj e. (omega (arith, lp, lj, e), omega (arith, lp, lj, e));
  high_even = λ p j lp lj e. (omega (arith, lp, lj, e), omega (arith, lp, lj, e));
  high_odd = λ p j lp lj e. (omega (arith, lp, lj, e), omega (arith, lp, lj, e));
}

follows_2 : Follows 2 (λ i j. j / 4 * 4 + i / 16) (λ i j. i % 16 * 4 + j % 4) (λ i j. j / 2 * 2 + i / 32) (λ i j. i % 32 * 2 + j % 2)
follows_2 = record {
  low_even = λ p j lp lj e. (omega (arith, lp, lj, e), omega (arith, lp, lj, e));
  low_odd = λ p j lp lj e. (omega (arith, lp, lj, e), omega (arith, lp, lj, e));
  high_even = λ p j lp lj e. (omega (arith, lp, lj, e), omega (arith, lp, lj, e));
  high_odd = λ p j lp lj e. (omega (arith, lp, lj, e), omega (arith, lp, lj, e));
}

follows_1 : Follows 1 (λ i j. j / 2 * 2 + i / 32) (λ i j. i % 32 * 2 + j % 2) (λ i j. j / 1 * 1 + i / 64) (λ i j. i % 64 * 1 + j % 1)
follows_1 = record {
  low_even = λ p j lp lj e. (omega (arith, lp, lj, e), omega (arith, lp, lj, e));
  low_odd = λ p j lp lj e. (omega (arith, lp, lj, e), omega (arith, lp, lj, e));
  high_even = λ p j lp lj e. (omega (arith, lp, lj, e), omega (arith, lp, lj, e));
  high_odd = λ p j lp lj e. (omega (arith, lp, lj, e), omega (arith, lp, lj, e));
}

comes_first : (xs : List ℕ) → Comes xs xs (λ i j. j / 64 * 64 + i / 1) (λ i j. i % 1 * 64 + j % 64)
comes_first xs = record {
  from_bits = λ i j li lj.
      let e : i ≡ j / 64 * 64 + i / 1 = omega (arith, li, lj) in
      let f : j ≡ i % 1 * 64 + j % 64 = omega (arith, li, lj) in
      ap (λ m. bit_at (get_or xs m 0) j) e ∙ ap (bit_at (get_or xs (j / 64 * 64 + i / 1) 0)) f;
}

pub all_exchanged : (xs a b c d e f : List ℕ) → IsExchanged 32 xs a → IsExchanged 16 a b → IsExchanged 8 b c → IsExchanged 4 c d → IsExchanged 2 d e → IsExchanged 1 e f → IsTransposed xs f
all_exchanged xs a b c d e f h1 h2 h3 h4 h5 h6 i j li lj =
    let p0 = comes_first xs in
    let p1 = comes_next 32 4294967295 xs xs a (λ i j. j / 64 * 64 + i / 1) (λ i j. i % 1 * 64 + j % 64) (λ i j. j / 32 * 32 + i / 2) (λ i j. i % 2 * 32 + j % 32) halves_32 p0 h1 follows_32 in
    let p2 = comes_next 16 281470681808895 xs a b (λ i j. j / 32 * 32 + i / 2) (λ i j. i % 2 * 32 + j % 32) (λ i j. j / 16 * 16 + i / 4) (λ i j. i % 4 * 16 + j % 16) halves_16 p1 h2 follows_16 in
    let p3 = comes_next 8 71777214294589695 xs b c (λ i j. j / 16 * 16 + i / 4) (λ i j. i % 4 * 16 + j % 16) (λ i j. j / 8 * 8 + i / 8) (λ i j. i % 8 * 8 + j % 8) halves_8 p2 h3 follows_8 in
    let p4 = comes_next 4 1085102592571150095 xs c d (λ i j. j / 8 * 8 + i / 8) (λ i j. i % 8 * 8 + j % 8) (λ i j. j / 4 * 4 + i / 16) (λ i j. i % 16 * 4 + j % 4) halves_4 p3 h4 follows_4 in
    let p5 = comes_next 2 3689348814741910323 xs d e (λ i j. j / 4 * 4 + i / 16) (λ i j. i % 16 * 4 + j % 4) (λ i j. j / 2 * 2 + i / 32) (λ i j. i % 32 * 2 + j % 2) halves_2 p4 h5 follows_2 in
    let p6 = comes_next 1 6148914691236517205 xs e f (λ i j. j / 2 * 2 + i / 32) (λ i j. i % 32 * 2 + j % 2) (λ i j. j / 1 * 1 + i / 64) (λ i j. i % 64 * 1 + j % 1) halves_1 p5 h6 follows_1 in
    let r : j / 1 * 1 + i / 64 ≡ j = omega (arith, li, lj) in
    let c : i % 64 * 1 + j % 1 ≡ i = omega (arith, li, lj) in
    p6.from_bits i j li lj ∙ (ap (λ m. bit_at (get_or xs m 0) (i % 64 * 1 + j % 1)) r ∙ ap (bit_at (get_or xs j 0)) c)
