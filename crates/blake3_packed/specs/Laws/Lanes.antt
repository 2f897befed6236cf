-- Words of lanes one after another.
use Rattle.std.proofs.Common.{◌≡◌, ℕ, suc, ◌+◌, ◌-◌, ◌*◌, ◌<◌, List, [], ◌++◌, length, get_or, drop, inl, inr, sym, ◌∙◌, ap, subst, arith, append_assoc, append-nil, length-append}
use Rattle.std.proofs.lemmas.Bool.{cases_lt}
use Rattle.std.proofs.lemmas.List.{get_or_append_left, get_or-append_right, length-take, length-drop, get_or-take, get_or-drop}
use Rattle.std.specs.Prelude.{slice_range}
use Rattle.p3_field.specs.Poly.{tabulate}
use Rattle.p3_field.specs.Laws.Tabulate.{length-tabulate, get_or-tabulate}
use Rattle.blake3_binary.specs.Sums.{carry}
use Rattle.std.specs.Int.{bit_at}
use Rattle.air_core.specs.Joined.{joined}
use Rattle.blake3_packed.specs.Lanes.{AreLanes, PushedLanes, ArePlanes, AreCarries}

pub lanes_both : {xs ys : List ℕ} {n m : ℕ} {s t : ℕ → List ℕ} → AreLanes xs n s → AreLanes ys m t → AreLanes (xs ++ ys) (n + m) (λ j. s j ++ t j)
lanes_both {xs = xs} {ys = ys} {n = n} {m = m} {s = s} {t = t} p q = record {
  long = omega (arith, length-append xs ys, p.long, q.long);
  each = λ j lj. omega (arith, length-append (s j) (t j), p.each j lj, q.each j lj);
  bits = λ j c lj lc. elim (cases_lt c n) [
    | inl lt ↦
        ap (λ w. bit_at w j) (get_or_append_left xs ys 0 c (omega (arith, lt, p.long)))
        ∙ (p.bits j c lj lt ∙ sym (get_or_append_left (s j) (t j) 0 c (omega (arith, lt, p.each j lj))))
    | inr le ↦
        ap (λ w. bit_at w j) (get_or-append_right xs ys n c 0 p.long le)
        ∙ (q.bits j (c - n) lj (omega (arith, le, lc)) ∙ sym (get_or-append_right (s j) (t j) n c 0 (p.each j lj) le))
  ];
}

pub pushed_both : {a b c : List ℕ} {n m : ℕ} {s t : ℕ → List ℕ} → PushedLanes a b n s → PushedLanes b c m t → PushedLanes a c (n + m) (λ j. s j ++ t j)
pushed_both {a = a} p q = record {
  words = p.words ++ q.words;
  pushed = q.pushed ∙ (ap (λ xs. xs ++ q.words) p.pushed ∙ append_assoc a p.words q.words);
  are_lanes = lanes_both p.are_lanes q.are_lanes;
}

pub pushed_none : (a : List ℕ) (m : ℕ) (t : ℕ → ℕ → List ℕ) → PushedLanes a a (m * 0) (λ j. joined 0 (t j))
unfolding joined
pushed_none a m t = record {
  words = [];
  pushed = sym (append-nil a);
  are_lanes = record {
    long = omega arith;
    each = λ j lj. omega arith;
    bits = λ j c lj lc. absurd (omega (arith, lc));
  };
}

pub pushed_more : {a b c : List ℕ} (n m : ℕ) (t : ℕ → ℕ → List ℕ) → PushedLanes a b (m * n) (λ j. joined n (t j)) → PushedLanes b c m (λ j. t j n) → PushedLanes a c (m * (n + 1)) (λ j. joined (n + 1) (t j))
unfolding joined
pushed_more {a = a} {c = c} n m t p q =
    let e : suc n ≡ n + 1 = omega arith in
    let f : m * n + m ≡ m * (n + 1) = omega arith in
    subst (λ k. PushedLanes a c k (λ j. joined (n + 1) (t j))) f
    (subst (λ k. PushedLanes a c (m * n + m) (λ j. joined k (t j))) e (pushed_both {n = m * n} {m = m} {s = λ j. joined n (t j)} {t = λ j. t j n} p q))

pub pushed_all : {a b : List ℕ} (n k m : ℕ) (t : ℕ → ℕ → List ℕ) → n ≡ k → PushedLanes a b (m * n) (λ j. joined n (t j)) → PushedLanes a b (m * k) (λ j. joined k (t j))
pushed_all {a = a} {b = b} n k m t e p = subst (λ i. PushedLanes a b (m * i) (λ j. joined i (t j))) e p

-- the same lanes, otherwise written
pub lanes_same : (xs : List ℕ) (n k : ℕ) (s t : ℕ → List ℕ) → n ≡ k → ((j : ℕ) → j < 64 → s j ≡ t j) → AreLanes xs n s → AreLanes xs k t
lanes_same xs n k s t e f p = record {
  long = p.long ∙ e;
  each = λ j lj. sym (ap length (f j lj)) ∙ (p.each j lj ∙ e);
  bits = λ j c lj lc. p.bits j c lj (omega (arith, lc, e)) ∙ ap (λ l. get_or l c 0) (f j lj);
}

pub pushed_same : {a b : List ℕ} (n k : ℕ) (s t : ℕ → List ℕ) → n ≡ k → ((j : ℕ) → j < 64 → s j ≡ t j) → PushedLanes a b n s → PushedLanes a b k t
pushed_same n k s t e f p = record { words = p.words; pushed = p.pushed; are_lanes = lanes_same p.words n k s t e f p.are_lanes }

-- the planes of a word, and the carries of a sum, in lanes
pub planes_are_lanes : (xs : List ℕ) (w : ℕ → ℕ) → ArePlanes xs w → AreLanes xs 32 (λ j. tabulate 32 (bit_at (w j)))
planes_are_lanes xs w p = record {
  long = p.long;
  each = λ j lj. length-tabulate 32 (bit_at (w j));
  bits = λ j c lj lc. p.bits j c lj lc ∙ sym (get_or-tabulate 32 (bit_at (w j)) c 0 lc);
}

pub carries_are_lanes : (xs : List ℕ) (v w : ℕ → ℕ) → AreCarries xs v w → AreLanes (slice_range xs 1 32) 31 (λ j. tabulate 31 (λ i. carry (v j) (w j) (suc i)))
carries_are_lanes xs v w p = record {
  long = omega (arith, length-take 31 (drop 1 xs), length-drop 1 xs, p.long);
  each = λ j lj. length-tabulate 31 (λ i. carry (v j) (w j) (suc i));
  bits = λ j c lj lc.
      let e : 1 + c ≡ suc c = omega arith in
      ap (λ m. bit_at m j) (get_or-take 31 (drop 1 xs) c 0 lc ∙ get_or-drop 1 xs c 0)
      ∙ (p.bits j (1 + c) lj (omega (arith, lc)) ∙ (ap (carry (v j) (w j)) e ∙ sym (get_or-tabulate 31 (λ i. carry (v j) (w j) (suc i)) c 0 lc)));
}
