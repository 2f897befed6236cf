-- The terminals of a batch are the sum over its messages of count over denominator, and zero where nothing is left over.
use Rattle.std.proofs.Common.{◌≡◌, ℕ, zero, suc, ◌+◌, ◌*◌, ◌<◌, inl, inr, Bool, true, false, ◌&&◌, nat_eq, List, [], ◌∷◌, ◌++◌, length, get_or, map, refl, sym, ◌∙◌, ap, subst, arith}
use Rattle.std.specs.Prelude.{flat_map}
use Rattle.std.specs.Cmp.Lexicographic.{pointwise, pointwise_decides}
use Rattle.std.proofs.lemmas.List.{map-append}
use Rattle.std.proofs.lemmas.Simd.{map-map}
use Rattle.std.proofs.lemmas.Bool.Decides.{eqb_tells}
use Rattle.p3_field.specs.Ring.{Ring, RingLaws}
use Rattle.p3_field.specs.Field.{RingHom}
use Rattle.p3_field.specs.Poly.{tabulate, total}
use Rattle.p3_field.specs.Laws.Sums.{total_same, total_zero}
use Rattle.air_core.specs.Tree.{Tree}
use Rattle.p3_lookup.specs.Lookup.{LookupData, Sent, map_sent, sent}
use Rattle.p3_lookup.specs.Term.{term, denominator, sum_of, fraction}
use Rattle.p3_lookup.specs.Honest.{terms_from, row_fractions, running_sum}
use Rattle.p3_lookup.specs.Messages.{Message, Sender, message, messages_from, table_messages, batch_messages, IsBalanced, message_denominator, challenges_from, challenges_of, argument_of, terminal_of}
use Rattle.p3_lookup.specs.Laws.Terms.{sum_append}
use Rattle.p3_lookup.specs.Laws.Balance.{balanced}

-- the challenges of a table are the bases and beta
pub has_bases : {E : Type 0} (z : E) (base : ℕ → E) (beta : E) (bus : ℕ → ℕ) (n m k : ℕ) → k < m
    → (get_or (challenges_from base beta bus n m) (2 * k) z ≡ base (bus (n + k))) × (get_or (challenges_from base beta bus n m) (2 * k + 1) z ≡ beta)
has_bases z base beta bus n zero k h = absurd (omega (arith, h))
has_bases z base beta bus n (suc m) zero h =
    let e : n ≡ n + 0 = omega arith in (ap (λ j. base (bus j)) e, refl)
has_bases z base beta bus n (suc m) (suc k) h =
    let a : 2 * suc k ≡ suc (suc (2 * k)) = omega arith in
    let b : 2 * suc k + 1 ≡ suc (suc (2 * k + 1)) = omega arith in
    let e : suc n + k ≡ n + suc k = omega arith in
    let xs = challenges_from base beta bus (suc n) m in
    let rest = has_bases z base beta bus (suc n) m k (omega (arith, h)) in (
      ap (λ j. get_or (base (bus n) ∷ beta ∷ xs) j z) a ∙ rest.0 ∙ ap (λ j. base (bus j)) e,
      ap (λ j. get_or (base (bus n) ∷ beta ∷ xs) j z) b ∙ rest.1,
    )

module _ {F E : Type 0} (e : Ring E) (L : RingLaws e) (inv : E → E) (embed : F → E) (base : ℕ → E) (beta : E) where
  -- the count of a message over its denominator
  abbrev pub weight : Message F → E
  weight m = e.mul (embed m.count) (inv (message_denominator e embed base beta m))

  abbrev pub weights : List (Message F) → E
  weights ms = sum_of e (map weight ms)

  pub weights_append : (xs ys : List (Message F)) → weights (xs ++ ys) ≡ e.add (weights xs) (weights ys)
  weights_append xs ys = ap (sum_of e) (map-append weight xs ys) ∙ sum_append e L (map weight xs) (map weight ys)

  module _ (challenges : List E) (v : Tree F → F) where
    abbrev value : Tree F → E
    value t = embed (v t)

    pub lookup_weights : (b n : ℕ) → get_or challenges (2 * n) e.zero ≡ base b → get_or challenges (2 * n + 1) e.zero ≡ beta → (ss : List (Sent (Tree F)))
        → fraction e inv (map (λ s. term e (get_or challenges (2 * n) e.zero) (get_or challenges (2 * n + 1) e.zero) (map_sent value s)) ss) ≡ weights (map (message v b) ss)
    lookup_weights b n hb hc [] = refl
    lookup_weights b n hb hc (s ∷ ss) =
        let same : denominator e (get_or challenges (2 * n) e.zero) (get_or challenges (2 * n + 1) e.zero) (map value s.tuple) ≡ message_denominator e embed base beta (message v b s) =
        ap (λ x. denominator e x (get_or challenges (2 * n + 1) e.zero) (map value s.tuple)) hb
        ∙ ap (λ x. denominator e (base b) x (map value s.tuple)) hc
        ∙ ap (denominator e (base b) beta) (sym (map-map embed v s.tuple)) in
        cc (same, lookup_weights b n hb hc ss)

    pub row_weights : (bus : ℕ → ℕ) (n : ℕ) (ls : List (LookupData F))
        → ((k : ℕ) → k < length ls → (get_or challenges (2 * (n + k)) e.zero ≡ base (bus (n + k))) × (get_or challenges (2 * (n + k) + 1) e.zero ≡ beta))
        → sum_of e (map (fraction e inv) (terms_from e challenges value n ls)) ≡ weights (messages_from v bus n ls)
    row_weights bus n [] h = refl
    row_weights bus n (l ∷ ls) h =
        let z : n + 0 ≡ n = omega arith in
        let P : ℕ → Type 0 = λ k. (get_or challenges (2 * k) e.zero ≡ base (bus k)) × (get_or challenges (2 * k + 1) e.zero ≡ beta) in
        let first : P n = subst P z (h 0 (omega arith)) in
        cc (
          lookup_weights (bus n) n first.0 first.1 (sent l),
          row_weights bus (suc n) ls (λ k lt. let q : n + suc k ≡ suc n + k = omega arith in subst P q (h (suc k) (omega (arith, lt)))),
          weights_append (map (message v (bus n)) (sent l)) (messages_from v bus (suc n) ls),
        )

  pub rows_weights : (n : ℕ) (t : ℕ → ℕ) (ms : ℕ → List (Message F)) → total e n (λ i. weights (ms (t i))) ≡ weights (flat_map ms (tabulate n t))
  rows_weights zero t ms = refl
  rows_weights (suc n) t ms =
      ap (e.add (weights (ms (t 0)))) (rows_weights n (λ i. t (suc i)) ms)
      ∙ sym (weights_append (ms (t 0)) (flat_map ms (tabulate n (λ i. t (suc i)))))

  -- the terminal of a table is the sum over its messages
  pub terminal_is : (s : Sender F) → terminal_of e inv embed base beta s ≡ weights (table_messages s)
  terminal_is s =
      let ch = challenges_of base beta s in
      let ms = λ (i : ℕ). messages_from (s.value i) s.bus 0 s.lookups in
      total_same e L s.rows (λ i. sum_of e (row_fractions (argument_of e inv embed ch s) i)) (λ i. weights (ms i))
      (λ i lt. row_weights ch (s.value i) s.bus 0 s.lookups (λ k h. at k h))
      ∙ rows_weights s.rows (λ i. i) ms
    where
      at : (k : ℕ) → k < length s.lookups → (get_or (challenges_of base beta s) (2 * (0 + k)) e.zero ≡ base (s.bus (0 + k))) × (get_or (challenges_of base beta s) (2 * (0 + k) + 1) e.zero ≡ beta)
      at k h =
          let q : k ≡ 0 + k = omega arith in
          let P : ℕ → Type 0 = λ j. (get_or (challenges_of base beta s) (2 * j) e.zero ≡ base (s.bus (0 + k))) × (get_or (challenges_of base beta s) (2 * j + 1) e.zero ≡ beta) in
          subst P q (has_bases e.zero base beta s.bus 0 (length s.lookups) k h)

  -- and the terminals of a batch are together the sum over all messages
  pub terminals_are : (ss : List (Sender F)) → sum_of e (map (terminal_of e inv embed base beta) ss) ≡ weights (batch_messages ss)
  terminals_are [] = refl
  terminals_are (s ∷ ss) =
      ap (λ x. e.add x (sum_of e (map (terminal_of e inv embed base beta) ss))) (terminal_is s)
      ∙ ap (e.add (weights (table_messages s))) (terminals_are ss)
      ∙ sym (weights_append (table_messages s) (batch_messages ss))

-- where nothing is left over on any bus, the terminals sum to zero
module _ {F E : Type 0} (f : Ring F) (fL : RingLaws f) (eq : F → F → Bool) (eq_same : (x y : F) → eq x y ≡ true → x ≡ y) (same_eq : (x : F) → eq x x ≡ true)
    (e : Ring E) (L : RingLaws e) (inv : E → E) (embed : F → E) (H : RingHom f e embed) where
  abbrev same : ℕ × List F → ℕ × List F → Bool
  same a b = nat_eq a.0 b.0 && pointwise eq a.1 b.1

  both : (a b : Bool) → (a && b) ≡ true → (a ≡ true) × (b ≡ true)
  both true b h = (refl, h)
  both false b h = (h, cc)

  same_nat : (a b : ℕ) → nat_eq a b ≡ true → a ≡ b
  same_nat a b h = elim (eqb_tells a b) [ inl p ↦ p.1 | inr p ↦ absurd (cc (p.0, h)) ]

  own_nat : (a : ℕ) → nat_eq a a ≡ true
  own_nat a = elim (eqb_tells a a) [ inl p ↦ p.0 | inr p ↦ absurd (p.1 refl) ]

  decides : (x y : F) → (eq x y ≡ true → x ≡ y) × (x ≡ y → eq x y ≡ true)
  decides x y = (eq_same x y, λ h. ap (eq x) (sym h) ∙ same_eq x)

  sound : (a b : ℕ × List F) → same a b ≡ true → a ≡ b
  sound (m, s) (n, t) h =
      let p = both (nat_eq m n) (pointwise eq s t) h in
      let q : m ≡ n = same_nat m n p.0 in
      let u : s ≡ t = (pointwise_decides decides s t).0 p.1 in
      cc (q, u)

  whole : (a : ℕ × List F) → same a a ≡ true
  whole (m, s) = ap (λ x. x && pointwise eq s s) (own_nat m) ∙ (pointwise_decides decides s s).1 refl

  pub balance_sums : (base : ℕ → E) (beta : E) (ss : List (Sender F)) → IsBalanced f eq (batch_messages ss) → sum_of e (map (terminal_of e inv embed base beta) ss) ≡ e.zero
  balance_sums base beta ss h =
      let key : Message F → ℕ × List F = λ m. (m.bus, m.tuple) in
      let g : ℕ × List F → E = λ k. inv (denominator e (base k.0) beta (map embed k.1)) in
      terminals_are e L inv embed base beta ss
      ∙ balanced f fL e L embed H same sound whole key (λ m. m.count) g (batch_messages ss) (λ k. h k.0 k.1)

-- a table without lookups has the terminal zero, so that it adds nothing to the sum
pub no_terminal : {F E : Type 0} (e : Ring E) (L : RingLaws e) (inv : E → E) (embed : F → E) (base : ℕ → E) (beta : E) (s : Sender F) → s.lookups ≡ [] → terminal_of e inv embed base beta s ≡ e.zero
no_terminal {F = F} e L inv embed base beta s h =
    let P : List (LookupData F) → Type 0 = λ ls. running_sum (argument_of e inv embed (challenges_of base beta (record s { lookups = ls })) (record s { lookups = ls })) s.rows ≡ e.zero in
    let none : P [] = total_zero e L s.rows (λ k. e.zero) (λ k lt. refl) in
    subst P (sym h) none
