-- Sums of fractions over messages: they are the sums over the nets, and where they vanish, nothing is left over, or the challenges are unlucky.
use Rattle.std.proofs.Common.{◌≡◌, ℕ, zero, suc, ◌+◌, ◌*◌, ◌<◌, ◌⊎◌, inl, inr, Bool, true, List, [], ◌∷◌, length, get_or, map, refl, sym, ◌∙◌, ap, subst, arith}
use Rattle.std.specs.Prelude.{All, Contains, flat_map}
use Rattle.std.proofs.lemmas.List.Elements.{All-nil, All-cons, All-head, All-tail}
use Rattle.std.proofs.lemmas.Simd.{map-map}
use Rattle.p3_field.specs.Ring.{Ring, RingLaws}
use Rattle.p3_field.specs.Field.{RingHom}
use Rattle.p3_field.specs.Poly.{tabulate}
use Rattle.p3_field.specs.Laws.Algebra.{add_mul}
use Rattle.p3_field.specs.Laws.Tabulate.{length-tabulate, get_or-tabulate}
use Rattle.air_core.specs.Tree.{Tree}
use Rattle.p3_lookup.specs.Lookup.{LookupData, Sent, map_sent, sent}
use Rattle.p3_lookup.specs.Term.{Term, term, term_value, denominator, sum_of, HasInverses}
use Rattle.p3_lookup.specs.Honest.{lookup_terms, terms_from, RowHasInverses}
use Rattle.p3_lookup.specs.Messages.{Message, Sender, message, messages_from, table_messages, IsBalanced, message_denominator, argument_of, HasBases}
use Rattle.p3_lookup.specs.Laws.Messages.{weights}
use Rattle.stark_balance.specs.Nets.{nets}
use Rattle.stark_balance.specs.Unlucky.{net_term, net_sum, AreBasesUnlucky}
use Rattle.stark_balance.specs.Laws.Nets.{nets_share, balanced_by_counts, counts_by_balance}
use Rattle.stark_balance.specs.Laws.Vanishing.{split_all}

-- whether a property that is decided of each item holds of some item, or of none
pub some_or_none : {X : Type 0} (P : X → Type 0) → ((x : X) → P x ⊎ (P x → ⊥)) → (xs : List X) → ((x : X) × Contains xs x × P x) ⊎ All (λ x. P x → ⊥) xs
some_or_none P dec [] = inr (All-nil (λ x. P x → ⊥))
some_or_none P dec (x ∷ xs) = elim (dec x) [
  | inl p ↦ inl (x, (zero, omega arith, refl), p)
  | inr n ↦ elim (some_or_none P dec xs) [
    | inl s ↦ inl (s.0, (suc s.1.0, omega (arith, s.1.1), s.1.2), s.2)
    | inr h ↦ inr (All-cons (λ x. P x → ⊥) x xs n h)
  ]
]

-- whether it holds of all
pub all_or_not : {X : Type 0} (P : X → Type 0) → ((x : X) → P x ⊎ (P x → ⊥)) → (xs : List X) → All P xs ⊎ (All P xs → ⊥)
all_or_not P dec [] = inl (All-nil P)
all_or_not P dec (x ∷ xs) = elim (dec x) [
  | inr n ↦ inr (λ h. n (All-head P x xs h))
  | inl p ↦ elim (all_or_not P dec xs) [
    | inl h ↦ inl (All-cons P x xs p h)
    | inr n ↦ inr (λ h. n (All-tail P x xs h))
  ]
]

module _ {F E : Type 0} (f : Ring F) (fL : RingLaws f) (eq : F → F → Bool) (eq_same : (x y : F) → eq x y ≡ true → x ≡ y) (same_eq : (x : F) → eq x x ≡ true)
    (e : Ring E) (L : RingLaws e) (inv : E → E) (embed : F → E) (H : RingHom f e embed) (base : ℕ → E) (beta : E) where
  -- the sum over the nets is that over the messages
  pub net_sum_is : (ms : List (Message F)) → net_sum f eq e inv embed base beta ms ≡ weights e L inv embed base beta ms
  net_sum_is ms =
      ap (sum_of e) (map-map (term_value e inv) (net_term e embed base beta) (nets f eq ms))
      ∙ nets_share f eq eq_same same_eq e L (λ b t x. e.mul (embed x) (inv (denominator e (base b) beta (map embed t))))
      (λ b t x y. ap (λ z. e.mul z (inv (denominator e (base b) beta (map embed t)))) (H.keeps_add x y) ∙ add_mul e L (embed x) (embed y) (inv (denominator e (base b) beta (map embed t)))) ms

  -- where the sum over the messages is zero, nothing is left over, or the challenges are unlucky
  pub balanced_or_unlucky : ((x y : F) → (x ≡ y) ⊎ (x ≡ y → ⊥)) → (ms : List (Message F)) → weights e L inv embed base beta ms ≡ e.zero
      → IsBalanced f eq ms ⊎ AreBasesUnlucky f eq e inv embed base beta ms
  balanced_or_unlucky dec ms z = elim (all_or_not (λ (n : Message F). n.count ≡ f.zero) (λ n. dec n.count f.zero) (nets f eq ms)) [
    | inl h ↦ inl (balanced_by_counts f eq eq_same same_eq fL ms h)
    | inr n ↦ inr (inr (record { vanishes = net_sum_is ms ∙ z; unbalanced = λ b. n (counts_by_balance f eq eq_same same_eq fL ms b) }))
  ]

-- Where no message's denominator is zero, no row has one

-- what holds of each item of some lists together holds of each list's
pub all_flat : {X Y : Type 0} (P : Y → Type 0) (g : X → List Y) (xs : List X) → All P (flat_map g xs) → All (λ x. All P (g x)) xs
all_flat P g [] h = All-nil (λ x. All P (g x))
all_flat P g (x ∷ xs) h =
    let s = split_all P (g x) (flat_map g xs) h in
    All-cons (λ x. All P (g x)) x xs s.0 (all_flat P g xs s.1)

module _ {F E : Type 0} (e : Ring E) (inv : E → E) (embed : F → E) (base : ℕ → E) (beta : E) where
  abbrev pub IsInvertible : Message F → Type 0
  IsInvertible m = message_denominator e embed base beta m ≡ e.zero → ⊥

  module _ (challenges : List E) (v : Tree F → F) where
    lookup_inverses : (b n : ℕ) → get_or challenges (2 * n) e.zero ≡ base b → get_or challenges (2 * n + 1) e.zero ≡ beta → (ss : List (Sent (Tree F)))
        → All IsInvertible (map (message v b) ss)
        → HasInverses e (map (λ s. term e (get_or challenges (2 * n) e.zero) (get_or challenges (2 * n + 1) e.zero) (map_sent (λ t. embed (v t)) s)) ss)
    lookup_inverses b n hb hc [] h = All-nil (λ (t : Term E). t.denominator ≡ e.zero → ⊥)
    lookup_inverses b n hb hc (s ∷ ss) h =
        let value : Tree F → E = λ t. embed (v t) in
        let here : Term E = term e (get_or challenges (2 * n) e.zero) (get_or challenges (2 * n + 1) e.zero) (map_sent value s) in
        let same : here.denominator ≡ message_denominator e embed base beta (message v b s) =
        ap (λ x. denominator e x (get_or challenges (2 * n + 1) e.zero) (map value s.tuple)) hb
        ∙ ap (λ x. denominator e (base b) x (map value s.tuple)) hc
        ∙ ap (denominator e (base b) beta) (sym (map-map embed v s.tuple)) in
        All-cons (λ (t : Term E). t.denominator ≡ e.zero → ⊥) here
        (map (λ s. term e (get_or challenges (2 * n) e.zero) (get_or challenges (2 * n + 1) e.zero) (map_sent value s)) ss)
        (λ z. All-head IsInvertible (message v b s) (map (message v b) ss) h (sym same ∙ z))
        (lookup_inverses b n hb hc ss (All-tail IsInvertible (message v b s) (map (message v b) ss) h))

    row_inverses : (bus : ℕ → ℕ) (n : ℕ) (ls : List (LookupData F))
        → ((k : ℕ) → k < length ls → (get_or challenges (2 * (n + k)) e.zero ≡ base (bus (n + k))) × (get_or challenges (2 * (n + k) + 1) e.zero ≡ beta))
        → All IsInvertible (messages_from v bus n ls) → All (HasInverses e) (terms_from e challenges (λ t. embed (v t)) n ls)
    row_inverses bus n [] h d = All-nil (HasInverses e)
    row_inverses bus n (l ∷ ls) h d =
        let z : n + 0 ≡ n = omega arith in
        let P : ℕ → Type 0 = λ k. (get_or challenges (2 * k) e.zero ≡ base (bus k)) × (get_or challenges (2 * k + 1) e.zero ≡ beta) in
        let first : P n = subst P z (h 0 (omega arith)) in
        let s = split_all IsInvertible (map (message v (bus n)) (sent l)) (messages_from v bus (suc n) ls) d in
        All-cons (HasInverses e) (lookup_terms e challenges (λ t. embed (v t)) n l) (terms_from e challenges (λ t. embed (v t)) (suc n) ls)
        (lookup_inverses (bus n) n first.0 first.1 (sent l) s.0)
        (row_inverses bus (suc n) ls (λ k lt. let q : n + suc k ≡ suc n + k = omega arith in subst P q (h (suc k) (omega (arith, lt)))) s.1)

  -- so of a table with the challenges of its buses
  pub table_inverses : (s : Sender F) (challenges : List E) → HasBases e.zero base beta s.bus (length s.lookups) challenges → All IsInvertible (table_messages s)
      → (i : ℕ) → i < s.rows → RowHasInverses (argument_of e inv embed challenges s) i
  table_inverses s challenges B d i lt =
      let ms = λ (i : ℕ). messages_from (s.value i) s.bus 0 s.lookups in
      let rows = tabulate s.rows (λ i. i) in
      let own : All IsInvertible (ms (get_or rows i 0)) = all_flat IsInvertible ms rows d i 0 (omega (arith, lt, length-tabulate s.rows (λ (i : ℕ). i))) in
      let here : All IsInvertible (ms i) = subst (λ (k : ℕ). All IsInvertible (ms k)) (get_or-tabulate s.rows (λ i. i) i 0 lt) own in
      row_inverses challenges (s.value i) s.bus 0 s.lookups at here
    where
      at : (k : ℕ) → k < length s.lookups → (get_or challenges (2 * (0 + k)) e.zero ≡ base (s.bus (0 + k))) × (get_or challenges (2 * (0 + k) + 1) e.zero ≡ beta)
      at k h =
          let q : k ≡ 0 + k = omega arith in
          let P : ℕ → Type 0 = λ j. (get_or challenges (2 * j) e.zero ≡ base (s.bus j)) × (get_or challenges (2 * j + 1) e.zero ≡ beta) in
          subst P q (B.bases k h, B.betas k h)
