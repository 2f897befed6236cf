-- How many alphas are unlucky with one beta, where this makes no two pairs of bus and tuple meet.
use Rattle.std.proofs.Common.{◌≡◌, ℕ, suc, ◌+◌, ◌*◌, ◌<◌, ◌⊎◌, inl, inr, Bool, true, List, [], ◌∷◌, length, get_or, map, refl, sym, ◌∙◌, ap, arith}
use Rattle.std.specs.Prelude.{All, Contains}
use Rattle.std.proofs.lemmas.Bool.{cases_lt}
use Rattle.std.proofs.lemmas.List.Elements.{All-nil, All-cons, All-head, All-tail, All-map, All-contains, All-contains_itself}
use Rattle.p3_field.specs.Ring.{Ring, RingLaws, pow, of_nat}
use Rattle.p3_field.specs.Field.{FieldLaws}
use Rattle.p3_field.specs.Poly.{Apart, DegreeBelow, IsZeroPoly, coeff, eval_poly, add_poly, scale_poly, mul_poly}
use Rattle.p3_field.specs.Laws.Algebra.{zero_add, zero_mul, mul_zero, add_cancel}
use Rattle.p3_field.specs.Laws.Coeffs.{coeff_add, coeff_scale, degree_more, degree_add, degree_scale, degree_mul, degree_length}
use Rattle.p3_field.specs.Laws.PolyLaws.{poly_no_zero_divisors}
use Rattle.p3_field.specs.Laws.Roots.{NoZeroDivisors, RootsAt, field_no_zero_divisors, root_count}
use Rattle.p3_field.specs.Laws.Values.{eval_zero, eval_add, eval_scale, eval_mul}
use Rattle.p3_lookup.specs.Challenge.{bus_base}
use Rattle.p3_lookup.specs.Messages.{Message, IsBalanced, message_denominator}
use Rattle.p3_lookup.specs.Term.{Term, common, numerator, HasInverses}
use Rattle.p3_lookup.specs.Laws.Terms.{fraction_times}
use Rattle.stark_balance.specs.Nets.{ArePaired, nets}
use Rattle.stark_balance.specs.Unlucky.{net_term, IsPairUnlucky, DoPairsMeet}
use Rattle.stark_balance.specs.Laws.Nets.{AllApart, nets_apart, nets_whole, balanced_by_counts}
use Rattle.stark_balance.specs.Laws.Sums.{all_or_not}

-- fewer roots than the bound of the degree, for a polynomial that isn't zero
pub few_roots_in : {E : Type 0} (s : Ring E) → RingLaws s → NoZeroDivisors s → (m : ℕ) (xs g : List E) → Apart (length xs) (λ i. get_or xs i s.zero) → DegreeBelow s m g
    → RootsAt s (length xs) (λ i. get_or xs i s.zero) g → (IsZeroPoly s g → ⊥) → length xs < m
few_roots_in s M N m xs g apart d roots nz = elim (cases_lt (length xs) m) [
  | inl l ↦ l
  | inr l ↦ absurd (nz (root_count s M N (length xs) (λ i. get_or xs i s.zero) g apart (degree_more s M m (length xs) g l d) roots))
]

module _ {E : Type 0} (e : Ring E) (L : RingLaws e) (inv : E → E) (W : FieldLaws e inv) where
  pub divides : NoZeroDivisors e
  divides = field_no_zero_divisors e L inv W

  -- c + X
  abbrev pub linear : E → List E
  linear c = c ∷ e.one ∷ []

  eval_linear : (c x : E) → eval_poly e (linear c) x ≡ e.add x c
  eval_linear c x =
      ap (λ z. e.add c (e.mul x (e.add e.one z))) (mul_zero e L x) ∙ ap (λ z. e.add c (e.mul x z)) (L.add_zero e.one) ∙ ap (e.add c) (L.mul_one x) ∙ L.add_comm c x

  linear_differs : (c : E) → IsZeroPoly e (linear c) → ⊥
  linear_differs c z = W.one_differs (z 1)

  one_differs : IsZeroPoly e (e.one ∷ []) → ⊥
  one_differs z = W.one_differs (z 0)

module _ {F E : Type 0} (f : Ring F) (e : Ring E) (L : RingLaws e) (inv : E → E) (W : FieldLaws e inv) (dec : (x y : E) → (x ≡ y) ⊎ (x ≡ y → ⊥)) (embed : F → E) (width : ℕ) (beta : E) where
  zero_or_not : (x : E) → (x ≡ e.zero) ⊎ (x ≡ e.zero → ⊥)
  zero_or_not x = dec x e.zero

  -- a message's denominator is alpha plus this
  abbrev pub shift : Message F → E
  shift m = message_denominator e embed (bus_base e e.zero beta width) beta m

  pub denominator_is : (alpha : E) (m : Message F) → message_denominator e embed (bus_base e alpha beta width) beta m ≡ e.add alpha (shift m)
  denominator_is alpha m =
      let x = e.mul (of_nat e (m.bus + 1)) (pow e beta width) in
      let y = e.neg (eval_poly e (map embed m.tuple) beta) in
      L.add_assoc alpha x y ∙ ap (λ z. e.add alpha (e.add z y)) (sym (zero_add e L x))

  -- the product of the denominators, and the sum over the entries of the count times the other denominators, as polynomials in alpha
  common_poly : List (Message F) → List E
  common_poly [] = e.one ∷ []
  common_poly (n ∷ ns) = mul_poly e (common_poly ns) (linear e L inv W (shift n))

  numerator_poly : List (Message F) → List E
  numerator_poly [] = []
  numerator_poly (n ∷ ns) = add_poly e (scale_poly e (embed n.count) (common_poly ns)) (mul_poly e (numerator_poly ns) (linear e L inv W (shift n)))

  abbrev terms : E → List (Message F) → List (Term E)
  terms alpha ns = map (net_term e embed (bus_base e alpha beta width) beta) ns

  eval_common : (alpha : E) (ns : List (Message F)) → eval_poly e (common_poly ns) alpha ≡ common e (terms alpha ns)
  unfolding common_poly
  eval_common alpha [] = ap (e.add e.one) (mul_zero e L alpha) ∙ L.add_zero e.one
  eval_common alpha (n ∷ ns) =
      let d = message_denominator e embed (bus_base e alpha beta width) beta n in
      eval_mul e L (common_poly ns) (linear e L inv W (shift n)) alpha
      ∙ ap (e.mul (eval_poly e (common_poly ns) alpha)) (eval_linear e L inv W (shift n) alpha ∙ sym (denominator_is alpha n))
      ∙ ap (λ z. e.mul z d) (eval_common alpha ns)
      ∙ L.mul_comm (common e (terms alpha ns)) d

  eval_numerator : (alpha : E) (ns : List (Message F)) → eval_poly e (numerator_poly ns) alpha ≡ numerator e (terms alpha ns)
  unfolding numerator_poly
  eval_numerator alpha [] = refl
  eval_numerator alpha (n ∷ ns) =
      let d = message_denominator e embed (bus_base e alpha beta width) beta n in
      let A = scale_poly e (embed n.count) (common_poly ns) in
      let B = mul_poly e (numerator_poly ns) (linear e L inv W (shift n)) in
      let left : eval_poly e A alpha ≡ e.mul (embed n.count) (common e (terms alpha ns)) =
      eval_scale e L (embed n.count) (common_poly ns) alpha ∙ ap (e.mul (embed n.count)) (eval_common alpha ns) in
      let right : eval_poly e B alpha ≡ e.mul d (numerator e (terms alpha ns)) =
      eval_mul e L (numerator_poly ns) (linear e L inv W (shift n)) alpha
      ∙ ap (e.mul (eval_poly e (numerator_poly ns) alpha)) (eval_linear e L inv W (shift n) alpha ∙ sym (denominator_is alpha n))
      ∙ ap (λ z. e.mul z d) (eval_numerator alpha ns)
      ∙ L.mul_comm (numerator e (terms alpha ns)) d in
      eval_add e L A B alpha ∙ ap (λ z. e.add z (eval_poly e B alpha)) left ∙ ap (e.add (e.mul (embed n.count) (common e (terms alpha ns)))) right

  common_degree : (ns : List (Message F)) → DegreeBelow e (suc (length ns)) (common_poly ns)
  unfolding common_poly
  common_degree [] = degree_length e L (e.one ∷ [])
  common_degree (n ∷ ns) =
      let c = linear e L inv W (shift n) in
      degree_more e L (suc (length ns) + 1) (suc (suc (length ns))) (mul_poly e (common_poly ns) c) (omega arith)
      (degree_mul e L (suc (length ns)) 1 (common_poly ns) c (common_degree ns) (degree_length e L c))

  numerator_degree : (ns : List (Message F)) → DegreeBelow e (length ns) (numerator_poly ns)
  unfolding numerator_poly
  numerator_degree [] = degree_length e L []
  numerator_degree (n ∷ ns) =
      let c = linear e L inv W (shift n) in
      degree_add e L (suc (length ns)) (scale_poly e (embed n.count) (common_poly ns)) (mul_poly e (numerator_poly ns) c)
      (degree_scale e L (suc (length ns)) (embed n.count) (common_poly ns) (common_degree ns))
      (degree_more e L (length ns + 1) (suc (length ns)) (mul_poly e (numerator_poly ns) c) (omega arith)
      (degree_mul e L (length ns) 1 (numerator_poly ns) c (numerator_degree ns) (degree_length e L c)))

  common_poly_differs : (ns : List (Message F)) → IsZeroPoly e (common_poly ns) → ⊥
  unfolding common_poly
  common_poly_differs [] z = one_differs e L inv W z
  common_poly_differs (n ∷ ns) z = elim (poly_no_zero_divisors e L (divides e L inv W) zero_or_not (common_poly ns) (linear e L inv W (shift n)) z) [
    | inl a ↦ common_poly_differs ns a
    | inr b ↦ linear_differs e L inv W (shift n) b
  ]

  -- no two entries have one denominator
  abbrev Differ : List (Message F) → Type 0
  Differ [] = Unit {0}
  Differ (n ∷ ns) = All (λ x. shift n ≡ shift x → ⊥) ns × Differ ns

  -- where entry n's denominator is zero, the others' product isn't
  others_differ : (n : Message F) (ns : List (Message F)) → All (λ x. shift n ≡ shift x → ⊥) ns → common e (terms (e.neg (shift n)) ns) ≡ e.zero → ⊥
  others_differ n [] h z = W.one_differs z
  others_differ n (x ∷ xs) h z =
      let a = e.neg (shift n) in
      let P : Message F → Type 0 = λ y. shift n ≡ shift y → ⊥ in
      let d = message_denominator e embed (bus_base e a beta width) beta x in
      let away : d ≡ e.zero → ⊥ = λ q.
      All-head P x xs h (add_cancel e L a (shift n) (shift x) (L.add_comm a (shift n) ∙ L.add_neg (shift n) ∙ sym q ∙ denominator_is a x)) in
      others_differ n xs (All-tail P x xs h) (divides e L inv W d (common e (terms a xs)) away z)

  numerator_poly_differs : (ns : List (Message F)) → Differ ns → IsZeroPoly e (numerator_poly ns) → All (λ n. embed n.count ≡ e.zero) ns
  unfolding numerator_poly
  numerator_poly_differs [] d z = All-nil (λ (n : Message F). embed n.count ≡ e.zero)
  numerator_poly_differs (n ∷ ns) d z =
      let a = e.neg (shift n) in
      let c = linear e L inv W (shift n) in
      let C = common e (terms a ns) in
      let m = embed n.count in
      let v : e.add (e.mul m C) (e.mul (message_denominator e embed (bus_base e a beta width) beta n) (numerator e (terms a ns))) ≡ e.zero =
      sym (eval_numerator a (n ∷ ns)) ∙ eval_zero e L (numerator_poly (n ∷ ns)) a z in
      let gone : message_denominator e embed (bus_base e a beta width) beta n ≡ e.zero = denominator_is a n ∙ L.add_comm a (shift n) ∙ L.add_neg (shift n) in
      let alone : e.mul m C ≡ e.zero =
      sym (L.add_zero (e.mul m C)) ∙ ap (e.add (e.mul m C)) (sym (zero_mul e L (numerator e (terms a ns)))) ∙ ap (λ x. e.add (e.mul m C) (e.mul x (numerator e (terms a ns)))) (sym gone) ∙ v in
      let none : m ≡ e.zero = divides e L inv W C m (others_differ n ns d.0) (L.mul_comm C m ∙ alone) in
      let A = scale_poly e m (common_poly ns) in
      let B = mul_poly e (numerator_poly ns) c in
      let rest : IsZeroPoly e B = λ i.
      sym (zero_add e L (coeff e B i)) ∙ ap (λ x. e.add x (coeff e B i)) (sym (zero_mul e L (coeff e (common_poly ns) i)) ∙ ap (λ x. e.mul x (coeff e (common_poly ns) i)) (sym none) ∙ sym (coeff_scale e L m (common_poly ns) i))
      ∙ sym (coeff_add e L A B i) ∙ z i in
      All-cons (λ (n : Message F). embed n.count ≡ e.zero) n ns none (elim (poly_no_zero_divisors e L (divides e L inv W) zero_or_not (numerator_poly ns) c rest) [
        | inl q ↦ numerator_poly_differs ns d.1 q
        | inr q ↦ absurd (linear_differs e L inv W (shift n) q)
      ])

  -- where the product isn't zero, no denominator is
  inverses_of : (alpha : E) (ns : List (Message F)) → (common e (terms alpha ns) ≡ e.zero → ⊥) → All (λ n. message_denominator e embed (bus_base e alpha beta width) beta n ≡ e.zero → ⊥) ns
  inverses_of alpha [] h = All-nil (λ (n : Message F). message_denominator e embed (bus_base e alpha beta width) beta n ≡ e.zero → ⊥)
  inverses_of alpha (n ∷ ns) h =
      let d = message_denominator e embed (bus_base e alpha beta width) beta n in
      let C = common e (terms alpha ns) in
      All-cons (λ (n : Message F). message_denominator e embed (bus_base e alpha beta width) beta n ≡ e.zero → ⊥) n ns
      (λ z. h (ap (λ x. e.mul x C) z ∙ zero_mul e L C))
      (inverses_of alpha ns (λ z. h (ap (e.mul d) z ∙ mul_zero e L d)))

  module _ (fL : RingLaws f) (eq : F → F → Bool) (eq_same : (x y : F) → eq x y ≡ true → x ≡ y) (same_eq : (x : F) → eq x x ≡ true) (dec_below : (x y : F) → (x ≡ y) ⊎ (x ≡ y → ⊥))
      (known : (x y : F) → embed x ≡ embed y → x ≡ y) (zero_is : embed f.zero ≡ e.zero) (ms : List (Message F)) where
    abbrev ns : List (Message F)
    ns = nets f eq ms

    -- an unlucky alpha makes the product of the denominators zero, or else the numerator, and then something is left over
    unlucky_roots : (alpha : E) → IsPairUnlucky f eq e inv embed width ms alpha beta
        → (common e (terms alpha ns) ≡ e.zero) ⊎ ((numerator e (terms alpha ns) ≡ e.zero) × (IsBalanced f eq ms → ⊥))
    unlucky_roots alpha u = elim (zero_or_not (common e (terms alpha ns))) [
      | inl z ↦ inl z
      | inr d ↦ inr (by u (inverses_of alpha ns d))
    ]
      where
        base : ℕ → E
        base = bus_base e alpha beta width

        by : IsPairUnlucky f eq e inv embed width ms alpha beta → All (λ n. message_denominator e embed (bus_base e alpha beta width) beta n ≡ e.zero → ⊥) ns
            → (numerator e (terms alpha ns) ≡ e.zero) × (IsBalanced f eq ms → ⊥)
        by (inl h) d =
            let m = h.0 in
            let P : Message F → Type 0 = λ m. (n : Message F) × Contains ns n × ArePaired m n in
            let w : P m = All-contains (P) ms m (nets_whole f eq eq_same same_eq ms) h.1 in
            let n = w.0 in
            let Q : Message F → Type 0 = λ n. message_denominator e embed (bus_base e alpha beta width) beta n ≡ e.zero → ⊥ in
            let same : message_denominator e embed (bus_base e alpha beta width) beta m ≡ message_denominator e embed (bus_base e alpha beta width) beta n =
            cc (w.2.0, w.2.1) in
            absurd (All-contains (Q) ns n d w.1 (sym same ∙ h.2))
        by (inr s) d =
            let ts = terms alpha ns in
            let I : HasInverses e ts = All-map (λ (t : Term E). t.denominator ≡ e.zero → ⊥) (net_term e embed (bus_base e alpha beta width) beta) ns d in
            (sym (fraction_times e L inv W ts I) ∙ ap (λ x. e.mul x (common e ts)) s.vanishes ∙ zero_mul e L (common e ts), s.unbalanced)

    -- where beta makes no two pairs meet, the denominators differ
    differ : (DoPairsMeet f eq e inv embed width ms beta → ⊥) → Differ ns
    differ apart = below ns (All-contains_itself ns) (nets_apart f eq eq_same same_eq ms)
      where
        below : (xs : List (Message F)) → All (Contains ns) xs → AllApart xs → Differ xs
        below [] h a = tt
        below (x ∷ xs) h a = (
          λ k d lt z. apart (record {
            alpha = e.zero;
            first = x;
            second = get_or xs k d;
            first_in = All-head (Contains ns) x xs h;
            second_in = All-tail (Contains ns) x xs h k d lt;
            differ = a.0 k d lt;
            meets = z;
          }),
          below xs (All-tail (Contains ns) x xs h) a.1,
        )

    -- distinct alphas that are unlucky with beta are fewer than twice the pairs
    pub few_unlucky_alphas : (DoPairsMeet f eq e inv embed width ms beta → ⊥) → 0 < length ns → (xs : List E) → Apart (length xs) (λ i. get_or xs i e.zero)
        → All (λ alpha. IsPairUnlucky f eq e inv embed width ms alpha beta) xs → length xs < 2 * length ns
    few_unlucky_alphas apart some xs distinct unlucky = elim (all_or_not (λ (n : Message F). n.count ≡ f.zero) (λ n. dec_below n.count f.zero) ns) [
      | inl h ↦
          let balanced = balanced_by_counts f eq eq_same same_eq fL ms h in
          let bound : length xs < suc (length ns) = few_roots_in e L (divides e L inv W) (suc (length ns)) xs (common_poly ns) distinct (common_degree ns)
          (λ j l. let a = get_or xs j e.zero in eval_common a ns ∙ only a (unlucky_roots a (unlucky j e.zero l)) balanced) (common_poly_differs ns) in
          omega (arith, bound, some)
      | inr d ↦
          let g = mul_poly e (numerator_poly ns) (common_poly ns) in
          let low : DegreeBelow e (length ns + length ns) g = degree_mul e L (length ns) (length ns) (numerator_poly ns) (common_poly ns) (numerator_degree ns) (common_degree ns) in
          let nonzero : IsZeroPoly e g → ⊥ = λ z. elim (poly_no_zero_divisors e L (divides e L inv W) zero_or_not (numerator_poly ns) (common_poly ns) z) [
            | inl q ↦ d (λ k n lt. known (get_or ns k n).count f.zero (numerator_poly_differs ns (differ apart) q k n lt ∙ sym zero_is))
            | inr q ↦ common_poly_differs ns q
          ] in
          let bound : length xs < length ns + length ns = few_roots_in e L (divides e L inv W) (length ns + length ns) xs g distinct low
          (λ j l. let a = get_or xs j e.zero in
          eval_mul e L (numerator_poly ns) (common_poly ns) a ∙ either a (unlucky_roots a (unlucky j e.zero l))) nonzero in
          omega (arith, bound)
    ]
      where
        only : (a : E) → (common e (terms a ns) ≡ e.zero) ⊎ ((numerator e (terms a ns) ≡ e.zero) × (IsBalanced f eq ms → ⊥)) → IsBalanced f eq ms → common e (terms a ns) ≡ e.zero
        only a (inl z) b = z
        only a (inr z) b = absurd (z.1 b)

        either : (a : E) → (common e (terms a ns) ≡ e.zero) ⊎ ((numerator e (terms a ns) ≡ e.zero) × (IsBalanced f eq ms → ⊥))
            → e.mul (eval_poly e (numerator_poly ns) a) (eval_poly e (common_poly ns) a) ≡ e.zero
        either a (inl z) = ap (e.mul (eval_poly e (numerator_poly ns) a)) (eval_common a ns ∙ z) ∙ mul_zero e L (eval_poly e (numerator_poly ns) a)
        either a (inr z) = ap (λ x. e.mul x (eval_poly e (common_poly ns) a)) (eval_numerator a ns ∙ z.0) ∙ zero_mul e L (eval_poly e (common_poly ns) a)
