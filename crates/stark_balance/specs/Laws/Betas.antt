-- How many betas make two pairs of bus and tuple meet.
use Rattle.std.proofs.Common.{◌≡◌, ℕ, zero, suc, ◌+◌, ◌-◌, ◌*◌, ◌/◌, ◌<◌, ◌≤◌, ◌⊎◌, inl, inr, Bool, true, List, [], ◌∷◌, length, get_or, map, refl, sym, ◌∙◌, ap, subst, arith}
use Rattle.std.specs.Prelude.{All}
use Rattle.std.proofs.lemmas.List.{length-map, ext_get_or}
use Rattle.std.proofs.lemmas.List.Elements.{All-contains, All-head, All-tail}
use Rattle.p3_field.specs.Ring.{Ring, RingLaws, sub, pow, of_nat}
use Rattle.p3_field.specs.Field.{FieldLaws, RingHom}
use Rattle.p3_field.specs.Poly.{Apart, DegreeBelow, IsZeroPoly, coeff, eval_poly, mul_poly, sub_poly, raise}
use Rattle.p3_field.specs.Laws.Algebra.{zero_add, zero_mul, mul_zero, add_cancel, neg_neg}
use Rattle.p3_field.specs.Laws.Coeffs.{coeff_sub, coeff_raise, coeff_raise_below, degree_more, degree_sub, degree_mul, degree_raise, degree_length, degree_length_le}
use Rattle.p3_field.specs.Laws.Extended.{coeff_map, hom_of_nat}
use Rattle.p3_field.specs.Laws.PolyLaws.{poly_no_zero_divisors}
use Rattle.p3_field.specs.Laws.Roots.{sub_self, sub_zero}
use Rattle.p3_field.specs.Laws.Values.{eval_mul, eval_sub, eval_raise}
use Rattle.p3_lookup.specs.Messages.{Message}
use Rattle.stark_balance.specs.Nets.{ArePaired, nets}
use Rattle.stark_balance.specs.Unlucky.{DoPairsMeet}
use Rattle.stark_balance.specs.Count.{AreTold}
use Rattle.stark_balance.specs.Laws.Nets.{AllApart, nets_apart, nets_sent}
use Rattle.stark_balance.specs.Laws.Alphas.{divides, few_roots_in, shift, denominator_is}

-- how many pairs n things make
pairs_of : ℕ → ℕ
pairs_of zero = 0
pairs_of (suc n) = n + pairs_of n

twice_pairs : (n : ℕ) → pairs_of (suc n) * 2 ≡ suc n * n
unfolding pairs_of
twice_pairs zero = refl
twice_pairs (suc n) =
    let h : pairs_of (suc n) * 2 ≡ suc n * n = twice_pairs n in
    let k : suc n * n ≡ n + n * n = grind arith in
    let l : suc (suc n) * suc n ≡ 2 + n * 3 + n * n = grind arith in
    omega (arith, h, k, l)

half_pairs : (n : ℕ) → pairs_of n ≡ n * (n - 1) / 2
unfolding pairs_of
half_pairs zero = refl
half_pairs (suc n) =
    let h = twice_pairs n in
    let k : suc n - 1 ≡ n = omega arith in
    let l : suc n * n / 2 ≡ pairs_of (suc n) = omega (arith, h) in
    sym l ∙ ap (λ (m : ℕ). suc n * m / 2) (sym k)

module _ {F E : Type 0} (f : Ring F) (fL : RingLaws f) (e : Ring E) (L : RingLaws e) (inv : E → E) (W : FieldLaws e inv) (dec : (x y : E) → (x ≡ y) ⊎ (x ≡ y → ⊥)) (embed : F → E) (H : RingHom f e embed) (width : ℕ) where
  -- what a message's denominator is without alpha, as a polynomial in beta
  pair_poly : Message F → List E
  pair_poly m = sub_poly e (raise e width (of_nat e (m.bus + 1) ∷ [])) (map embed m.tuple)

  eval_pair : (beta : E) (m : Message F) → eval_poly e (pair_poly m) beta ≡ shift f e L inv W dec embed width beta m
  unfolding pair_poly
  eval_pair beta m =
      let b = of_nat e (m.bus + 1) in
      let p = pow e beta width in
      eval_sub e L (raise e width (b ∷ [])) (map embed m.tuple) beta
      ∙ ap (λ z. sub e z (eval_poly e (map embed m.tuple) beta))
      (eval_raise e L width (b ∷ []) beta ∙ ap (λ z. e.mul p (e.add b z)) (mul_zero e L beta) ∙ ap (e.mul p) (L.add_zero b) ∙ L.mul_comm p b ∙ sym (zero_add e L (e.mul b p)))

  pair_degree : (m : Message F) → length m.tuple ≤ width → DegreeBelow e (suc width) (pair_poly m)
  unfolding pair_poly
  pair_degree m h =
      let r = raise e width (of_nat e (m.bus + 1) ∷ []) in
      degree_sub e L (suc width) r (map embed m.tuple)
      (degree_more e L (width + 1) (suc width) r (omega arith) (degree_raise e L width 1 (of_nat e (m.bus + 1) ∷ []) (degree_length e L (of_nat e (m.bus + 1) ∷ []))))
      (degree_length_le e L (suc width) (map embed m.tuple) (omega (arith, h, length-map m.tuple embed)))

  pair_top : (m : Message F) → length m.tuple ≤ width → coeff e (pair_poly m) width ≡ of_nat e (m.bus + 1)
  unfolding pair_poly
  pair_top m h =
      let b = of_nat e (m.bus + 1) in
      let r = raise e width (b ∷ []) in
      let z : width - width ≡ 0 = omega arith in
      let none : coeff e (map embed m.tuple) width ≡ e.zero = degree_length_le e L width (map embed m.tuple) (omega (arith, h, length-map m.tuple embed)) width (omega arith) in
      let here : coeff e r width ≡ b = coeff_raise e L width (b ∷ []) width (omega arith) ∙ ap (coeff e (b ∷ [])) z in
      coeff_sub e L r (map embed m.tuple) width ∙ ap (λ x. sub e x (coeff e (map embed m.tuple) width)) here ∙ ap (sub e b) none ∙ minus_zero b
    where
      minus_zero : (x : E) → sub e x e.zero ≡ x
      minus_zero x = sym (L.add_zero (sub e x e.zero)) ∙ L.add_assoc x (e.neg e.zero) e.zero ∙ ap (e.add x) (L.add_comm (e.neg e.zero) e.zero ∙ L.add_neg e.zero) ∙ L.add_zero x

  pair_below : (m : Message F) (i : ℕ) → i < width → coeff e (pair_poly m) i ≡ e.neg (coeff e (map embed m.tuple) i)
  unfolding pair_poly
  pair_below m i h =
      let r = raise e width (of_nat e (m.bus + 1) ∷ []) in
      coeff_sub e L r (map embed m.tuple) i ∙ ap (λ x. sub e x (coeff e (map embed m.tuple) i)) (coeff_raise_below e L width (of_nat e (m.bus + 1) ∷ []) i h) ∙ zero_add e L (e.neg (coeff e (map embed m.tuple) i))

  difference_poly : Message F → Message F → List E
  difference_poly m n = sub_poly e (pair_poly m) (pair_poly n)

  difference_root : (beta : E) (m n : Message F) → shift f e L inv W dec embed width beta m ≡ shift f e L inv W dec embed width beta n → eval_poly e (difference_poly m n) beta ≡ e.zero
  unfolding difference_poly
  difference_root beta m n h =
      eval_sub e L (pair_poly m) (pair_poly n) beta ∙ sub_self e L (eval_poly e (pair_poly m) beta) (eval_poly e (pair_poly n) beta) (eval_pair beta m ∙ h ∙ sym (eval_pair beta n))

  difference_degree : (m n : Message F) → length m.tuple ≤ width → length n.tuple ≤ width → DegreeBelow e (suc width) (difference_poly m n)
  unfolding difference_poly
  difference_degree m n h g = degree_sub e L (suc width) (pair_poly m) (pair_poly n) (pair_degree m h) (pair_degree n g)

  -- where the difference is zero, the two are one pair
  difference_differs : (known : (x y : F) → embed x ≡ embed y → x ≡ y) (m n : Message F) → length m.tuple ≤ width → length n.tuple ≤ width
      → (m.bus ≡ n.bus → length m.tuple ≡ length n.tuple) → (of_nat f (m.bus + 1) ≡ of_nat f (n.bus + 1) → m.bus ≡ n.bus)
      → IsZeroPoly e (difference_poly m n) → ArePaired m n
  unfolding difference_poly
  difference_differs known m n h g wide told z =
      let at : (i : ℕ) → coeff e (pair_poly m) i ≡ coeff e (pair_poly n) i = λ i.
      sub_zero e L (coeff e (pair_poly m) i) (coeff e (pair_poly n) i) (sym (coeff_sub e L (pair_poly m) (pair_poly n) i) ∙ z i) in
      let bus : m.bus ≡ n.bus = told (known (of_nat f (m.bus + 1)) (of_nat f (n.bus + 1))
      (hom_of_nat f fL e L embed H (m.bus + 1) ∙ sym (pair_top m h) ∙ at width ∙ pair_top n g ∙ sym (hom_of_nat f fL e L embed H (n.bus + 1)))) in (
        bus,
        ext_get_or f.zero m.tuple n.tuple (wide bus) (λ i lt.
            known (get_or m.tuple i f.zero) (get_or n.tuple i f.zero)
            (sym (coeff_map f fL e L embed H m.tuple i)
            ∙ sym (neg_neg e L (coeff e (map embed m.tuple) i)) ∙ ap e.neg (sym (pair_below m i (omega (arith, lt, h))) ∙ at i ∙ pair_below n i (omega (arith, lt, h))) ∙ neg_neg e L (coeff e (map embed n.tuple) i)
            ∙ coeff_map f fL e L embed H n.tuple i)),
      )

  -- the differences of one entry and the others, and of all, multiplied
  row_poly : Message F → List (Message F) → List E
  row_poly n [] = e.one ∷ []
  row_poly n (x ∷ xs) = mul_poly e (row_poly n xs) (difference_poly n x)

  pairs_poly : List (Message F) → List E
  pairs_poly [] = e.one ∷ []
  pairs_poly (n ∷ ns) = mul_poly e (row_poly n ns) (pairs_poly ns)

  abbrev IsNarrow : Message F → Type 0
  IsNarrow m = length m.tuple ≤ width

  row_degree : (n : Message F) (xs : List (Message F)) → IsNarrow n → All IsNarrow xs → DegreeBelow e (suc (width * length xs)) (row_poly n xs)
  unfolding row_poly
  row_degree n [] h g = degree_more e L 1 (suc (width * 0)) (e.one ∷ []) (omega arith) (degree_length e L (e.one ∷ []))
  row_degree n (x ∷ xs) h g =
      degree_more e L (suc (width * length xs) + width) (suc (width * suc (length xs))) (row_poly n (x ∷ xs)) (grind arith)
      (degree_mul e L (suc (width * length xs)) width (row_poly n xs) (difference_poly n x) (row_degree n xs h (All-tail IsNarrow x xs g)) (difference_degree n x h (All-head IsNarrow x xs g)))

  pairs_degree : (ns : List (Message F)) → All IsNarrow ns → DegreeBelow e (suc (width * pairs_of (length ns))) (pairs_poly ns)
  unfolding pairs_poly pairs_of
  pairs_degree [] g = degree_more e L 1 (suc (width * 0)) (e.one ∷ []) (omega arith) (degree_length e L (e.one ∷ []))
  pairs_degree (n ∷ ns) g =
      degree_more e L (suc (width * length ns) + width * pairs_of (length ns)) (suc (width * (length ns + pairs_of (length ns)))) (pairs_poly (n ∷ ns)) (grind arith)
      (degree_mul e L (suc (width * length ns)) (width * pairs_of (length ns)) (row_poly n ns) (pairs_poly ns) (row_degree n ns (All-head IsNarrow n ns g) (All-tail IsNarrow n ns g)) (pairs_degree ns (All-tail IsNarrow n ns g)))

  -- a difference among them that is zero makes the product zero
  row_root : (beta : E) (n : Message F) (xs : List (Message F)) (k : ℕ) (x : Message F) → k < length xs → get_or xs k x ≡ x
      → shift f e L inv W dec embed width beta n ≡ shift f e L inv W dec embed width beta x → eval_poly e (row_poly n xs) beta ≡ e.zero
  unfolding row_poly
  row_root beta n [] k x lt h m = absurd (omega (arith, lt))
  row_root beta n (y ∷ xs) zero x lt h m =
      eval_mul e L (row_poly n xs) (difference_poly n y) beta
      ∙ ap (e.mul (eval_poly e (row_poly n xs) beta)) (difference_root beta n y (m ∙ ap (shift f e L inv W dec embed width beta) (sym h)))
      ∙ mul_zero e L (eval_poly e (row_poly n xs) beta)
  row_root beta n (y ∷ xs) (suc k) x lt h m =
      eval_mul e L (row_poly n xs) (difference_poly n y) beta
      ∙ ap (λ z. e.mul z (eval_poly e (difference_poly n y) beta)) (row_root beta n xs k x (omega (arith, lt)) h m)
      ∙ zero_mul e L (eval_poly e (difference_poly n y) beta)

  pairs_root : (beta : E) (ns : List (Message F)) (j k : ℕ) (x y : Message F) → j < length ns → get_or ns j x ≡ x → k < length ns → get_or ns k y ≡ y → (ArePaired x y → ⊥)
      → shift f e L inv W dec embed width beta x ≡ shift f e L inv W dec embed width beta y → eval_poly e (pairs_poly ns) beta ≡ e.zero
  unfolding pairs_poly
  pairs_root beta [] j k x y lt h gt g p m = absurd (omega (arith, lt))
  pairs_root beta (n ∷ ns) zero zero x y lt h gt g p m =
      let q : x ≡ y = sym h ∙ g in
      absurd (p (ap (λ (z : Message F). z.bus) q, ap (λ (z : Message F). z.tuple) q))
  pairs_root beta (n ∷ ns) zero (suc k) x y lt h gt g p m =
      eval_mul e L (row_poly n ns) (pairs_poly ns) beta
      ∙ ap (λ z. e.mul z (eval_poly e (pairs_poly ns) beta)) (row_root beta n ns k y (omega (arith, gt)) g (ap (shift f e L inv W dec embed width beta) h ∙ m))
      ∙ zero_mul e L (eval_poly e (pairs_poly ns) beta)
  pairs_root beta (n ∷ ns) (suc j) zero x y lt h gt g p m =
      eval_mul e L (row_poly n ns) (pairs_poly ns) beta
      ∙ ap (λ z. e.mul z (eval_poly e (pairs_poly ns) beta)) (row_root beta n ns j x (omega (arith, lt)) h (ap (shift f e L inv W dec embed width beta) g ∙ sym m))
      ∙ zero_mul e L (eval_poly e (pairs_poly ns) beta)
  pairs_root beta (n ∷ ns) (suc j) (suc k) x y lt h gt g p m =
      eval_mul e L (row_poly n ns) (pairs_poly ns) beta
      ∙ ap (e.mul (eval_poly e (row_poly n ns) beta)) (pairs_root beta ns j k x y (omega (arith, lt)) h (omega (arith, gt)) g p m)
      ∙ mul_zero e L (eval_poly e (row_poly n ns) beta)

  module _ (known : (x y : F) → embed x ≡ embed y → x ≡ y) where
    -- two messages that are told apart
    abbrev AreToldApart : Message F → Message F → Type 0
    AreToldApart m n = (m.bus ≡ n.bus → length m.tuple ≡ length n.tuple) × (of_nat f (m.bus + 1) ≡ of_nat f (n.bus + 1) → m.bus ≡ n.bus)

    zero_or_not : (x : E) → (x ≡ e.zero) ⊎ (x ≡ e.zero → ⊥)
    zero_or_not x = dec x e.zero

    row_differs : (n : Message F) (xs : List (Message F)) → IsNarrow n → All IsNarrow xs → All (AreToldApart n) xs → All (λ x. ArePaired n x → ⊥) xs → IsZeroPoly e (row_poly n xs) → ⊥
    unfolding row_poly
    row_differs n [] h g t a z = W.one_differs (z 0)
    row_differs n (x ∷ xs) h g t a z =
        let q = All-head (AreToldApart n) x xs t in
        elim (poly_no_zero_divisors e L (divides e L inv W) zero_or_not (row_poly n xs) (difference_poly n x) z) [
          | inl b ↦ row_differs n xs h (All-tail IsNarrow x xs g) (All-tail (AreToldApart n) x xs t) (All-tail (λ x. ArePaired n x → ⊥) x xs a) b
          | inr b ↦ All-head (λ x. ArePaired n x → ⊥) x xs a (difference_differs known n x h (All-head IsNarrow x xs g) q.0 q.1 b)
        ]

    module _ (eq : F → F → Bool) (eq_same : (x y : F) → eq x y ≡ true → x ≡ y) (same_eq : (x : F) → eq x x ≡ true) where
      pairs_differ : (ns : List (Message F)) → All IsNarrow ns → All (λ m. All (AreToldApart m) ns) ns → AllApart ns → IsZeroPoly e (pairs_poly ns) → ⊥
      unfolding pairs_poly
      pairs_differ [] g t a z = W.one_differs (z 0)
      pairs_differ (n ∷ ns) g t a z =
          elim (poly_no_zero_divisors e L (divides e L inv W) zero_or_not (row_poly n ns) (pairs_poly ns) z) [
            | inl b ↦ row_differs n ns (All-head IsNarrow n ns g) (All-tail IsNarrow n ns g) (All-tail (AreToldApart n) n ns (All-head (λ m. All (AreToldApart m) (n ∷ ns)) n ns t)) a.0 b
            | inr b ↦ pairs_differ ns (All-tail IsNarrow n ns g)
                (λ k d lt. All-tail (AreToldApart (get_or ns k d)) n ns (All-tail (λ m. All (AreToldApart m) (n ∷ ns)) n ns t k d lt)) a.1 b
          ]

      module _ (ms : List (Message F)) (T : AreTold f width ms) where
        abbrev ns : List (Message F)
        ns = nets f eq ms

        -- what the messages have, the entries have
        narrow : All IsNarrow ns
        narrow k d lt =
            let s = nets_sent f eq eq_same same_eq ms k d lt in
            subst (λ (t : List F). length t ≤ width) s.2.1 (All-contains (IsNarrow) ms s.0 T.widths s.1)

        told : All (λ m. All (AreToldApart m) ns) ns
        told k d lt j c gt =
            let s = nets_sent f eq eq_same same_eq ms k d lt in
            let t = nets_sent f eq eq_same same_eq ms j c gt in
            let m = get_or ns k d in
            let n = get_or ns j c in
            let wide : s.0.bus ≡ t.0.bus → length s.0.tuple ≡ length t.0.tuple =
            All-contains (λ b. s.0.bus ≡ b.bus → length s.0.tuple ≡ length b.tuple) ms t.0 (All-contains (λ a. All (λ b. a.bus ≡ b.bus → length a.tuple ≡ length b.tuple) ms) ms s.0 T.one_width s.1) t.1 in
            let apart : of_nat f (s.0.bus + 1) ≡ of_nat f (t.0.bus + 1) → s.0.bus ≡ t.0.bus =
            All-contains (λ b. of_nat f (s.0.bus + 1) ≡ of_nat f (b.bus + 1) → s.0.bus ≡ b.bus) ms t.0 (All-contains (λ a. All (λ b. of_nat f (a.bus + 1) ≡ of_nat f (b.bus + 1) → a.bus ≡ b.bus) ms) ms s.0 T.buses s.1) t.1 in
            let B : s.0.bus ≡ m.bus = s.2.0 in
            let C : t.0.bus ≡ n.bus = t.2.0 in (
              λ h. ap length (sym s.2.1) ∙ wide (B ∙ h ∙ sym C) ∙ ap length t.2.1,
              λ h. sym B ∙ apart (ap (λ b. of_nat f (b + 1)) B ∙ h ∙ ap (λ b. of_nat f (b + 1)) (sym C)) ∙ C,
            )

        -- distinct betas that make two pairs meet are few
        pub few_meetings : (xs : List E) → Apart (length xs) (λ i. get_or xs i e.zero) → All (DoPairsMeet f eq e inv embed width ms) xs → length xs ≤ width * (length ns * (length ns - 1) / 2)
        few_meetings xs distinct meet =
            let bound : length xs < suc (width * pairs_of (length ns)) =
            few_roots_in e L (divides e L inv W) (suc (width * pairs_of (length ns))) xs (pairs_poly ns) distinct (pairs_degree ns narrow)
            (λ j l. let b = get_or xs j e.zero in let M = meet j e.zero l in
            pairs_root b ns M.first_in.0 M.second_in.0 M.first M.second M.first_in.1 M.first_in.2 M.second_in.1 M.second_in.2 M.differ
            (add_cancel e L M.alpha (shift f e L inv W dec embed width b M.first) (shift f e L inv W dec embed width b M.second)
            (sym (denominator_is f e L inv W dec embed width b M.alpha M.first) ∙ M.meets ∙ denominator_is f e L inv W dec embed width b M.alpha M.second)))
            (pairs_differ ns narrow told (nets_apart f eq eq_same same_eq ms)) in
            subst (λ (k : ℕ). length xs ≤ width * k) (half_pairs (length ns)) (omega (arith, bound))
