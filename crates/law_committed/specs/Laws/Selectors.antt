-- The points of a committed table's rows, and its selectors there: each is zero exactly where it should be.
use Rattle.std.proofs.Common.{◌≡◌, ◌↔◌, ℕ, suc, ◌+◌, ◌*◌, ◌%◌, ◌<◌, ◌≤◌, inl, inr, sym, ◌∙◌, ap, arith}
use Rattle.std.proofs.lemmas.Bool.{cases_lt}
use Rattle.p3_field.specs.Ring.{Ring, RingLaws, pow, sub, of_nat}
use Rattle.p3_field.specs.Field.{TwoAdic, Extension}
use Rattle.p3_field.specs.Poly.{eval_poly}
use Rattle.p3_field.specs.Domain.{point}
use Rattle.p3_field.specs.Laws.Algebra.{one_mul, mul_zero}
use Rattle.p3_field.specs.Laws.Sums.{total_same, total_ones}
use Rattle.p3_field.specs.Laws.Order.{one_pow, pow_times}
use Rattle.p3_field.specs.Laws.Roots.{NoZeroDivisors, field_no_zero_divisors, sub_zero, sub_self}
use Rattle.p3_field.specs.Laws.Coset.{HasOrder, two_adic_order, root_sum}
use Rattle.p3_field.specs.Laws.Extended.{hom_pow, hom_order, hom_differs, hom_of_nat}
use Rattle.p3_field.specs.Laws.Inverses.{size_inverts, root_inverts}
use Rattle.p3_field.specs.Laws.SubgroupSelectors.{ones, eval_ones, next_point as next_row_point, first_selector_value, last_selector_value, transition_selector_value}
use Rattle.law_committed.specs.Committed.{CommittedTable, row_count_of, trace_domain, row_point, next_point, committed_values_at}
use Rattle.law_committed.specs.Fields.{FieldsLaws}

module _ {E : Type 0} (s : Ring E) (M : RingLaws s) where
  -- 1 + w + .. + w^(n-1) at a root of unity: zero but at one
  ones_zero : NoZeroDivisors s → (n : ℕ) (w : E) → pow s w n ≡ s.one → (w ≡ s.one → ⊥) → eval_poly s (ones s n) w ≡ s.zero
  ones_zero N n w full differs = eval_ones s M n w ∙ root_sum s M N n w full differs

  ones_count : (n : ℕ) → eval_poly s (ones s n) s.one ≡ of_nat s n
  ones_count n = eval_ones s M n s.one ∙ (total_same s M n (λ j. pow s s.one j) (λ _. s.one) (λ j h. one_pow s M j) ∙ total_ones s M n)

module _ {F E : Type 0} (f : TwoAdic F) (e : Extension F E) (top : ℕ) (inverse : E → E) (L : FieldsLaws f e top inverse) (t : CommittedTable F E) (fits : t.log_height ≤ top) where
  -- the next row's point; after the last row is the first
  pub point_after : (i : ℕ) → i < row_count_of t → next_point f e t (row_point f e t i) ≡ row_point f e t ((i + 1) % row_count_of t)
  point_after i h =
      sym (L.embeds.keeps_mul (f.root t.log_height) (point f.ring f.root (trace_domain f e t) i))
      ∙ ap e.embed (next_row_point f.ring L.below f.inv L.below_field top f.root L.roots t.log_height fits f.ring.one i h)

  abbrev generator : E
  generator = e.embed (f.root t.log_height)

  point_power : (i : ℕ) → row_point f e t i ≡ pow e.ring generator i
  point_power i = ap e.embed (one_mul f.ring L.below (pow f.ring (f.root t.log_height) i)) ∙ hom_pow f.ring L.below e.ring L.above e.embed L.embeds (f.root t.log_height) i

  order : HasOrder e.ring (row_count_of t) generator
  order =
      hom_order f.ring L.below e.ring L.above e.embed L.embeds f.inv L.below_field L.above_field.one_differs (row_count_of t) (f.root t.log_height)
      (two_adic_order f.ring L.below top f.root L.roots t.log_height fits)

  divisors : NoZeroDivisors e.ring
  divisors = field_no_zero_divisors e.ring L.above inverse L.above_field

  -- powers of the generator have the n-th power one
  full_power : (i : ℕ) → pow e.ring (pow e.ring generator i) (row_count_of t) ≡ e.ring.one
  full_power i =
      let n = row_count_of t in
      let c : i * n ≡ n * i = omega arith in
      sym (pow_times e.ring L.above generator i n) ∙ (ap (pow e.ring generator) c ∙ (pow_times e.ring L.above generator n i ∙ (ap (λ z. pow e.ring z i) order.full ∙ one_pow e.ring L.above i)))

  count_not_zero : of_nat e.ring (row_count_of t) ≡ e.ring.zero → ⊥
  count_not_zero z =
      hom_differs f.ring L.below e.ring L.above e.embed L.embeds f.inv L.below_field L.above_field.one_differs (of_nat f.ring (row_count_of t)) f.ring.zero
      (size_inverts f.ring L.below f.inv L.below_field top f.root L.roots t.log_height fits)
      (hom_of_nat f.ring L.below e.ring L.above e.embed L.embeds (row_count_of t) ∙ (z ∙ sym L.embeds.keeps_zero))

  first_is : (i : ℕ) → (committed_values_at f e t (row_point f e t i)).first_row ≡ eval_poly e.ring (ones e.ring (row_count_of t)) (pow e.ring generator i)
  first_is i =
      first_selector_value f.ring L.below f.inv L.below_field e.ring L.above e.embed L.embeds t.log_height (row_point f e t i)
      ∙ ap (eval_poly e.ring (ones e.ring (row_count_of t))) (point_power i)

  last_is : (i : ℕ) → (committed_values_at f e t (row_point f e t i)).last_row ≡ e.ring.mul generator (eval_poly e.ring (ones e.ring (row_count_of t)) (pow e.ring generator (suc i)))
  unfolding pow
  last_is i =
      last_selector_value f.ring L.below f.inv L.below_field e.ring L.above e.embed L.embeds top f.root L.roots t.log_height fits (row_point f e t i)
      ∙ ap (λ z. e.ring.mul generator (eval_poly e.ring (ones e.ring (row_count_of t)) (e.ring.mul generator z))) (point_power i)

  -- the first row's selector is zero in each other row, and not in the first
  pub first_elsewhere : (i : ℕ) → 0 < i → i < row_count_of t → (committed_values_at f e t (row_point f e t i)).first_row ≡ e.ring.zero
  first_elsewhere i pos h =
      first_is i ∙ ones_zero e.ring L.above divisors (row_count_of t) (pow e.ring generator i) (full_power i) (order.least i pos h)

  pub first_here : (committed_values_at f e t (row_point f e t 0)).first_row ≡ e.ring.zero → ⊥
  unfolding pow
  first_here z = count_not_zero (sym (ones_count e.ring L.above (row_count_of t)) ∙ (sym (first_is 0) ∙ z))

  -- the last row's is zero in each other row, and not in the last
  pub last_elsewhere : (i : ℕ) → i + 1 < row_count_of t → (committed_values_at f e t (row_point f e t i)).last_row ≡ e.ring.zero
  last_elsewhere i h =
      last_is i
      ∙ (ap (e.ring.mul generator) (ones_zero e.ring L.above divisors (row_count_of t) (pow e.ring generator (suc i)) (full_power (suc i)) (order.least (suc i) (omega arith) (omega (arith, h))))
      ∙ mul_zero e.ring L.above generator)

  pub last_here : (i : ℕ) → i + 1 ≡ row_count_of t → (committed_values_at f e t (row_point f e t i)).last_row ≡ e.ring.zero → ⊥
  last_here i h z =
      let at : suc i ≡ row_count_of t = omega (arith, h) in
      let one : pow e.ring generator (suc i) ≡ e.ring.one = ap (pow e.ring generator) at ∙ order.full in
      let nonzero : generator ≡ e.ring.zero → ⊥ = λ w.
      hom_differs f.ring L.below e.ring L.above e.embed L.embeds f.inv L.below_field L.above_field.one_differs (f.root t.log_height) f.ring.zero
      (root_inverts f.ring L.below f.inv L.below_field top f.root L.roots t.log_height fits) (w ∙ sym L.embeds.keeps_zero) in
      let gone = divisors generator (eval_poly e.ring (ones e.ring (row_count_of t)) (pow e.ring generator (suc i))) nonzero (sym (last_is i) ∙ z) in
      count_not_zero (sym (ones_count e.ring L.above (row_count_of t)) ∙ (ap (eval_poly e.ring (ones e.ring (row_count_of t))) (sym one) ∙ gone))

  inverse_generator : e.ring.mul generator (e.embed (f.inv (f.root t.log_height))) ≡ e.ring.one
  inverse_generator =
      sym (L.embeds.keeps_mul (f.root t.log_height) (f.inv (f.root t.log_height)))
      ∙ (ap e.embed (L.below_field.mul_inv (f.root t.log_height) (root_inverts f.ring L.below f.inv L.below_field top f.root L.roots t.log_height fits)) ∙ L.embeds.keeps_one)

  transition_is : (i : ℕ) → (committed_values_at f e t (row_point f e t i)).transition ≡ sub e.ring (pow e.ring generator i) (e.embed (f.inv (f.root t.log_height)))
  transition_is i =
      transition_selector_value f.ring L.below f.inv L.below_field e.ring L.above e.embed L.embeds f.root t.log_height (row_point f e t i)
      ∙ ap (λ z. sub e.ring z (e.embed (f.inv (f.root t.log_height)))) (point_power i)

  -- the transition's is zero in the last row alone
  pub transition_last : (i : ℕ) → i + 1 ≡ row_count_of t → (committed_values_at f e t (row_point f e t i)).transition ≡ e.ring.zero
  unfolding pow
  transition_last i h =
      let s = e.ring in let g = e.embed (f.inv (f.root t.log_height)) in let P = pow s generator i in
      let at : suc i ≡ row_count_of t = omega (arith, h) in
      let one : s.mul generator P ≡ s.one = ap (pow s generator) at ∙ order.full in
      let same : P ≡ g = cc (one, inverse_generator, L.above.mul_one P, L.above.mul_comm generator P, L.above.mul_assoc P generator g, one_mul s L.above g) in
      transition_is i ∙ sub_self s L.above P g same

  pub transition_before : (i : ℕ) → i + 1 < row_count_of t → (committed_values_at f e t (row_point f e t i)).transition ≡ e.ring.zero → ⊥
  unfolding pow
  transition_before i h z =
      let s = e.ring in let g = e.embed (f.inv (f.root t.log_height)) in let P = pow s generator i in
      let same : P ≡ g = sub_zero s L.above P g (sym (transition_is i) ∙ z) in
      order.least (suc i) (omega arith) (omega (arith, h)) (ap (s.mul generator) same ∙ inverse_generator)

  -- as equivalences
  pub first_on_rows : (i : ℕ) → i < row_count_of t → ((committed_values_at f e t (row_point f e t i)).first_row ≡ e.ring.zero) ↔ (0 < i)
  first_on_rows i h = elim (cases_lt 0 i) [
    | inl away ↦ (λ z. away, λ a. first_elsewhere i away h)
    | inr here ↦
        let z : 0 ≡ i = omega (arith, here) in
        (λ q. absurd (first_here (ap (λ j. (committed_values_at f e t (row_point f e t j)).first_row) z ∙ q)), λ a. absurd (omega (arith, a, here)))
  ]

  pub last_on_rows : (i : ℕ) → i < row_count_of t → ((committed_values_at f e t (row_point f e t i)).last_row ≡ e.ring.zero) ↔ (i + 1 < row_count_of t)
  last_on_rows i h = elim (cases_lt (i + 1) (row_count_of t)) [
    | inl away ↦ (λ z. away, λ a. last_elsewhere i away)
    | inr here ↦ (λ z. absurd (last_here i (omega (arith, here, h)) z), λ a. absurd (omega (arith, a, here)))
  ]

  pub transition_on_rows : (i : ℕ) → i < row_count_of t → ((committed_values_at f e t (row_point f e t i)).transition ≡ e.ring.zero) ↔ (i + 1 ≡ row_count_of t)
  transition_on_rows i h = elim (cases_lt (i + 1) (row_count_of t)) [
    | inl away ↦ (λ z. absurd (transition_before i away z), λ a. absurd (omega (arith, a, away)))
    | inr here ↦ let last : i + 1 ≡ row_count_of t = omega (arith, here, h) in (λ z. last, λ a. transition_last i last)
  ]
