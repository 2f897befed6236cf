-- Half a step in characteristic 2 on words of any values, not bits alone: what it makes, and that its trees are zero
-- exactly there.
use Rattle.std.proofs.Common.{◌≡◌, ℕ, zero, suc, ◌+◌, ◌%◌, ◌<◌, ◌++◌, List, ◌∷◌, refl, sym, ◌∙◌, ap, subst, arith, lit<}
use Rattle.std.specs.Prelude.{◌↔◌}
use Rattle.std.proofs.lemmas.List.Elements.{All-cons, All-head, All-tail, All-append}
use Rattle.p3_field.specs.Ring.{Ring, RingLaws}
use Rattle.p3_field.specs.Poly.{tabulate}
use Rattle.p3_field.specs.Laws.Algebra.{zero_add}
use Rattle.air_core.specs.declared.cells.Cell.{Cell}
use Rattle.air_core.specs.declared.cells.ExtCell.{ExtCell}
use Rattle.air_core.specs.Tree.{Tree, Reading, eval_tree, sum, product}
use Rattle.air_gadgets.specs.Words.{cells_reading, Vanish}
use Rattle.air_gadgets.specs.Gadgets.{rotated_place}
use Rattle.blake3_binary.specs.Sums.{carries_trees, majority, carry_in, sum2_trees, with_carries, sum3_trees, turned, binary_half_trees}
use Rattle.blake3_binary.specs.Trees.{QuarterOf}
use Rattle.air_core.specs.Laws.Lists.{all_left, all_right, all_of_tabulate, all_tabulate}
use Rattle.blake3_binary.specs.Laws.Sums.{double, same_of_zero, zero_of_same, back}

module _ {A : Type 0} (r : Ring A) where
  -- (x + z) (y + z) + z
  abbrev pub majority_of : A → A → A → A
  majority_of x y z = r.add (r.mul (r.add x z) (r.add y z)) z

  -- the carries of x + y into the places from 1 on
  unfoldable pub carries_of : (ℕ → A) → (ℕ → A) → ℕ → A
  carries_of x y zero = r.mul (x 0) (y 0)
  carries_of x y (suc i) = majority_of (x (suc i)) (y (suc i)) (carries_of x y i)

  -- x + y with these carries
  abbrev pub summed : (x y k : ℕ → A) → ℕ → A
  summed x y k zero = r.add (x 0) (y 0)
  summed x y k (suc i) = r.add (r.add (x (suc i)) (y (suc i))) (k i)

  -- the carry of x + y into place i
  unfoldable pub carry_into : (ℕ → A) → (ℕ → A) → ℕ → A
  carry_into x y zero = r.zero
  carry_into x y (suc i) = majority_of (x i) (y i) (carry_into x y i)

  abbrev pub sum_of : (x y : ℕ → A) → ℕ → A
  sum_of x y i = r.add (r.add (carry_into x y i) (x i)) (y i)

  -- x + y, turned to the right by s
  abbrev pub turned_sum : ℕ → (x y : ℕ → A) → ℕ → A
  turned_sum s x y j = r.add (x ((j + s) % 32)) (y ((j + s) % 32))

  -- the words after half a step
  unfoldable pub made_a : QuarterOf (ℕ → A) → (ℕ → A) → ℕ → A
  made_a q m = sum_of (summed q.a q.b (carries_of q.a q.b)) m

  unfoldable pub made_d : ℕ → QuarterOf (ℕ → A) → (ℕ → A) → ℕ → A
  made_d s q m = turned_sum s q.d (made_a q m)

  unfoldable pub made_c : ℕ → QuarterOf (ℕ → A) → (ℕ → A) → ℕ → A
  made_c s q m = sum_of q.c (made_d s q m)

  unfoldable pub made_b : ℕ → ℕ → QuarterOf (ℕ → A) → (ℕ → A) → ℕ → A
  made_b s t q m = turned_sum t q.b (made_c s q m)

  abbrev pub made : ℕ → ℕ → QuarterOf (ℕ → A) → (ℕ → A) → QuarterOf (ℕ → A)
  made s t q m = record { a = made_a q m; b = made_b s t q m; c = made_c s q m; d = made_d s q m }

-- the trees have these values at the first n places
abbrev pub Have : {A : Type 0} → Reading A A → ℕ → (ℕ → Tree A) → (ℕ → A) → Type 0
Have rd n t w = (i : ℕ) → i < n → eval_tree rd (t i) ≡ w i

-- the trees of four words have these values
pub record HaveFour {A : Type 0} (rd : Reading A A) (t : QuarterOf (ℕ → Tree A)) (w : QuarterOf (ℕ → A)) : Type 0 where
  pub a_values : Have rd 32 t.a w.a
  pub b_values : Have rd 32 t.b w.b
  pub c_values : Have rd 32 t.c w.c
  pub d_values : Have rd 32 t.d w.d

-- the cells of half a step have the values that it makes of those before it: the carries, d and b
pub record HaveMade {A : Type 0} (r : Ring A) (rd : Reading A A) (s t : ℕ) (q : QuarterOf (ℕ → A)) (m : ℕ → A) (k d' b' : ℕ → Tree A) : Type 0 where
  pub carries : Have rd 31 k (carries_of r q.a q.b)
  pub d_made : Have rd 32 d' (made_d r s q m)
  pub b_made : Have rd 32 b' (made_b r s t q m)

module _ {A : Type 0} (r : Ring A) (L : RingLaws r) (two : r.add r.one r.one ≡ r.zero) (at : Cell → A) (at_ext : ExtCell → A) where
  abbrev rd : Reading A A
  rd = cells_reading r at at_ext

  abbrev Zero : Tree A → Type 0
  Zero v = eval_tree rd v ≡ r.zero

  same : (a b : A) → r.add a b ≡ r.zero → b ≡ a
  same = same_of_zero r L two

  null : (a b : A) → b ≡ a → r.add a b ≡ r.zero
  null = zero_of_same r L two

  module _ (x y s : ℕ → Tree A) (u v : ℕ → A) (hx : Have rd 32 x u) (hy : Have rd 32 y v) where
    abbrev next : ℕ → Tree A
    next i = sum (majority (x i) (y i) (carry_in x y s i)) (carry_in x y s (suc i))

    next_value : (i : ℕ) → i < 32 → eval_tree rd (carry_in x y s i) ≡ carry_into r u v i → eval_tree rd (majority (x i) (y i) (carry_in x y s i)) ≡ carry_into r u v (suc i)
    unfolding carry_into
    next_value i lt h = cc (hx i lt, hy i lt, h)

    carries2 : Vanish r rd (sum2_trees x y s) → (i : ℕ) → i < 32 → eval_tree rd (carry_in x y s i) ≡ carry_into r u v i
    unfolding sum2_trees carry_into
    carries2 z zero lt = All-head Zero (carry_in x y s 0) (tabulate 31 next) z
    carries2 z (suc i) lt =
        let here : Zero (next i) = all_of_tabulate Zero 31 next (All-tail Zero (carry_in x y s 0) (tabulate 31 next) z) i (omega (arith, lt)) in
        same (eval_tree rd (majority (x i) (y i) (carry_in x y s i))) (eval_tree rd (carry_in x y s (suc i))) here
        ∙ next_value i (omega (arith, lt)) (carries2 z i (omega (arith, lt)))

    sum2_made : Vanish r rd (sum2_trees x y s) → Have rd 32 s (sum_of r u v)
    sum2_made z i lt =
        back r L two (eval_tree rd (s i)) (eval_tree rd (x i)) (eval_tree rd (y i)) (carry_into r u v i) (carries2 z i lt)
        ∙ cc (hx i lt, hy i lt)

    zeros2 : Have rd 32 s (sum_of r u v) → Vanish r rd (sum2_trees x y s)
    unfolding sum2_trees carry_into
    zeros2 h =
        let c : (i : ℕ) → i < 32 → eval_tree rd (carry_in x y s i) ≡ carry_into r u v i = λ i lt.
        let e : r.add (r.add (carry_into r u v i) (eval_tree rd (x i))) (eval_tree rd (y i)) ≡ eval_tree rd (s i) = cc (hx i lt, hy i lt, h i lt) in
        sym (back r L two (carry_into r u v i) (eval_tree rd (x i)) (eval_tree rd (y i)) (eval_tree rd (s i)) e) in
        All-cons Zero (carry_in x y s 0) (tabulate 31 next) (c 0 (lit< tt)) (all_tabulate Zero 31 next (λ i lt.
        null (eval_tree rd (majority (x i) (y i) (carry_in x y s i))) (eval_tree rd (carry_in x y s (suc i)))
        (c (suc i) (omega (arith, lt)) ∙ sym (next_value i (omega (arith, lt)) (c i (omega (arith, lt)))))))

  module _ (x y k : ℕ → Tree A) (u v : ℕ → A) (hx : Have rd 32 x u) (hy : Have rd 32 y v) where
    abbrev first3 : Tree A
    first3 = sum (product (x 0) (y 0)) (k 0)

    abbrev later3 : ℕ → Tree A
    later3 i = sum (majority (x (suc i)) (y (suc i)) (k i)) (k (suc i))

    abbrev trees3 : List (Tree A)
    trees3 = first3 ∷ tabulate 30 later3

    first_value : eval_tree rd (product (x 0) (y 0)) ≡ carries_of r u v 0
    unfolding carries_of
    first_value = cc (hx 0 (lit< tt), hy 0 (lit< tt))

    later_value : (i : ℕ) → i < 30 → eval_tree rd (k i) ≡ carries_of r u v i → eval_tree rd (majority (x (suc i)) (y (suc i)) (k i)) ≡ carries_of r u v (suc i)
    unfolding carries_of
    later_value i lt h = cc (hx (suc i) (omega (arith, lt)), hy (suc i) (omega (arith, lt)), h)

    carries3 : Vanish r rd trees3 → (i : ℕ) → i < 31 → eval_tree rd (k i) ≡ carries_of r u v i
    carries3 z zero lt = same (eval_tree rd (product (x 0) (y 0))) (eval_tree rd (k 0)) (All-head Zero first3 (tabulate 30 later3) z) ∙ first_value
    carries3 z (suc i) lt =
        let here : Zero (later3 i) = all_of_tabulate Zero 30 later3 (All-tail Zero first3 (tabulate 30 later3) z) i (omega (arith, lt)) in
        same (eval_tree rd (majority (x (suc i)) (y (suc i)) (k i))) (eval_tree rd (k (suc i))) here
        ∙ later_value i (omega (arith, lt)) (carries3 z i (omega (arith, lt)))

    zeros3 : Have rd 31 k (carries_of r u v) → Vanish r rd trees3
    zeros3 h =
        All-cons Zero first3 (tabulate 30 later3) (null (eval_tree rd (product (x 0) (y 0))) (eval_tree rd (k 0)) (h 0 (lit< tt) ∙ sym first_value))
        (all_tabulate Zero 30 later3 (λ i lt. null (eval_tree rd (majority (x (suc i)) (y (suc i)) (k i))) (eval_tree rd (k (suc i)))
        (h (suc i) (omega (arith, lt)) ∙ sym (later_value i lt (h i (omega (arith, lt)))))))

    summed_values : Have rd 31 k (carries_of r u v) → Have rd 32 (with_carries x y k) (summed r u v (carries_of r u v))
    summed_values h zero lt = cc (hx 0 lt, hy 0 lt)
    summed_values h (suc i) lt = cc (hx (suc i) lt, hy (suc i) lt, h i (omega (arith, lt)))

  moved : (a b c : A) → r.add a b ≡ c → b ≡ r.add a c
  moved a b c h = cc (double r L two a, L.add_assoc a a b, zero_add r L b, h)

  -- x xor (y turned) is w exactly where y is x xor w, turned back
  pub turned_made : (x y : ℕ → Tree A) (u w : ℕ → A) (s : ℕ) → Have rd 32 x u → Have rd 32 (turned x y s) w ↔ Have rd 32 y (turned_sum r s u w)
  turned_made x y u w s hx = (
    λ h j lt.
        let i = (j + s) % 32 in
        let li : i < 32 = omega arith in
        let e : rotated_place s i ≡ j = omega (arith, lt) in
        let here : r.add (eval_tree rd (x i)) (eval_tree rd (y j)) ≡ w i = subst (λ l. r.add (eval_tree rd (x i)) (eval_tree rd (y l)) ≡ w i) e (h i li) in
        moved (eval_tree rd (x i)) (eval_tree rd (y j)) (w i) here ∙ ap (λ a. r.add a (w i)) (hx i li),
    λ h i lt.
        let j = rotated_place s i in
        let lj : j < 32 = omega arith in
        let e : (j + s) % 32 ≡ i = omega (arith, lt) in
        let value : eval_tree rd (y j) ≡ r.add (u i) (w i) = h j lj ∙ ap (λ l. r.add (u l) (w l)) e in
        (λ l. r.add (hx i lt l) (value l)) ∙ sym (moved (u i) (w i) (r.add (u i) (w i)) refl),
  )

  pub half_made : (s t : ℕ) (q : QuarterOf (ℕ → Tree A)) (m k d' b' : ℕ → Tree A) (v : QuarterOf (ℕ → A)) (w : ℕ → A) → HaveFour rd q v → Have rd 32 m w
      → Vanish r rd (binary_half_trees s t q.a q.b q.c q.d m k d' b') ↔ HaveMade r rd s t v w k d' b'
  unfolding binary_half_trees sum3_trees carries_trees made_a made_b made_c made_d
  half_made s t q m k d' b' v w h hm =
      let first = trees3 q.a q.b k v.a v.b h.a_values h.b_values in
      let one = sum2_trees (with_carries q.a q.b k) m (turned q.d d' s) in
      let other = sum2_trees q.c d' (turned q.b b' t) in
      let S = summed r v.a v.b (carries_of r v.a v.b) in
      let d_is = turned_made q.d d' v.d (made_a r v w) s h.d_values in
      let b_is = turned_made q.b b' v.b (made_c r s v w) t h.b_values in (
        λ z.
            let z1 = all_left Zero (first ++ one) other z in
            let hk = carries3 q.a q.b k v.a v.b h.a_values h.b_values (all_left Zero first one z1) in
            let ha = sum2_made (with_carries q.a q.b k) m (turned q.d d' s) S w (summed_values q.a q.b k v.a v.b h.a_values h.b_values hk) hm (all_right Zero first one z1) in
            let hd = d_is.0 ha in
            let hc = sum2_made q.c d' (turned q.b b' t) v.c (made_d r s v w) h.c_values hd (all_right Zero (first ++ one) other z) in
            record { carries = hk; d_made = hd; b_made = b_is.0 hc },
        λ p.
            let hs = summed_values q.a q.b k v.a v.b h.a_values h.b_values p.carries in
            All-append Zero (first ++ one) other
            (All-append Zero first one (zeros3 q.a q.b k v.a v.b h.a_values h.b_values p.carries)
            (zeros2 (with_carries q.a q.b k) m (turned q.d d' s) S w hs hm (d_is.1 p.d_made)))
            (zeros2 q.c d' (turned q.b b' t) v.c (made_d r s v w) h.c_values p.d_made (b_is.1 p.b_made)),
      )

  -- the words after half a step have the values that it makes
  pub after_made : (s t : ℕ) (q : QuarterOf (ℕ → Tree A)) (k d' b' : ℕ → Tree A) (v : QuarterOf (ℕ → A)) (w : ℕ → A) → HaveFour rd q v
      → HaveMade r rd s t v w k d' b' → Have rd 32 (turned q.d d' s) (made_a r v w) × Have rd 32 (turned q.b b' t) (made_c r s v w)
  unfolding made_b made_d
  after_made s t q k d' b' v w h p =
      ((turned_made q.d d' v.d (made_a r v w) s h.d_values).1 p.d_made, (turned_made q.b b' v.b (made_c r s v w) t h.b_values).1 p.b_made)
