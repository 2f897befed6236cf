-- Where the constraints of lookups vanish on each row, and no denominator is zero, the permutation columns are the honest ones.
use Rattle.std.proofs.Common.{◌≡◌, ℕ, zero, suc, ◌+◌, ◌*◌, ◌<◌, true, false, List, [], ◌∷◌, ◌++◌, length, get_or, map, sym, ◌∙◌, ap, arith}
use Rattle.std.specs.Prelude.{All}
use Rattle.std.proofs.lemmas.List.Elements.{All-nil, All-cons, All-head, All-tail}
use Rattle.p3_field.specs.Ring.{Ring, RingLaws, sub}
use Rattle.p3_field.specs.Field.{FieldLaws, RingHom}
use Rattle.p3_field.specs.Poly.{total}
use Rattle.p3_field.specs.Laws.Roots.{NoZeroDivisors, field_no_zero_divisors, sub_zero}
use Rattle.p3_field.specs.Laws.Sums.{total_same}
use Rattle.p3_field.specs.Laws.Tabulate.{total_more}
use Rattle.air_core.specs.declared.cells.Cell.{Cell}
use Rattle.air_core.specs.declared.cells.Cell.TheVariants.{FirstRow, LastRow, Transition}
use Rattle.air_core.specs.declared.cells.ExtCell.{ExtCell}
use Rattle.air_core.specs.declared.cells.ExtCell.TheVariants.{Permutation, Challenge, Terminal}
use Rattle.air_core.specs.Tree.{Tree, Reading, eval_tree}
use Rattle.p3_lookup.specs.Lookup.{LookupData, sent}
use Rattle.p3_lookup.specs.Term.{Term, common, numerator, sum_of, fraction, HasInverses}
use Rattle.p3_lookup.specs.Trees.{trees, base_tree, beta_tree, term_tree, fraction_tree, fraction_trees, sum_tree, first_tree, transition_tree, last_tree, running_trees, lookup_trees}
use Rattle.p3_lookup.specs.Honest.{Argument, lookup_terms, terms_from, row_fractions, running_sum, RowHasInverses}
use Rattle.p3_lookup.specs.Rows.{reading_with, AgreeOnSent}
use Rattle.p3_lookup.specs.Laws.Terms.{fraction_times, sum_is_total}
use Rattle.p3_lookup.specs.Laws.Vanish.{eval_tree-common, eval_tree-numerator, eval_tree-sum, length_fractions}
use Rattle.stark_balance.specs.Vanishing.{AreVanishingRows, VanishingRowsSum}

-- what holds of both lists together holds of each
pub split_all : {X : Type 0} (P : X → Type 0) (xs ys : List X) → All P (xs ++ ys) → All P xs × All P ys
split_all P [] ys h = (All-nil P, h)
split_all P (x ∷ xs) ys h =
    let r = split_all P xs ys (All-tail P x (xs ++ ys) h) in
    (All-cons P x xs (All-head P x (xs ++ ys) h) r.0, r.1)

module _ {E : Type 0} (e : Ring E) (L : RingLaws e) (inv : E → E) (W : FieldLaws e inv) where
  divisors : NoZeroDivisors e
  divisors = field_no_zero_divisors e L inv W

  -- what isn't zero may be cancelled
  pub cancel : (c x y : E) → (c ≡ e.zero → ⊥) → e.mul x c ≡ e.mul y c → x ≡ y
  cancel c x y d h =
      let one = W.mul_inv c d in
      sym (L.mul_one x) ∙ ap (e.mul x) (sym one) ∙ sym (L.mul_assoc x c (inv c)) ∙ ap (λ z. e.mul z (inv c)) h ∙ L.mul_assoc y c (inv c) ∙ ap (e.mul y) one ∙ L.mul_one y

  -- the product of denominators that aren't zero isn't zero
  pub common_differs : (ts : List (Term E)) → HasInverses e ts → common e ts ≡ e.zero → ⊥
  common_differs [] h z = W.one_differs z
  common_differs (t ∷ ts) h z =
      let P : Term E → Type 0 = λ u. u.denominator ≡ e.zero → ⊥ in
      common_differs ts (All-tail P t ts h) (divisors t.denominator (common e ts) (All-head P t ts h) z)

  -- x - s - t is zero where x is s + t
  step_is : (x s t : E) → sub e (sub e x s) t ≡ e.zero → x ≡ e.add s t
  step_is x s t h =
      let n = e.neg s in
      let u : sub e x s ≡ t = sub_zero e L (sub e x s) t h in
      sym (L.add_zero x) ∙ ap (e.add x) (sym (L.add_neg s) ∙ L.add_comm s n) ∙ sym (L.add_assoc x n s) ∙ ap (λ z. e.add z s) u ∙ L.add_comm t s

module _ {F E : Type 0} (f : Ring F) (e : Ring E) (L : RingLaws e) (inv : E → E) (W : FieldLaws e inv) (embed : F → E) (H : RingHom f e embed) (at : Cell → E) (at_ext : ExtCell → E) where
  abbrev r : Reading F E
  r = reading_with e embed at at_ext

  -- where the fraction's tree is zero, its column has the sum of the fractions
  fraction_is : (challenges : List E) (v : Tree F → E) (n : ℕ) (l : LookupData F)
      → at_ext (Challenge (2 * n)) ≡ get_or challenges (2 * n) e.zero
      → at_ext (Challenge (2 * n + 1)) ≡ get_or challenges (2 * n + 1) e.zero
      → All (AgreeOnSent v (eval_tree r)) (sent l)
      → HasInverses e (lookup_terms e challenges v n l)
      → eval_tree r (fraction_tree f n l) ≡ e.zero
      → at_ext (Permutation false (n + 1)) ≡ fraction e inv (lookup_terms e challenges v n l)
  fraction_is challenges v n l hb hc h d z =
      let ts = lookup_terms e challenges v n l in
      let x = at_ext (Permutation false (n + 1)) in
      let C : eval_tree r (common (trees f) (map (term_tree f (base_tree n) (beta_tree n)) (sent l))) ≡ common e ts =
      eval_tree-common f e L inv W embed H at at_ext v (get_or challenges (2 * n) e.zero) (get_or challenges (2 * n + 1) e.zero) n hb hc (sent l) h in
      let N : eval_tree r (numerator (trees f) (map (term_tree f (base_tree n) (beta_tree n)) (sent l))) ≡ numerator e ts =
      eval_tree-numerator f e L inv W embed H at at_ext v (get_or challenges (2 * n) e.zero) (get_or challenges (2 * n + 1) e.zero) n hb hc (sent l) h in
      let same : e.mul x (common e ts) ≡ numerator e ts =
      ap (e.mul x) (sym C) ∙ sub_zero e L (e.mul x (eval_tree r (common (trees f) (map (term_tree f (base_tree n) (beta_tree n)) (sent l))))) (eval_tree r (numerator (trees f) (map (term_tree f (base_tree n) (beta_tree n)) (sent l)))) z ∙ N in
      cancel e L inv W (common e ts) x (fraction e inv ts) (common_differs e L inv W ts d) (same ∙ sym (fraction_times e L inv W ts d))

  -- so for the lookups from n on
  fractions_are : (challenges : List E) (v : Tree F → E) (n : ℕ) (ls : List (LookupData F))
      → ((k : ℕ) → k < 2 * (n + length ls) → at_ext (Challenge k) ≡ get_or challenges k e.zero)
      → All (λ l. All (AgreeOnSent v (eval_tree r)) (sent l)) ls
      → All (HasInverses e) (terms_from e challenges v n ls)
      → All (λ t. eval_tree r t ≡ e.zero) (fraction_trees f n ls)
      → (j : ℕ) → j < length ls → at_ext (Permutation false (suc (n + j))) ≡ get_or (map (fraction e inv) (terms_from e challenges v n ls)) j e.zero
  fractions_are challenges v n [] c h d z j lt = absurd (omega (arith, lt))
  fractions_are challenges v n (l ∷ ls) c h d z zero lt =
      let at : suc (n + 0) ≡ n + 1 = omega arith in
      let P : LookupData F → Type 0 = λ k. All (AgreeOnSent v (eval_tree r)) (sent k) in
      let us = terms_from e challenges v (suc n) ls in
      ap (λ k. at_ext (Permutation false k)) at
      ∙ fraction_is challenges v n l (c (2 * n) (omega arith)) (c (2 * n + 1) (omega arith)) (All-head P l ls h) (All-head (HasInverses e) (lookup_terms e challenges v n l) us d)
      (All-head (λ t. eval_tree r t ≡ e.zero) (fraction_tree f n l) (fraction_trees f (suc n) ls) z)
  fractions_are challenges v n (l ∷ ls) c h d z (suc j) lt =
      let P : LookupData F → Type 0 = λ k. All (AgreeOnSent v (eval_tree r)) (sent k) in
      let us = terms_from e challenges v (suc n) ls in
      let at : suc (n + suc j) ≡ suc (suc n + j) = omega arith in
      ap (λ k. at_ext (Permutation false k)) at
      ∙ fractions_are challenges v (suc n) ls
      (λ k lt. c k (omega (arith, lt)))
      (All-tail P l ls h)
      (All-tail (HasInverses e) (lookup_terms e challenges v n l) us d)
      (All-tail (λ t. eval_tree r t ≡ e.zero) (fraction_tree f n l) (fraction_trees f (suc n) ls) z)
      j (omega (arith, lt))

module _ {F E : Type 0} (f : Ring F) (embed : F → E) (p : Argument F E) (L : RingLaws p.ring) (W : FieldLaws p.ring p.inv) (H : RingHom f p.ring embed)
    (n : ℕ) (terminal : E) (at : ℕ → Cell → E) (at_ext : ℕ → ExtCell → E) (some : 0 < length p.lookups) (R : AreVanishingRows f embed p n terminal at at_ext)
    (D : (i : ℕ) → i < n → RowHasInverses p i) where
  abbrev value : ℕ → Tree F → E
  value i t = eval_tree (reading_with p.ring embed (at i) (at_ext i)) t

  abbrev Z : ℕ → Tree F → Type 0
  Z i t = value i t ≡ p.ring.zero

  -- the trees of the fractions and those of the running sum
  parts : (i : ℕ) → i < n → All (Z i) (fraction_trees f 0 p.lookups) × All (Z i) (running_trees f (length p.lookups))
  parts i within = of p.lookups some (R.vanish i within)
    where
      of : (ls : List (LookupData F)) → 0 < length ls → All (Z i) (lookup_trees f ls) → All (Z i) (fraction_trees f 0 ls) × All (Z i) (running_trees f (length ls))
      of [] h z = absurd (omega (arith, h))
      of (l ∷ ls) h z = split_all (Z i) (fraction_trees f 0 (l ∷ ls)) (running_trees f (length (l ∷ ls))) z

  row_sum : (i : ℕ) → i < n → value i (sum_tree f (length p.lookups)) ≡ sum_of p.ring (row_fractions p i)
  row_sum i within =
      let m = length p.lookups in
      let fs = row_fractions p i in
      eval_tree-sum f p.ring L p.inv W embed H (at i) (at_ext i) m
      ∙ total_same p.ring L m (λ j. at_ext i (Permutation false (suc j))) (λ j. get_or fs j p.ring.zero)
      (λ j lt. let e : suc j ≡ suc (0 + j) = omega arith in
      ap (λ k. at_ext i (Permutation false k)) e
      ∙ fractions_are f p.ring L p.inv W embed H (at i) (at_ext i) p.challenges (p.value i) 0 p.lookups
      (λ k l. R.challenge i within k (omega (arith, l))) (R.agrees i within) (D i within) (parts i within).0 j lt)
      ∙ ap (λ k. total p.ring k (λ j. get_or fs j p.ring.zero)) (sym (length_fractions p i))
      ∙ sym (sum_is_total p.ring L fs)

  -- the running sum one row on
  running_next : (i : ℕ) → running_sum p (i + 1) ≡ p.ring.add (running_sum p i) (sum_of p.ring (row_fractions p i))
  running_next i = sym (total_more p.ring L i (λ k. sum_of p.ring (row_fractions p k)))

  -- a difference that is zero makes a step of the running sum
  step : (i : ℕ) → i < n → at_ext i (Permutation false 0) ≡ running_sum p i → (x : E)
      → sub p.ring (sub p.ring x (at_ext i (Permutation false 0))) (value i (sum_tree f (length p.lookups))) ≡ p.ring.zero → x ≡ running_sum p (i + 1)
  step i within here x z =
      step_is p.ring L p.inv W x (at_ext i (Permutation false 0)) (value i (sum_tree f (length p.lookups))) z
      ∙ ap (λ s. p.ring.add s (value i (sum_tree f (length p.lookups)))) here
      ∙ ap (p.ring.add (running_sum p i)) (row_sum i within)
      ∙ sym (running_next i)

  -- the column of the running sum has it on each row
  running : (i : ℕ) → i < n → at_ext i (Permutation false 0) ≡ running_sum p i
  running zero within =
      let m = length p.lookups in
      divisors p.ring L p.inv W (at 0 FirstRow) (at_ext 0 (Permutation false 0)) R.first
      (All-head (Z 0) first_tree (transition_tree f m ∷ last_tree f m ∷ []) (parts 0 within).1)
  running (suc i) within =
      let m = length p.lookups in
      let low : i < n = omega (arith, within) in
      let one : i + 1 ≡ suc i = omega arith in
      let up : i + 1 < n = omega (arith, within) in
      let here = running i low in
      let x = at_ext i (Permutation true 0) in
      let rest = sub p.ring (sub p.ring x (at_ext i (Permutation false 0))) (value i (sum_tree f m)) in
      let gone : rest ≡ p.ring.zero = divisors p.ring L p.inv W (at i Transition) rest (R.transition i up)
      (All-head (Z i) (transition_tree f m) (last_tree f m ∷ []) (All-tail (Z i) first_tree (transition_tree f m ∷ last_tree f m ∷ []) (parts i low).1)) in
      ap (λ k. at_ext k (Permutation false 0)) (sym one) ∙ sym (R.next i up) ∙ step i low here x gone ∙ ap (running_sum p) one

  ends : (i : ℕ) → i + 1 ≡ n → terminal ≡ running_sum p n
  ends i h =
      let m = length p.lookups in
      let low : i < n = omega (arith, h) in
      let x = at_ext i Terminal in
      let rest = sub p.ring (sub p.ring x (at_ext i (Permutation false 0))) (value i (sum_tree f m)) in
      let gone : rest ≡ p.ring.zero = divisors p.ring L p.inv W (at i LastRow) rest (R.last i h)
      (All-head (Z i) (last_tree f m) [] (All-tail (Z i) (transition_tree f m) (last_tree f m ∷ []) (All-tail (Z i) first_tree (transition_tree f m ∷ last_tree f m ∷ []) (parts i low).1))) in
      sym (R.terminal_is i low) ∙ step i low (running i low) x gone ∙ ap (running_sum p) h

pub vanishing_sum : {F E : Type 0} (f : Ring F) (embed : F → E) (p : Argument F E) → RingLaws p.ring → FieldLaws p.ring p.inv → RingHom f p.ring embed → VanishingRowsSum f embed p
vanishing_sum f embed p L W H zero terminal at at_ext pos some R D = absurd (omega (arith, pos))
vanishing_sum f embed p L W H (suc n) terminal at at_ext pos some R D = let one : n + 1 ≡ suc n = omega arith in ends f embed p L W H (suc n) terminal at at_ext some R D n one
