-- The honest permutation columns make each constraint of the lookups zero in each row.
use Rattle.std.proofs.Common.{◌≡◌, ℕ, zero, suc, ◌+◌, ◌*◌, ◌%◌, ◌<◌, inl, inr, true, false, List, [], ◌∷◌, ◌++◌, length, get_or, map, refl, sym, ◌∙◌, ap, subst, arith}
use Rattle.std.specs.Prelude.{All}
use Rattle.std.proofs.lemmas.List.{length-map}
use Rattle.std.proofs.lemmas.List.Elements.{All-head, All-tail, All-cons, All-append}
use Rattle.std.proofs.lemmas.Bool.{cases_lt}
use Rattle.std.proofs.Math.Nat.{mod-eq_of_lt}
use Rattle.p3_field.specs.Ring.{Ring, RingLaws, sub}
use Rattle.p3_field.specs.Field.{FieldLaws, RingHom}
use Rattle.p3_field.specs.Poly.{eval_poly, total}
use Rattle.p3_field.specs.Laws.Algebra.{mul_zero, zero_mul}
use Rattle.p3_field.specs.Laws.Sums.{total_same}
use Rattle.p3_field.specs.Laws.Tabulate.{total_more}
use Rattle.air_core.specs.declared.cells.Cell.{Cell}
use Rattle.air_core.specs.declared.cells.Cell.TheVariants.{FirstRow, LastRow, Transition}
use Rattle.air_core.specs.declared.cells.ExtCell.{ExtCell}
use Rattle.air_core.specs.declared.cells.ExtCell.TheVariants.{Permutation, Challenge, Terminal}
use Rattle.air_core.specs.Tree.{Tree, Reading, eval_tree}
use Rattle.p3_lookup.specs.Lookup.{LookupData, Sent, map_sent, sent}
use Rattle.p3_lookup.specs.Term.{Term, term, denominator, common, numerator, sum_of, fraction, HasInverses}
use Rattle.p3_lookup.specs.Trees.{trees, base_tree, beta_tree, term_tree, fraction_tree, fraction_trees, sum_tree, first_tree, transition_tree, last_tree, running_trees, lookup_trees}
use Rattle.p3_lookup.specs.Honest.{Argument, lookup_terms, terms_from, row_terms, row_fractions, running_sum, RowHasInverses}
use Rattle.p3_lookup.specs.Rows.{reading_with, AreHonestRows, AgreeOnSent}
use Rattle.p3_lookup.specs.Laws.Terms.{fraction_times, sum_is_total}

-- a tree's value in the ring, and the ring's laws
module _ {F E : Type 0} (f : Ring F) (e : Ring E) (L : RingLaws e) (inv : E → E) (W : FieldLaws e inv) (embed : F → E) (H : RingHom f e embed) where
  sub_same : (x : E) → sub e x x ≡ e.zero
  sub_same x = L.add_neg x

  -- (s + t) - s - t
  sub_both : (x s t : E) → x ≡ e.add s t → sub e (sub e x s) t ≡ e.zero
  sub_both x s t h =
      let n = e.neg s in
      cc (h, L.add_comm s t, L.add_assoc t s n, L.add_neg s, L.add_zero t, L.add_neg t)

  module _ (at : Cell → E) (at_ext : ExtCell → E) where
    abbrev r : Reading F E
    r = reading_with e embed at at_ext

    eval_tree-eval_poly : (ts : List (Tree F)) (b : Tree F) → eval_tree r (eval_poly (trees f) ts b) ≡ eval_poly e (map (eval_tree r) ts) (eval_tree r b)
    eval_tree-eval_poly [] b = H.keeps_zero
    eval_tree-eval_poly (t ∷ ts) b = ap (λ x. e.add (eval_tree r t) (e.mul (eval_tree r b) x)) (eval_tree-eval_poly ts b)

    -- values that agree on the tuple
    agree_map : (v : Tree F → E) (ts : List (Tree F)) → All (λ t. v t ≡ eval_tree r t) ts → map v ts ≡ map (eval_tree r) ts
    agree_map v [] h = refl
    agree_map v (t ∷ ts) h =
        let P : Tree F → Type 0 = λ u. v u ≡ eval_tree r u in
        cc (All-head P t ts h, agree_map v ts (All-tail P t ts h))

    -- a term's tree has the term's value
    pub eval_tree-denominator : (v : Tree F → E) (base beta : E) (n : ℕ) → at_ext (Challenge (2 * n)) ≡ base → at_ext (Challenge (2 * n + 1)) ≡ beta
        → (s : Sent (Tree F)) → AgreeOnSent v (eval_tree r) s → eval_tree r (term_tree f (base_tree n) (beta_tree n) s).denominator ≡ denominator e base beta (map v s.tuple)
    eval_tree-denominator v base beta n hb hc s h =
        ap (sub e (at_ext (Challenge (2 * n)))) (eval_tree-eval_poly s.tuple (beta_tree n)
        ∙ ap (λ l. eval_poly e l (at_ext (Challenge (2 * n + 1)))) (sym (agree_map v s.tuple h.0))
        ∙ ap (eval_poly e (map v s.tuple)) hc)
        ∙ ap (λ b. sub e b (eval_poly e (map v s.tuple) beta)) hb

    module _ (v : Tree F → E) (base beta : E) (n : ℕ) (hb : at_ext (Challenge (2 * n)) ≡ base) (hc : at_ext (Challenge (2 * n + 1)) ≡ beta) where
      abbrev values : List (Sent (Tree F)) → List (Term E)
      values ss = map (λ s. term e base beta (map_sent v s)) ss

      pub eval_tree-common : (ss : List (Sent (Tree F))) → All (AgreeOnSent v (eval_tree r)) ss → eval_tree r (common (trees f) (map (term_tree f (base_tree n) (beta_tree n)) ss)) ≡ common e (values ss)
      eval_tree-common [] h = H.keeps_one
      eval_tree-common (s ∷ ss) h =
          cc (eval_tree-denominator v base beta n hb hc s (All-head (AgreeOnSent v (eval_tree r)) s ss h), eval_tree-common ss (All-tail (AgreeOnSent v (eval_tree r)) s ss h))

      pub eval_tree-numerator : (ss : List (Sent (Tree F))) → All (AgreeOnSent v (eval_tree r)) ss → eval_tree r (numerator (trees f) (map (term_tree f (base_tree n) (beta_tree n)) ss)) ≡ numerator e (values ss)
      eval_tree-numerator [] h = H.keeps_zero
      eval_tree-numerator (s ∷ ss) h =
          let here = All-head (AgreeOnSent v (eval_tree r)) s ss h in
          let there = All-tail (AgreeOnSent v (eval_tree r)) s ss h in
          cc (eval_tree-denominator v base beta n hb hc s here, eval_tree-common ss there, eval_tree-numerator ss there, here.1)

    -- the fraction's tree is zero where its column has the sum of the fractions
    pub fraction_zero : (challenges : List E) (v : Tree F → E) (n : ℕ) (l : LookupData F)
        → at_ext (Challenge (2 * n)) ≡ get_or challenges (2 * n) e.zero
        → at_ext (Challenge (2 * n + 1)) ≡ get_or challenges (2 * n + 1) e.zero
        → All (AgreeOnSent v (eval_tree r)) (sent l)
        → HasInverses e (lookup_terms e challenges v n l)
        → at_ext (Permutation false (n + 1)) ≡ fraction e inv (lookup_terms e challenges v n l)
        → eval_tree r (fraction_tree f n l) ≡ e.zero
    fraction_zero challenges v n l hb hc h d x =
        let ts = lookup_terms e challenges v n l in
        cc (eval_tree-common v _ _ n hb hc (sent l) h, eval_tree-numerator v _ _ n hb hc (sent l) h, x, fraction_times e L inv W ts d, sub_same (numerator e ts))

    -- the trees of the lookups from n on
    pub fractions_zero : (challenges : List E) (v : Tree F → E) (n : ℕ) (ls : List (LookupData F))
        → ((k : ℕ) → k < 2 * (n + length ls) → at_ext (Challenge k) ≡ get_or challenges k e.zero)
        → All (λ l. All (AgreeOnSent v (eval_tree r)) (sent l)) ls
        → All (HasInverses e) (terms_from e challenges v n ls)
        → ((j : ℕ) → j < length ls → at_ext (Permutation false (suc (n + j))) ≡ get_or (map (fraction e inv) (terms_from e challenges v n ls)) j e.zero)
        → All (λ t. eval_tree r t ≡ e.zero) (fraction_trees f n ls)
    fractions_zero challenges v n [] c h d x = λ k t lt. absurd (omega (arith, lt))
    fractions_zero challenges v n (l ∷ ls) c h d x =
        let at : suc (n + 0) ≡ n + 1 = omega arith in
        let here : at_ext (Permutation false (n + 1)) ≡ fraction e inv (lookup_terms e challenges v n l) =
        ap (λ k. at_ext (Permutation false k)) (sym at) ∙ x 0 (omega arith) in
        let P : LookupData F → Type 0 = λ k. All (AgreeOnSent v (eval_tree r)) (sent k) in
        let us = terms_from e challenges v (suc n) ls in
        All-cons (λ t. eval_tree r t ≡ e.zero) (fraction_tree f n l) (fraction_trees f (suc n) ls)
        (fraction_zero challenges v n l (c (2 * n) (omega arith)) (c (2 * n + 1) (omega arith)) (All-head P l ls h) (All-head (HasInverses e) (lookup_terms e challenges v n l) us d) here)
        (fractions_zero challenges v (suc n) ls
        (λ k lt. c k (omega (arith, lt)))
        (All-tail P l ls h)
        (All-tail (HasInverses e) (lookup_terms e challenges v n l) us d)
        (λ j lt. let e : suc (suc n + j) ≡ suc (n + suc j) = omega arith in
        ap (λ k. at_ext (Permutation false k)) e ∙ x (suc j) (omega (arith, lt))))

    pub eval_tree-sum : (m : ℕ) → eval_tree r (sum_tree f m) ≡ total e m (λ j. at_ext (Permutation false (suc j)))
    eval_tree-sum zero = H.keeps_zero
    eval_tree-sum (suc m) =
        let t = λ (j : ℕ). at_ext (Permutation false (suc j)) in
        let one : m + 1 ≡ suc m = omega arith in
        ap (λ x. e.add x (t m)) (eval_tree-sum m) ∙ total_more e L m t ∙ ap (λ k. total e k t) one

length_terms : {F E : Type 0} (e : Ring E) (challenges : List E) (v : Tree F → E) (n : ℕ) (ls : List (LookupData F)) → length (terms_from e challenges v n ls) ≡ length ls
length_terms e challenges v n [] = refl
length_terms e challenges v n (l ∷ ls) = ap suc (length_terms e challenges v (suc n) ls)

pub length_fractions : {F E : Type 0} (p : Argument F E) (i : ℕ) → length (row_fractions p i) ≡ length p.lookups
length_fractions p i = length-map (row_terms p i) (fraction p.ring p.inv) ∙ length_terms p.ring p.challenges (p.value i) 0 p.lookups

module _ {F E : Type 0} (f : Ring F) (embed : F → E) (p : Argument F E) (L : RingLaws p.ring) (W : FieldLaws p.ring p.inv) (H : RingHom f p.ring embed) where
  -- the running sum one row on
  running_next : (i : ℕ) → running_sum p (i + 1) ≡ p.ring.add (running_sum p i) (sum_of p.ring (row_fractions p i))
  running_next i = sym (total_more p.ring L i (λ k. sum_of p.ring (row_fractions p k)))

  module _ (n : ℕ) (at : ℕ → Cell → E) (at_ext : ℕ → ExtCell → E) (R : AreHonestRows embed p n at at_ext) (i : ℕ) (within : i < n) where
    abbrev value : Tree F → E
    value t = eval_tree (reading_with p.ring embed (at i) (at_ext i)) t

    row_sum : value (sum_tree f (length p.lookups)) ≡ sum_of p.ring (row_fractions p i)
    row_sum =
        let m = length p.lookups in
        let fs = row_fractions p i in
        eval_tree-sum f p.ring L p.inv W embed H (at i) (at_ext i) m
        ∙ total_same p.ring L m (λ j. at_ext i (Permutation false (suc j))) (λ j. get_or fs j p.ring.zero)
        (λ j lt. (R.honest i within).current (suc j) (omega (arith, lt)))
        ∙ ap (λ k. total p.ring k (λ j. get_or fs j p.ring.zero)) (sym (length_fractions p i))
        ∙ sym (sum_is_total p.ring L fs)

    here : at_ext i (Permutation false 0) ≡ running_sum p i
    here = (R.honest i within).current 0 (omega arith)

    first_zero : p.ring.mul (at i FirstRow) (at_ext i (Permutation false 0)) ≡ p.ring.zero
    first_zero = elim (cases_lt 0 i) [
      | inl pos ↦ ap (λ x. p.ring.mul x (at_ext i (Permutation false 0))) (R.selectors.first i pos within) ∙ zero_mul p.ring L (at_ext i (Permutation false 0))
      | inr not ↦
          let e : i ≡ 0 = omega (arith, not) in
          ap (p.ring.mul (at i FirstRow)) (here ∙ ap (running_sum p) e) ∙ mul_zero p.ring L (at i FirstRow)
    ]

    -- a difference that the row's fractions make up
    step_zero : (x : E) → x ≡ running_sum p (i + 1) → p.ring.zero ≡ p.ring.zero → sub p.ring (sub p.ring x (at_ext i (Permutation false 0))) (value (sum_tree f (length p.lookups))) ≡ p.ring.zero
    step_zero x h z =
        ap (λ s. sub p.ring (sub p.ring x s) (value (sum_tree f (length p.lookups)))) here
        ∙ ap (sub p.ring (sub p.ring x (running_sum p i))) row_sum
        ∙ sub_both f p.ring L p.inv W embed H x (running_sum p i) (sum_of p.ring (row_fractions p i)) (h ∙ running_next i)

    transition_zero : p.ring.mul (at i Transition) (sub p.ring (sub p.ring (at_ext i (Permutation true 0)) (at_ext i (Permutation false 0))) (value (sum_tree f (length p.lookups)))) ≡ p.ring.zero
    transition_zero = elim (cases_lt (i + 1) n) [
      | inl more ↦
          let m : (i + 1) % n ≡ i + 1 = mod-eq_of_lt more in
          ap (p.ring.mul (at i Transition)) (step_zero (at_ext i (Permutation true 0)) ((R.honest i within).next 0 (omega arith) ∙ ap (running_sum p) m) refl)
          ∙ mul_zero p.ring L (at i Transition)
      | inr not ↦
          let e : i + 1 ≡ n = omega (arith, not, within) in
          let rest = sub p.ring (sub p.ring (at_ext i (Permutation true 0)) (at_ext i (Permutation false 0))) (value (sum_tree f (length p.lookups))) in
          ap (λ x. p.ring.mul x rest) (R.selectors.transition i e) ∙ zero_mul p.ring L rest
    ]

    last_zero : p.ring.mul (at i LastRow) (sub p.ring (sub p.ring (at_ext i Terminal) (at_ext i (Permutation false 0))) (value (sum_tree f (length p.lookups)))) ≡ p.ring.zero
    last_zero = elim (cases_lt (i + 1) n) [
      | inl more ↦
          let rest = sub p.ring (sub p.ring (at_ext i Terminal) (at_ext i (Permutation false 0))) (value (sum_tree f (length p.lookups))) in
          ap (λ x. p.ring.mul x rest) (R.selectors.last i more) ∙ zero_mul p.ring L rest
      | inr not ↦
          let e : n ≡ i + 1 = omega (arith, not, within) in
          ap (p.ring.mul (at i LastRow)) (step_zero (at_ext i Terminal) ((R.honest i within).terminal ∙ ap (running_sum p) e) refl)
          ∙ mul_zero p.ring L (at i LastRow)
    ]

  -- each constraint of the lookups is zero in each row, where no denominator is
  pub trees_vanish : (n : ℕ) (at : ℕ → Cell → E) (at_ext : ℕ → ExtCell → E) → AreHonestRows embed p n at at_ext → (i : ℕ) → i < n → RowHasInverses p i
      → All (λ t. eval_tree (reading_with p.ring embed (at i) (at_ext i)) t ≡ p.ring.zero) (lookup_trees f p.lookups)
  trees_vanish n at at_ext R i within d = all_of p.lookups refl
    where
      Z : Tree F → Type 0
      Z t = eval_tree (reading_with p.ring embed (at i) (at_ext i)) t ≡ p.ring.zero

      fractions : All Z (fraction_trees f 0 p.lookups)
      fractions = fractions_zero f p.ring L p.inv W embed H (at i) (at_ext i) p.challenges (p.value i) 0 p.lookups
          (λ k lt. (R.honest i within).challenge k (omega (arith, lt)))
          (R.agrees i within) d
          (λ j lt. let e : suc (0 + j) ≡ suc j = omega arith in
          ap (λ k. at_ext i (Permutation false k)) e ∙ (R.honest i within).current (suc j) (omega (arith, lt)))

      running : All Z (running_trees f (length p.lookups))
      running =
          let m = length p.lookups in
          All-cons Z first_tree (transition_tree f m ∷ last_tree f m ∷ []) (first_zero n at at_ext R i within)
          (All-cons Z (transition_tree f m) (last_tree f m ∷ []) (transition_zero n at at_ext R i within)
          (All-cons Z (last_tree f m) [] (last_zero n at at_ext R i within) (λ k t lt. absurd (omega (arith, lt)))))

      all_of : (ls : List (LookupData F)) → ls ≡ p.lookups → All Z (lookup_trees f ls)
      all_of [] e = λ k t lt. absurd (omega (arith, lt))
      all_of (l ∷ ls) e =
          let P : List (LookupData F) → Type 0 = λ k. All Z (fraction_trees f 0 k ++ running_trees f (length k)) in
          subst P (sym e) (All-append Z (fraction_trees f 0 p.lookups) (running_trees f (length p.lookups)) fractions running)
