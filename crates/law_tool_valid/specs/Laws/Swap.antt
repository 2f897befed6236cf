-- A swap table's traces meet its constraints.
use Rattle.std.proofs.Common.{◌≡◌, ◌⊎◌, ℕ, zero, suc, ◌+◌, ◌%◌, ◌^◌, ◌<◌, ◌≤◌, inl, inr, Bool, true, false, not, cond, [], ◌∷◌, get_or, map, refl, sym, ◌∙◌, ap, arith}
use Rattle.std.specs.Prelude.{◌==◌}
use Rattle.std.proofs.Math.Nat.{mod-eq_of_lt}
use Rattle.std.proofs.lemmas.Bool.{cases_eq, eq-eqb, ne_eqb}
use Rattle.p3_field.specs.Ring.{sub}
use Rattle.p3_field.specs.Field.{TwoAdic, Extension}
use Rattle.p3_field.specs.Laws.Algebra.{mul_zero, zero_mul}
use Rattle.p3_field.specs.Laws.Coset.{double_power}
use Rattle.p3_field.specs.Laws.Roots.{sub_self}
use Rattle.p3_matrix.specs.Matrix.{height, row_at}
use Rattle.air_core.specs.Check.{TableTraces as Traces}
use Rattle.air_core.specs.declared.cells.Cell.{Cell}
use Rattle.air_core.specs.declared.cells.Cell.TheVariants.{Main, Public, FirstRow, LastRow, Transition}
use Rattle.air_core.specs.CellValues.{CellValues, cell_in}
use Rattle.air_core.specs.Tree.{eval_tree}
use Rattle.air_tables.specs.Swap.{equal_when, swap_trees}
use Rattle.law_committed.specs.Committed.{CommittedTable, Holds, row, row_point, committed_values_at}
use Rattle.law_committed.specs.Fields.{FieldsLaws}
use Rattle.law_committed.specs.Rows.{AreOfRow, CommitsTo, row_of_traces}
use Rattle.law_committed.specs.Traces.{HaveTraceRows, committed_traces}
use Rattle.law_committed.specs.Laws.Rows.{reads_rows}
use Rattle.law_committed.specs.Laws.Traces.{traces_committed}
use Rattle.law_valid.specs.Traced.{no_rows, traces_of}
use Rattle.law_tool_valid.specs.Job.{swap_of, last_right, swap_row, traced_job}
use Rattle.law_tool_valid.specs.Laws.Traced.{swap_row_is, swap_rows}

-- the rows swap in turn
flips : (i : ℕ) → ((i + 1) % 2 == 0) ≡ not (i % 2 == 0)
flips i = elim (cases_eq (i % 2) 0) [
  | inl z ↦ let o : (i + 1) % 2 ≡ 1 = omega (arith, z) in ap (λ m. m == 0) o ∙ ap (λ m. not (m == 0)) (sym z)
  | inr n ↦
      let o : i % 2 ≡ 1 = omega (arith, n) in
      let z : (i + 1) % 2 ≡ 0 = omega (arith, o) in
      ap (λ m. m == 0) z ∙ ap (λ m. not (m == 0)) (sym o)
]

flipped : {A : Type 0} (p q : Bool) (a b : A) → p ≡ not q → cond p a b ≡ cond q b a
flipped p true a b e = ap (λ x. cond x a b) e
flipped p false a b e = ap (λ x. cond x a b) e

-- the last of 2^k rows is even only where it is the one row
last_parity : (k i : ℕ) → i + 1 ≡ 2 ^ k → (i % 2 == 0) ≡ (k == 0)
last_parity zero i e =
    let none : i ≡ 0 = omega (arith, e) in
    ap (λ j. j % 2 == 0) none
last_parity (suc k) i e =
    let d = double_power k in
    let odd : i % 2 ≡ 1 = omega (arith, e, d) in
    ap (λ m. m == 0) odd ∙ sym (ne_eqb (suc k) 0 (λ z. absurd (omega (arith, z))))

-- a cell of an embedded row
left_of : {F E : Type 0} (embed : F → E) (z : E) (p : Bool) (a b : F) → get_or (map embed (cond p (a ∷ b ∷ []) (b ∷ a ∷ []))) 0 z ≡ embed (cond p a b)
left_of embed z true a b = refl
left_of embed z false a b = refl

right_of : {F E : Type 0} (embed : F → E) (z : E) (p : Bool) (a b : F) → get_or (map embed (cond p (a ∷ b ∷ []) (b ∷ a ∷ []))) 1 z ≡ embed (cond p b a)
right_of embed z true a b = refl
right_of embed z false a b = refl

module _ {F E : Type 0} (f : TwoAdic F) (e : Extension F E) (top : ℕ) (inverse : E → E) (L : FieldsLaws f e top inverse) (k : ℕ) (low : k ≤ top) (a b : F) where
  abbrev traces : Traces F
  traces = traces_of (traced_job f.ring (swap_of k a b))

  abbrev t : CommittedTable F E
  t = committed_traces f e traces no_rows [] [] k

  abbrev v : ℕ → CellValues E
  v i = committed_values_at f e t (row_point f e t i)

  abbrev at : ℕ → Cell → E
  at i c = cell_in e.ring.zero (v i) c

  abbrev even : ℕ → Bool
  even i = i % 2 == 0

  rows : HaveTraceRows {E = E} (2 ^ k) traces no_rows
  rows = swap_rows f.ring k a b

  commits : CommitsTo f e t traces no_rows
  commits = traces_committed f e top inverse L k low traces no_rows [] [] rows

  reads : (i : ℕ) → i < 2 ^ k → AreOfRow e (row_of_traces f.ring.zero traces no_rows [] [] i) (v i)
  reads i h = reads_rows f e top inverse L t low traces no_rows commits i h

  local_row : (i : ℕ) → i < 2 ^ k → (v i).main_local ≡ map e.embed (swap_row a b i)
  local_row i h = (reads i h).main_local ∙ ap (map e.embed) (swap_row_is f.ring k a b i h)

  next_row : (i : ℕ) → i < 2 ^ k → i + 1 < 2 ^ k → (v i).main_next ≡ map e.embed (swap_row a b (i + 1))
  next_row i h l =
      (reads i h).main_next
      ∙ ap (map e.embed) (ap (λ n. row_at traces.main ((i + 1) % n)) rows.tall ∙ (ap (row_at traces.main) (mod-eq_of_lt l) ∙ swap_row_is f.ring k a b (i + 1) l))

  left_at : (i : ℕ) → i < 2 ^ k → at i (Main false 0) ≡ e.embed (cond (even i) a b)
  left_at i h = ap (λ l. get_or l 0 e.ring.zero) (local_row i h) ∙ left_of e.embed e.ring.zero (even i) a b

  right_at : (i : ℕ) → i < 2 ^ k → at i (Main false 1) ≡ e.embed (cond (even i) b a)
  right_at i h = ap (λ l. get_or l 1 e.ring.zero) (local_row i h) ∙ right_of e.embed e.ring.zero (even i) a b

  left_after : (i : ℕ) → i < 2 ^ k → i + 1 < 2 ^ k → at i (Main true 0) ≡ at i (Main false 1)
  left_after i h l =
      ap (λ l. get_or l 0 e.ring.zero) (next_row i h l)
      ∙ (left_of e.embed e.ring.zero (even (i + 1)) a b ∙ (ap e.embed (flipped (even (i + 1)) (even i) a b (flips i)) ∙ sym (right_at i h)))

  right_after : (i : ℕ) → i < 2 ^ k → i + 1 < 2 ^ k → at i (Main true 1) ≡ at i (Main false 0)
  right_after i h l =
      ap (λ l. get_or l 1 e.ring.zero) (next_row i h l)
      ∙ (right_of e.embed e.ring.zero (even (i + 1)) a b ∙ (ap e.embed (flipped (even (i + 1)) (even i) b a (flips i)) ∙ sym (left_at i h)))

  public_at : (i j : ℕ) → i < 2 ^ k → at i (Public j) ≡ get_or (map e.embed (a ∷ b ∷ last_right k a b ∷ [])) j e.ring.zero
  public_at i j h = ap (λ l. get_or l j e.ring.zero) (reads i h).public_values

  first_zero : (i : ℕ) → suc i < 2 ^ k → at (suc i) FirstRow ≡ e.ring.zero
  first_zero i h = (reads (suc i) h).first_row.1 (ne_eqb (suc i) 0 (λ z. absurd (omega (arith, z))))

  transition_zero : (i : ℕ) → i < 2 ^ k → i + 1 ≡ 2 ^ k → at i Transition ≡ e.ring.zero
  transition_zero i h l = (reads i h).transition.1 (eq-eqb (i + 1) (height traces.main) (l ∙ sym rows.tall))

  last_zero : (i : ℕ) → i < 2 ^ k → (i + 1 ≡ 2 ^ k → ⊥) → at i LastRow ≡ e.ring.zero
  last_zero i h n = (reads i h).last_row.1 (ne_eqb (i + 1) (height traces.main) (λ q. n (q ∙ rows.tall)))

  -- an equation where the selector isn't zero
  equal_zero : (i : ℕ) (c y z : Cell) → (at i c ≡ e.ring.zero) ⊎ (at i y ≡ at i z) → eval_tree (row f e t i) (equal_when c y z) ≡ e.ring.zero
  equal_zero i c y z (inl w) = ap (λ u. e.ring.mul u (sub e.ring (at i y) (at i z))) w ∙ zero_mul e.ring L.above (sub e.ring (at i y) (at i z))
  equal_zero i c y z (inr w) = ap (e.ring.mul (at i c)) (sub_self e.ring L.above (at i y) (at i z) w) ∙ mul_zero e.ring L.above (at i c)

  pub swap_holds : Holds f e t swap_trees
  swap_holds zero h zero d l = equal_zero zero FirstRow (Main false 0) (Public 0) (inr (left_at zero h ∙ sym (public_at zero 0 h)))
  swap_holds (suc i) h zero d l = equal_zero (suc i) FirstRow (Main false 0) (Public 0) (inl (first_zero i h))
  swap_holds zero h (suc zero) d l = equal_zero zero FirstRow (Main false 1) (Public 1) (inr (right_at zero h ∙ sym (public_at zero 1 h)))
  swap_holds (suc i) h (suc zero) d l = equal_zero (suc i) FirstRow (Main false 1) (Public 1) (inl (first_zero i h))
  swap_holds i h (suc (suc zero)) d l = equal_zero i Transition (Main true 0) (Main false 1) (elim (cases_eq (i + 1) (2 ^ k)) [
    | inl w ↦ inl (transition_zero i h w)
    | inr w ↦ inr (left_after i h (omega (arith, h, w)))
  ])
  swap_holds i h (suc (suc (suc zero))) d l = equal_zero i Transition (Main true 1) (Main false 0) (elim (cases_eq (i + 1) (2 ^ k)) [
    | inl w ↦ inl (transition_zero i h w)
    | inr w ↦ inr (right_after i h (omega (arith, h, w)))
  ])
  swap_holds i h (suc (suc (suc (suc zero)))) d l = equal_zero i LastRow (Main false 1) (Public 2) (elim (cases_eq (i + 1) (2 ^ k)) [
    | inl w ↦ inr (right_at i h ∙ (ap (λ p. e.embed (cond p b a)) (last_parity k i w) ∙ sym (public_at i 2 h)))
    | inr w ↦ inl (last_zero i h w)
  ])
  swap_holds i h (suc (suc (suc (suc (suc j))))) d l = absurd (omega (arith, l))
