-- What it is for the cells of a table's rows to be honest: the selectors' values, and the permutation columns of an
-- honest prover. The row after the last is the first.
use Rattle.std.specs.Prelude.{◌≡◌, ℕ, suc, ◌+◌, ◌*◌, ◌%◌, ◌<◌, true, false, length, All}
use Rattle.std.specs.Prelude.{slice_index_or as get_or}
use Rattle.p3_field.specs.Ring.{Ring, sub}
use Rattle.air_core.specs.declared.cells.Cell.{Cell}
use Rattle.air_core.specs.declared.cells.Cell.TheVariants.{FirstRow, LastRow, Transition}
use Rattle.air_core.specs.declared.cells.ExtCell.{ExtCell}
use Rattle.air_core.specs.declared.cells.ExtCell.TheVariants.{Permutation, Challenge, Terminal}
use Rattle.air_core.specs.Tree.{Tree, Reading, eval_tree}
use Rattle.p3_lookup.specs.Lookup.{Sent, sent}
use Rattle.p3_lookup.specs.Honest.{Argument, honest_cell, running_sum, RowHasInverses}
use Rattle.p3_lookup.specs.Trees.{lookup_trees}

-- trees over F read in a ring above it, with these values of the cells
abbrev pub reading_with : {F E : Type 0} → Ring E → (F → E) → (Cell → E) → (ExtCell → E) → Reading F E
reading_with e embed at at_ext = record { from = embed; add = e.add; sub = sub e; mul = e.mul; at = at; at_ext = at_ext }

-- the selectors in n rows, as far as they are zero: that of the first row in all others, that of the last in all
-- others, that of the transition in the last
pub record AreSelectors {E : Type 0} (z : E) (n : ℕ) (at : ℕ → Cell → E) : Type 0 where
  pub first : (i : ℕ) → 0 < i → i < n → at i FirstRow ≡ z
  pub last : (i : ℕ) → i + 1 < n → at i LastRow ≡ z
  pub transition : (i : ℕ) → i + 1 ≡ n → at i Transition ≡ z

-- in row i of n the cells of the extension have the honest values
pub record IsHonestRow {F E : Type 0} (p : Argument F E) (n i : ℕ) (at_ext : ExtCell → E) : Type 0 where
  pub current : (c : ℕ) → c < suc (length p.lookups) → at_ext (Permutation false c) ≡ honest_cell p i c
  pub next : (c : ℕ) → c < suc (length p.lookups) → at_ext (Permutation true c) ≡ honest_cell p ((i + 1) % n) c
  pub challenge : (k : ℕ) → k < 2 * length p.lookups → at_ext (Challenge k) ≡ get_or p.challenges k p.ring.zero
  pub terminal : at_ext Terminal ≡ running_sum p n

-- two ways to give trees a value agree on what is sent
abbrev pub AgreeOnSent : {F E : Type 0} → (Tree F → E) → (Tree F → E) → Sent (Tree F) → Type 0
AgreeOnSent v w s = All (λ t. v t ≡ w t) s.tuple × (v s.count ≡ w s.count)

-- the values are those of n rows of a table whose permutation columns are honest
pub record AreHonestRows {F E : Type 0} (embed : F → E) (p : Argument F E) (n : ℕ) (at : ℕ → Cell → E) (at_ext : ℕ → ExtCell → E) : Type 0 where
  pub selectors : AreSelectors p.ring.zero n at
  pub honest : (i : ℕ) → i < n → IsHonestRow p n i (at_ext i)
  pub agrees : (i : ℕ) → i < n → All (λ l. All (AgreeOnSent (p.value i) (eval_tree (reading_with p.ring embed (at i) (at_ext i)))) (sent l)) p.lookups

-- Where the permutation columns are honest and no denominator is zero, each constraint of the lookups is zero in each
-- row.
abbrev pub HonestColumnsVanish : {F E : Type 0} → Ring F → (F → E) → Argument F E → Type 0
HonestColumnsVanish {F = F} {E = E} f embed p =
    (n : ℕ) (at : ℕ → Cell → E) (at_ext : ℕ → ExtCell → E) → AreHonestRows embed p n at at_ext → (i : ℕ) → i < n → RowHasInverses p i
    → All (λ t. eval_tree (reading_with p.ring embed (at i) (at_ext i)) t ≡ p.ring.zero) (lookup_trees f p.lookups)
