-- Constraints with one transition factor at most fit the chunks of their quotient, those of any lookups among them, where no column is periodic.
use Rattle.std.proofs.Common.{◌≡◌, ℕ, zero, suc, ◌+◌, ◌^◌, ◌<◌, ◌≤◌, cond, false, max, List, [], ◌∷◌, ◌++◌, length, get_or, ap, arith}
use Rattle.std.specs.Prelude.{All}
use Rattle.std.proofs.lemmas.List.Elements.{All-append, All-cons, All-head, All-nil, All-tail}
use Rattle.std.proofs.lemmas.Nat.{pow_pos}
use Rattle.p3_field.specs.Ring.{Ring}
use Rattle.air_core.specs.declared.cells.Cell.{Cell}
use Rattle.air_core.specs.declared.cells.Cell.TheVariants.{Main, Preprocessed, Periodic, Public, FirstRow, LastRow, Transition}
use Rattle.air_core.specs.Shape.{Declares, IsSendable, ReadsIn, Shape, declared_shape}
use Rattle.air_core.specs.Tree.{Tree, constant, cell, ext_cell, sum, difference, product}
use Rattle.p3_lookup.specs.Lookup.{IsLookup, LookupData}
use Rattle.p3_lookup.specs.Trees.{first_tree, fraction_tree, fraction_trees, last_tree, lookup_trees, running_trees, sum_tree, transition_tree}
use Rattle.batch_config.specs.Setting.{Setting, masks}
use Rattle.batch_constraints.specs.BatchTrees.{AreLookupsOf}
use Rattle.batch_constraints.specs.Fitting.{cell_transitions, transition_factors}
use Rattle.batch_constraints.specs.Laws.Fits.{table_fits_chunks}
use Rattle.batch_constraints.specs.Laws.TreesRead.{fraction_reads}
use Rattle.batch_constraints.specs.Sizing.{constraint_degree, log_chunks, periods_of, with_hint}
use Rattle.law_valid.specs.Traced.{TracedTable, constraints, declared, log_parts, log_rows}
use Rattle.law_valid.specs.Valid.{AllFit}

-- a tree has at most one transition factor
abbrev pub HasFewFactors : {F : Type 0} → Tree F → Type 0
HasFewFactors tree = transition_factors tree < 2

-- one that reads no transition selector has none
pub no_factors : {F : Type 0} (tree : Tree F) → ReadsIn (λ c. cell_transitions c ≡ 0) (λ _. Unit {0}) tree → transition_factors tree ≡ 0
no_factors (constant x) h = omega arith
no_factors (cell c) h = h
no_factors (ext_cell c) h = omega arith
no_factors (sum x y) h = let a = no_factors x h.0 in let b = no_factors y h.1 in omega (arith, a, b)
no_factors (difference x y) h = let a = no_factors x h.0 in let b = no_factors y h.1 in omega (arith, a, b)
no_factors (product x y) h = let a = no_factors x h.0 in let b = no_factors y h.1 in omega (arith, a, b)

module _ {F : Type 0} (r : Ring F) (s : Shape) where
  -- what may be sent isn't a selector
  sent_none : (c : Cell) → Declares s c × IsSendable c → cell_transitions c ≡ 0
  sent_none (Main next column) h = omega arith
  sent_none (Preprocessed next column) h = omega arith
  sent_none (Periodic k) h = omega arith
  sent_none (Public k) h = omega arith
  sent_none FirstRow h = omega arith
  sent_none LastRow h = omega arith
  sent_none Transition h = absurd h.1

  one_few : (n : ℕ) (l : LookupData F) → IsLookup s l → HasFewFactors (fraction_tree r n l)
  one_few n l h =
      let none = no_factors (fraction_tree r n l) (fraction_reads r s (λ c. cell_transitions c ≡ 0) (λ _. Unit {0}) sent_none n l tt tt tt h) in
      omega (arith, none)

  fractions_few : (n : ℕ) (ls : List (LookupData F)) → All (IsLookup s) ls → All HasFewFactors (fraction_trees r n ls)
  fractions_few n [] h = All-nil HasFewFactors
  fractions_few n (l ∷ ls) h =
      All-cons HasFewFactors (fraction_tree r n l) (fraction_trees r (suc n) ls) (one_few n l (All-head (IsLookup s) l ls h))
      (fractions_few (suc n) ls (All-tail (IsLookup s) l ls h))

  sum_none : (n : ℕ) → transition_factors (sum_tree r n) ≡ 0
  sum_none zero = omega arith
  sum_none (suc n) = let e = sum_none n in omega (arith, e)

  running_few : (n : ℕ) → All HasFewFactors (running_trees r n)
  running_few n =
      let e = sum_none n in
      All-cons HasFewFactors first_tree (transition_tree r n ∷ last_tree r n ∷ []) (omega arith)
      (All-cons HasFewFactors (transition_tree r n) (last_tree r n ∷ []) (omega (arith, e))
      (All-cons HasFewFactors (last_tree r n) [] (omega (arith, e)) (All-nil HasFewFactors)))

  lookups_few : (ls : List (LookupData F)) → All (IsLookup s) ls → All HasFewFactors (lookup_trees r ls)
  lookups_few [] h = All-nil HasFewFactors
  lookups_few (l ∷ ls) h =
      All-append HasFewFactors (fraction_trees r 0 (l ∷ ls)) (running_trees r (length (l ∷ ls))) (fractions_few 0 (l ∷ ls) h) (running_few (length (l ∷ ls)))

module _ {S F E C : Type 0} (c : Setting S F E C) (plain : c.zk ≡ false) (t : TracedTable F) where
  -- so all constraints of a table fit, where its AIR's have few factors
  pub few_factors_fit : All HasFewFactors t.table.trees → AreLookupsOf (declared t) t.lookups → (declared t).periodic ≡ [] → AllFit c t
  few_factors_fit few lookups whole =
      let d = declared t in
      let n = 2 ^ log_rows c t in
      let unmasked : masks c ≡ 0 = ap (λ z. cond z 1 0) plain in
      let degree = with_hint d (constraint_degree n (periods_of d) (constraints c t)) in
      let parts : log_parts c t ≡ log_chunks (masks c) degree = omega (arith, unmasked) in
      let all : All HasFewFactors (constraints c t) =
      All-append HasFewFactors t.table.trees (lookup_trees c.field.ring t.lookups) few (lookups_few c.field.ring (declared_shape d) t.lookups lookups) in
      λ i tree l.
      table_fits_chunks d (constraints c t) n (masks c) (log_parts c t) whole parts n (pow_pos (log_rows c t)) i tree l
      (let one : transition_factors (get_or (constraints c t) i tree) < 2 = all i tree l in omega (arith, one))
