-- The constraints of a table with lookups read what its builder declares.
use Rattle.std.proofs.Common.{ℕ, zero, suc, false, ◌+◌, ◌*◌, ◌<◌, ◌≤◌, List, [], ◌∷◌, length, map, All, arith}
use Rattle.std.proofs.lemmas.List.Elements.{All-head, All-tail, All-cons, All-append}
use Rattle.p3_field.specs.Ring.{Ring}
use Rattle.p3_field.specs.Poly.{eval_poly}
use Rattle.air_core.specs.declared.cells.Cell.{Cell}
use Rattle.air_core.specs.declared.cells.Count.{Count}
use Rattle.air_core.specs.declared.cells.ExtCell.{ExtCell}
use Rattle.air_core.specs.declared.cells.ExtCell.TheVariants.{Permutation, Challenge}
use Rattle.air_core.specs.Laws.Maps.{reads_more}
use Rattle.air_core.specs.Shape.{Shape, Declares, DeclaresExt, IsSendable, ReadsIn, ReadsDeclared, ReadsSendable}
use Rattle.air_core.specs.Tree.{Tree}
use Rattle.p3_lookup.specs.Lookup.{LookupData, IsLookup, FitLookups, pair_up}
use Rattle.p3_lookup.specs.Term.{Term, common, numerator}
use Rattle.p3_lookup.specs.Trees.{trees, term_tree, term_trees, base_tree, beta_tree, fraction_tree, fraction_trees, sum_tree, first_tree, transition_tree, last_tree, running_trees, lookup_trees}

-- both trees of a term read such cells
record TermReads {F : Type 0} (P : Cell → Type 0) (Q : ExtCell → Type 0) (t : Term (Tree F)) : Type 0 where
  pub count : ReadsIn P Q t.count
  pub denominator : ReadsIn P Q t.denominator

-- What holds of each cell that may be sent holds of those of the base field that the fractions read.
module _ {F : Type 0} (f : Ring F) (s : Shape) (P : Cell → Type 0) (Q : ExtCell → Type 0) (sends : (c : Cell) → Declares s c × IsSendable c → P c) where
  sendable_reads : (t : Tree F) → ReadsSendable s t → ReadsIn P Q t
  sendable_reads t h = reads_more (λ c. Declares s c × IsSendable c) P (λ _. ⊥) Q sends (λ c q. absurd q) t h

  tuple_reads : (beta : Tree F) → ReadsIn P Q beta → (ts : List (Tree F)) → All (ReadsSendable s) ts → ReadsIn P Q (eval_poly (trees f) ts beta)
  tuple_reads beta b [] h = tt
  tuple_reads beta b (t ∷ ts) h =
      (sendable_reads t (All-head (ReadsSendable s) t ts h), (b, tuple_reads beta b ts (All-tail (ReadsSendable s) t ts h)))

  terms_read : (base beta : Tree F) → ReadsIn P Q base → ReadsIn P Q beta → (ts : List (List (Tree F))) (cs : List (Count (Tree F)))
      → All (All (ReadsSendable s)) ts → All (λ c. ReadsSendable s c.value) cs → All (TermReads P Q) (map (term_tree f base beta) (pair_up ts cs))
  terms_read base beta a b [] cs h k = λ i d l. absurd (omega (arith, l))
  terms_read base beta a b (t ∷ ts) [] h k = λ i d l. absurd (omega (arith, l))
  terms_read base beta a b (t ∷ ts) (c ∷ cs) h k =
      let S : List (Tree F) → Type 0 = λ u. All (ReadsSendable s) u in
      let C : Count (Tree F) → Type 0 = λ u. ReadsSendable s u.value in
      All-cons (TermReads P Q) (term_tree f base beta (record { tuple = t; count = c.value })) (map (term_tree f base beta) (pair_up ts cs))
      (record { count = sendable_reads c.value (All-head C c cs k); denominator = (a, tuple_reads beta b t (All-head S t ts h)) })
      (terms_read base beta a b ts cs (All-tail S t ts h) (All-tail C c cs k))

  common_reads : (ts : List (Term (Tree F))) → All (TermReads P Q) ts → ReadsIn P Q (common (trees f) ts)
  common_reads [] h = tt
  common_reads (t ∷ ts) h = ((All-head (TermReads P Q) t ts h).denominator, common_reads ts (All-tail (TermReads P Q) t ts h))

  numerator_reads : (ts : List (Term (Tree F))) → All (TermReads P Q) ts → ReadsIn P Q (numerator (trees f) ts)
  numerator_reads [] h = tt
  numerator_reads (t ∷ ts) h =
      let here = All-head (TermReads P Q) t ts h in
      let rest = All-tail (TermReads P Q) t ts h in
      ((here.count, common_reads ts rest), (here.denominator, numerator_reads ts rest))

  pub fraction_reads : (n : ℕ) (l : LookupData F) → Q (Permutation false (n + 1)) → Q (Challenge (2 * n)) → Q (Challenge (2 * n + 1)) → IsLookup s l → ReadsIn P Q (fraction_tree f n l)
  fraction_reads n l p a b h =
      let terms = terms_read (base_tree n) (beta_tree n) a b l.tuples l.counts h.reads.tuples h.reads.counts in
      ((p, common_reads (term_trees f n l) terms), numerator_reads (term_trees f n l) terms)

module _ {F : Type 0} (f : Ring F) (s : Shape) where
  fractions_read : (n : ℕ) (ls : List (LookupData F)) → n + length ls < s.permutation → 2 * (n + length ls) ≤ s.challenges → All (IsLookup s) ls
      → All (ReadsDeclared s) (fraction_trees f n ls)
  fractions_read n [] p q h = λ i d l. absurd (omega (arith, l))
  fractions_read n (l ∷ ls) p q h =
      All-cons (ReadsDeclared s) (fraction_tree f n l) (fraction_trees f (suc n) ls)
      (fraction_reads f s (Declares s) (DeclaresExt s) (λ c d. d.0) n l (omega (arith, p)) (omega (arith, q)) (omega (arith, q)) (All-head (IsLookup s) l ls h))
      (fractions_read (suc n) ls (omega (arith, p)) (omega (arith, q)) (All-tail (IsLookup s) l ls h))

  sum_reads : (n : ℕ) → n < s.permutation → ReadsDeclared s (sum_tree f n)
  sum_reads zero p = tt
  sum_reads (suc n) p = (sum_reads n (omega (arith, p)), p)

  running_read : (n : ℕ) → n < s.permutation → 0 < s.terminals → All (ReadsDeclared s) (running_trees f n)
  running_read n p q =
      let P : Tree F → Type 0 = ReadsDeclared s in
      let some : 0 < s.permutation = omega (arith, p) in
      let rest = sum_reads n p in
      let last : All P (last_tree f n ∷ []) = All-cons P (last_tree f n) [] (tt, ((q, some), rest)) (λ i d l. absurd (omega (arith, l))) in
      All-cons P first_tree (transition_tree f n ∷ last_tree f n ∷ []) (tt, some) (All-cons P (transition_tree f n) (last_tree f n ∷ []) (tt, ((some, some), rest)) last)

  -- the constraints of lookups read declared cells alone
  pub lookup_trees_read : (ls : List (LookupData F)) → FitLookups s ls → All (ReadsDeclared s) (lookup_trees f ls)
  lookup_trees_read [] h = λ i d l. absurd (omega (arith, l))
  lookup_trees_read (l ∷ ls) h =
      let p = h.columns (omega arith) in
      All-append (ReadsDeclared s) (fraction_trees f 0 (l ∷ ls)) (running_trees f (length (l ∷ ls)))
      (fractions_read 0 (l ∷ ls) (omega (arith, p)) (omega (arith, h.challenges)) h.lookups)
      (running_read (length (l ∷ ls)) p (h.terminal (omega arith)))
