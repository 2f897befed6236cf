-- What the constraints read, how many they are, and their degrees.
use Rattle.std.proofs.Common.{◌≡◌, ℕ, ◌+◌, ◌*◌, ◌<◌, ◌≤◌, ◌++◌, length, get_or, nat_eq, true, false, Some, sym, ◌∙◌, arith, length-append}
use Rattle.std.specs.Prelude.{All}
use Rattle.std.proofs.lemmas.Bool.{eq-eqb}
use Rattle.std.proofs.lemmas.List.Elements.{All-append}
use Rattle.std.proofs.lemmas.List.Folds.{list_any_at}
use Rattle.p3_field.specs.Ring.{Ring}
use Rattle.p3_field.specs.Laws.Tabulate.{length-tabulate, get_or-tabulate}
use Rattle.air_core.specs.declared.cells.Cell.{Cell}
use Rattle.air_core.specs.declared.cells.Cell.TheVariants.{Main, Public, FirstRow, LastRow, Transition}
use Rattle.air_core.specs.declared.cells.ExtCell.{ExtCell}
use Rattle.air_core.specs.Degree.{cell_multiple, multiple}
use Rattle.air_core.specs.Shape.{Shape, Fits, Declares, DeclaresExt, ReadsIn, ReadsDeclared, declared_shape, has}
use Rattle.air_core.specs.Tree.{Tree}
use Rattle.air_core.specs.Laws.Lists.{all_joined, all_tabulate}
use Rattle.blake3_compress.specs.Laws.Cells.{length-joined}
use Rattle.blake3_prime.specs.Trees.{from_column, packed_limbs, blake3_trees, blake3_declaration}
use Rattle.blake3_prime.specs.Laws.Count.{count_all}
use Rattle.blake3_prime.specs.Laws.Degree.{degree_three, packed_degree}
use Rattle.blake3_prime.specs.Laws.Reads.{reads_all, reads_limbs}
use Rattle.chain_air.specs.Trees.{link_tree, link_trees, limb_tree, public_word_trees, edge_trees, linking_trees, chain_trees, chain_next, chain_declaration, DeclaresChain}

-- the declared next columns are the chaining value's
pub next_within : All (λ c. c < 9168) chain_next
next_within = all_tabulate (λ c. c < 9168) 256 (λ i. 512 + i) (λ i lt. omega (arith, lt))

next_declared : (i : ℕ) → i < 256 → has chain_next (512 + i) ≡ true
next_declared i lt =
    let long = length-tabulate 256 (λ j. 512 + j) in
    list_any_at (λ m. nat_eq m (512 + i)) chain_next i 0 (omega (arith, long, lt)) (eq-eqb (get_or chain_next i 0) (512 + i) (get_or-tabulate 256 (λ j. 512 + j) i 0 lt))

-- a builder that declares the AIR's cells declares what the constraints read
pub declares_chain : (F : Type 0) (s : Shape) → Fits (declared_shape (chain_declaration {F = F})) s → DeclaresChain s
declares_chain F s h = record { main = h.main; next = λ i lt. h.main_next (512 + i) (next_declared i lt); publics = h.public }

-- and what those of compressions read
pub declares_compressions : (F : Type 0) (s : Shape) → Fits (declared_shape (chain_declaration {F = F})) s → Fits (declared_shape (blake3_declaration {F = F})) s
declares_compressions F s h = record {
  main = h.main;
  main_next = λ column no. absurd (let g : false ≡ true = no in cc);
  preprocessed = h.preprocessed;
  preprocessed_next = λ column no. absurd (let g : false ≡ true = no in cc);
  periodic = h.periodic;
  public = omega arith;
}

-- a limb of the word whose bits stand from a column on
pub reads_limb : {F : Type 0} (r : Ring F) (P : Cell → Type 0) (Q : ExtCell → Type 0) → ((k : ℕ) → k < 9168 → P (Main false k)) → (column k : ℕ) → column + 32 ≤ 9168 → k < 2
    → ReadsIn P Q (packed_limbs r (from_column column) k)
reads_limb r P Q main column k h lt = reads_limbs r P Q main (from_column column) (λ i l. main (column + i) (omega (arith, h, l))) k lt

module _ {F : Type 0} (r : Ring F) (P : Cell → Type 0) (Q : ExtCell → Type 0) (main : (k : ℕ) → k < 9168 → P (Main false k)) (next : (i : ℕ) → i < 256 → P (Main true (512 + i)))
    (publics : (k : ℕ) → k < 32 → P (Public k)) (first : P FirstRow) (last : P LastRow) (transition : P Transition) where
  abbrev R : Tree F → Type 0
  R = ReadsIn P Q

  reads_links : All R link_trees
  unfolding link_trees
  reads_links = all_tabulate R 256 link_tree (λ i lt. (transition, (next i lt, main (8656 + i) (omega (arith, lt)))))

  reads_edge : (selector : Cell) (column public : ℕ) → P selector → column + 256 ≤ 9168 → public + 16 ≤ 32 → All R (edge_trees r selector column public)
  unfolding edge_trees public_word_trees
  reads_edge selector column public s h p =
      all_joined R 8 (λ w. public_word_trees r selector (column + 32 * w) (public + 2 * w)) (λ w lw.
      all_tabulate R 2 (limb_tree r selector (column + 32 * w) (public + 2 * w)) (λ k lk.
      (s, (reads_limb r P Q main (column + 32 * w) k (omega (arith, h, lw)) lk, publics (public + 2 * w + k) (omega (arith, p, lw, lk))))))

  -- the constraints read main cells of the row, the next chaining value, public values and selectors
  pub reads_chain : All R (chain_trees r)
  unfolding chain_trees linking_trees
  reads_chain =
      All-append R (blake3_trees r) (link_trees ++ edge_trees r FirstRow 512 0 ++ edge_trees r LastRow 8656 16) (reads_all r P Q main)
      (All-append R (link_trees ++ edge_trees r FirstRow 512 0) (edge_trees r LastRow 8656 16)
      (All-append R link_trees (edge_trees r FirstRow 512 0) reads_links (reads_edge FirstRow 512 0 first (omega arith) (omega arith)))
      (reads_edge LastRow 8656 16 last (omega arith) (omega arith)))

-- so declared cells alone
pub chain_read : {F : Type 0} (r : Ring F) → All (ReadsDeclared (declared_shape (chain_declaration {F = F}))) (chain_trees r)
chain_read {F = F} r =
    let s = declared_shape (chain_declaration {F = F}) in
    reads_chain r (Declares s) (DeclaresExt s) (λ k lt. (lt, λ e. absurd (cc e))) (λ i lt. (omega (arith, lt), λ e. next_declared i lt)) (λ k lt. lt) tt tt tt

module _ {F : Type 0} (r : Ring F) where
  count_links : length (link_trees {F = F}) ≡ 256
  unfolding link_trees
  count_links = length-tabulate {A = Tree F} 256 (link_tree {F = F})

  count_word : (selector : Cell) (column public : ℕ) → length (public_word_trees r selector column public) ≡ 2
  unfolding public_word_trees
  count_word selector column public = length-tabulate 2 (limb_tree r selector column public)

  count_edge : (selector : Cell) (column public : ℕ) → length (edge_trees r selector column public) ≡ 16
  unfolding edge_trees
  count_edge selector column public =
      length-joined 8 2 (λ w. public_word_trees r selector (column + 32 * w) (public + 2 * w)) (λ w. count_word selector (column + 32 * w) (public + 2 * w))

  -- there are 9920 constraints
  pub count_chain : length (chain_trees r) ≡ 9920
  unfolding chain_trees linking_trees
  count_chain =
      let a = edge_trees r FirstRow 512 0 in
      let b = edge_trees r LastRow 8656 16 in
      omega (arith, length-append (blake3_trees r) (link_trees ++ a ++ b), length-append (link_trees ++ a) b, length-append (link_trees {F = F}) a, count_all r, count_links, count_edge FirstRow 512 0, count_edge LastRow 8656 16)

  pub chain_counted : (n : ℕ) → Some 9920 ≡ Some n → n ≡ length (chain_trees r)
  chain_counted n e = let same : 9920 ≡ n = cc e in sym same ∙ sym count_chain

module _ {F : Type 0} (r : Ring F) (n : ℕ) where
  abbrev AtMost : ℕ → Tree F → Type 0
  AtMost d t = multiple n t ≤ d

  edge_degree : (selector : Cell) (column public : ℕ) → cell_multiple n selector ≤ 1 → All (AtMost 3) (edge_trees r selector column public)
  unfolding edge_trees public_word_trees
  edge_degree selector column public s =
      all_joined (AtMost 3) 8 (λ w. public_word_trees r selector (column + 32 * w) (public + 2 * w)) (λ w lw.
      all_tabulate (AtMost 3) 2 (limb_tree r selector (column + 32 * w) (public + 2 * w)) (λ k lk.
      omega (arith, s, packed_degree r n 1 (from_column (column + 32 * w)) (16 * k) 16 (λ i. omega arith))))

  links_degree : n ≤ 2 → All (AtMost 3) link_trees
  unfolding link_trees
  links_degree h = all_tabulate (AtMost 3) 256 link_tree (λ i lt. omega (arith, h))

  -- no constraint has a degree above three, where the transition selector has degree two at most
  pub chain_degree : n ≤ 2 → All (λ t. multiple n t ≤ 3) (chain_trees r)
  unfolding chain_trees linking_trees
  chain_degree h =
      All-append (AtMost 3) (blake3_trees r) (link_trees ++ edge_trees r FirstRow 512 0 ++ edge_trees r LastRow 8656 16) (degree_three r n)
      (All-append (AtMost 3) (link_trees ++ edge_trees r FirstRow 512 0) (edge_trees r LastRow 8656 16)
      (All-append (AtMost 3) link_trees (edge_trees r FirstRow 512 0) (links_degree h) (edge_degree FirstRow 512 0 (omega arith)))
      (edge_degree LastRow 8656 16 (omega arith)))
