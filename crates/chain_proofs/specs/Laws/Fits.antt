-- A chain's constraints have degree three and one transition factor at most: they fit two chunks, and their quotient has two.
use Rattle.std.proofs.Common.{◌≡◌, ℕ, ◌+◌, ◌*◌, ◌<◌, ◌≤◌, max, List, [], ◌++◌, get_or, map, refl, arith}
use Rattle.std.specs.Prelude.{All}
use Rattle.std.proofs.lemmas.List.Elements.{All-append, All-map, All-nil}
use Rattle.p3_field.specs.Ring.{Ring}
use Rattle.air_core.specs.declared.cells.Cell.{Cell}
use Rattle.air_core.specs.declared.cells.Cell.TheVariants.{FirstRow, LastRow}
use Rattle.air_core.specs.Degree.{multiple}
use Rattle.air_core.specs.Laws.Greatest.{greatest_below}
use Rattle.air_core.specs.Laws.Lists.{all_joined, all_tabulate}
use Rattle.air_core.specs.Tree.{Tree}
use Rattle.blake3_prime.specs.Laws.Reads.{reads_all}
use Rattle.blake3_prime.specs.Trees.{blake3_trees, from_column, packed_limbs}
use Rattle.batch_constraints.specs.BatchTrees.{table_trees}
use Rattle.batch_constraints.specs.Fitting.{FitsChunks, cell_transitions, transition_factors}
use Rattle.batch_constraints.specs.Laws.Fits.{few_transitions_fit}
use Rattle.batch_constraints.specs.Sizing.{largest_multiple, log_chunks}
use Rattle.chain_air.specs.Laws.Declared.{chain_degree, reads_limb}
use Rattle.chain_air.specs.Trees.{chain_trees, edge_trees, limb_tree, link_tree, link_trees, linking_trees, public_word_trees}
use Rattle.law_tool_valid.specs.Laws.Compressions.{none_counted, two_chunks}

module _ {F : Type 0} (r : Ring F) where
  abbrev Few : Tree F → Type 0
  Few tree = transition_factors tree < 3

  compressions_few : All Few (blake3_trees r)
  compressions_few k d l =
      let none = none_counted cell_transitions (get_or (blake3_trees r) k d) (reads_all r (λ c. cell_transitions c ≡ 0) (λ c. ⊥) (λ j lt. refl) k d l) in
      omega (arith, none)

  links_few : All Few link_trees
  unfolding link_trees
  links_few = all_tabulate Few 256 link_tree (λ i lt. omega arith)

  edge_few : (selector : Cell) (column public : ℕ) → column + 256 ≤ 9168 → cell_transitions selector ≤ 1 → All Few (edge_trees r selector column public)
  unfolding edge_trees public_word_trees
  edge_few selector column public h s =
      all_joined Few 8 (λ w. public_word_trees r selector (column + 32 * w) (public + 2 * w)) (λ w lw.
      all_tabulate Few 2 (limb_tree r selector (column + 32 * w) (public + 2 * w)) (λ k lk.
      let none = none_counted cell_transitions (packed_limbs r (from_column (column + 32 * w)) k) (reads_limb r (λ c. cell_transitions c ≡ 0) (λ c. ⊥) (λ j lt. refl) (column + 32 * w) k (omega (arith, h, lw)) lk) in
      omega (arith, none, s)))

  chain_few : All Few (chain_trees r)
  unfolding chain_trees linking_trees
  chain_few =
      All-append Few (blake3_trees r) (link_trees ++ edge_trees r FirstRow 512 0 ++ edge_trees r LastRow 8656 16) compressions_few
      (All-append Few (link_trees ++ edge_trees r FirstRow 512 0) (edge_trees r LastRow 8656 16)
      (All-append Few link_trees (edge_trees r FirstRow 512 0) links_few (edge_few FirstRow 512 0 (omega arith) (omega arith)))
      (edge_few LastRow 8656 16 (omega arith) (omega arith)))

  -- the AIR's constraints are all of them
  abbrev pub all_trees : List (Tree F)
  all_trees = table_trees r (chain_trees r) []

  of_all : (P : Tree F → Type 0) → All P (chain_trees r) → All P all_trees
  of_all P h = All-append P (chain_trees r) [] h (All-nil P)

  -- the quotient has two chunks
  pub chain_chunks : log_chunks 0 (max (largest_multiple 0 all_trees) 3) ≡ 1
  chain_chunks =
      two_chunks (largest_multiple 0 all_trees)
      (greatest_below 0 (map (multiple 0) all_trees) 3 (omega arith)
      (All-map (λ m. m ≤ 3) (multiple 0) all_trees (of_all (λ tree. multiple 0 tree ≤ 3) (chain_degree r 0 (omega arith)))))

  -- and the constraints fit from two chunks on
  pub chain_fit : (n c : ℕ) → 0 < n → 2 ≤ c → All (FitsChunks n [] c) all_trees
  chain_fit n c pos two = of_all (FitsChunks n [] c) (λ i d l.
      let tree = get_or (chain_trees r) i d in
      few_transitions_fit n 3 c tree pos (chain_degree r 0 (omega arith) i d l) (let f = chain_few i d l in omega (arith, f)) (omega (arith, two)))
