-- A table of compressions: its constraints have degree three and no transition factors, so they fit two chunks, and its traces meet them.
use Rattle.std.proofs.Common.{◌≡◌, ℕ, zero, suc, ◌+◌, ◌-◌, ◌/◌, ◌%◌, ◌^◌, ◌<◌, ◌≤◌, inl, inr, max, List, [], ◌∷◌, ◌++◌, length, get_or, map, refl, sym, ◌∙◌, ap, subst, arith}
use Rattle.std.specs.Prelude.{All}
use Rattle.std.proofs.Math.ListN.{get_or-map}
use Rattle.std.proofs.lemmas.Bool.{cases_lt}
use Rattle.std.proofs.lemmas.List.{get_or-append_right, get_or_append_left}
use Rattle.std.proofs.lemmas.List.Elements.{All-append, All-map, All-nil}
use Rattle.p3_field.specs.Field.{TwoAdic, Extension}
use Rattle.p3_field.specs.Poly.{tabulate}
use Rattle.p3_field.specs.Ring.{Ring}
use Rattle.p3_field.specs.Laws.Tabulate.{get_or-tabulate, length-tabulate}
use Rattle.p3_matrix.specs.Matrix.{row_at}
use Rattle.air_core.specs.declared.cells.Cell.{Cell}
use Rattle.air_core.specs.declared.cells.ExtCell.{ExtCell}
use Rattle.air_core.specs.CellValues.{CellValues, cell_in, ext_cell_in}
use Rattle.air_core.specs.Check.{TableTraces as Traces, table_row}
use Rattle.air_core.specs.Degree.{full_degree, multiple}
use Rattle.air_core.specs.Maps.{AgreeOn, reading_over}
use Rattle.air_core.specs.RowCheck.{Row, cell_value, ext_cell_value, tree_value_at_row}
use Rattle.air_core.specs.Shape.{ReadsIn}
use Rattle.air_core.specs.Tree.{Reading, Tree, cell, constant, difference, ext_cell, eval_tree, product, sum}
use Rattle.air_core.specs.Laws.Maps.{hom_keeps, value_along}
use Rattle.blake3_compress.specs.Generated.{input_of}
use Rattle.blake3_compress.specs.TraceRow.{AreWords}
use Rattle.blake3_compress.specs.TraceRow.{trace_row as compression_row}
use Rattle.blake3_compress.specs.Laws.Cells.{length-trace_row}
use Rattle.blake3_prime.specs.Meanings.{RowMeans}
use Rattle.blake3_prime.specs.Rows.{compression_input}
use Rattle.blake3_prime.specs.Trees.{blake3_trees}
use Rattle.blake3_prime.specs.Laws.Degree.{degree_three}
use Rattle.blake3_prime.specs.Laws.Generated.{generated_row}
use Rattle.blake3_prime.specs.Laws.Reads.{reads_all}
use Rattle.batch_constraints.specs.BatchTrees.{table_trees}
use Rattle.batch_constraints.specs.Fitting.{FitsChunks, cell_transitions, transition_factors}
use Rattle.batch_constraints.specs.Sizing.{largest_multiple, log_ceil, log_chunks}
use Rattle.air_core.specs.Laws.Greatest.{greatest_below}
use Rattle.batch_constraints.specs.Laws.Fits.{few_transitions_fit}
use Rattle.law_committed.specs.Committed.{CommittedTable, Holds, reading, row_point, committed_values_at}
use Rattle.law_committed.specs.Fields.{FieldsLaws}
use Rattle.law_committed.specs.Rows.{AreOfRow, CommitsTo, row_of_traces}
use Rattle.law_committed.specs.Traces.{HaveTraceRows, committed_traces}
use Rattle.law_committed.specs.Laws.Rows.{reads_rows}
use Rattle.law_committed.specs.Laws.Traces.{traces_committed}
use Rattle.law_valid.specs.Traced.{no_rows, traces_of}
use Rattle.law_tool_valid.specs.Job.{IsHashRow, hash_of, traced_job}

-- a tree that reads only cells which count nothing counts nothing
pub none_counted : {F : Type 0} (f : Cell → ℕ) (tree : Tree F) → ReadsIn (λ c. f c ≡ 0) (λ c. ⊥) tree → full_degree f (λ c. 0) tree ≡ 0
none_counted f (constant x) h = refl
none_counted f (cell c) h = h
none_counted f (ext_cell c) h = refl
none_counted f (sum x y) h = let p = none_counted f x h.0 in let q = none_counted f y h.1 in omega (arith, p, q)
none_counted f (difference x y) h = let p = none_counted f x h.0 in let q = none_counted f y h.1 in omega (arith, p, q)
none_counted f (product x y) h = let p = none_counted f x h.0 in let q = none_counted f y h.1 in omega (arith, p, q)

-- a quotient of degree three is split into two chunks
pub ceil_two : log_ceil 2 ≡ 1
unfolding log_ceil
ceil_two = refl

pub two_chunks : (degree : ℕ) → degree ≤ 3 → log_chunks 0 (max degree 3) ≡ 1
two_chunks degree low =
    let e : max (max degree 3 + 0) 2 - 1 ≡ 2 = omega (arith, low) in
    ap log_ceil e ∙ ceil_two

module _ {F : Type 0} (r : Ring F) where
  abbrev all_trees : List (Tree F)
  all_trees = table_trees r (blake3_trees r) []

  -- the AIR's constraints are all of them
  of_all : (P : Tree F → Type 0) → All P (blake3_trees r) → All P all_trees
  of_all P h = All-append P (blake3_trees r) [] h (All-nil P)

  few_transitions : (tree : Tree F) → ReadsIn (λ c. cell_transitions c ≡ 0) (λ c. ⊥) tree → transition_factors tree < 3
  few_transitions tree h = let none = none_counted cell_transitions tree h in omega (arith, none)

  here_alone : All (ReadsIn (λ c. cell_transitions c ≡ 0) (λ c. ⊥)) (blake3_trees r)
  here_alone = reads_all r (λ c. cell_transitions c ≡ 0) (λ c. ⊥) (λ k lt. refl)

  own_fit : (n c : ℕ) → 0 < n → 2 ≤ c → All (FitsChunks n [] c) (blake3_trees r)
  own_fit n c pos two i d l =
      let tree = get_or (blake3_trees r) i d in
      few_transitions_fit n 3 c tree pos (degree_three r 0 i d l) (few_transitions tree (here_alone i d l)) (omega (arith, two))

  -- the constraints fit from two chunks on
  pub compressions_fit : (n c : ℕ) → 0 < n → 2 ≤ c → All (FitsChunks n [] c) all_trees
  compressions_fit n c pos two = of_all (FitsChunks n [] c) (own_fit n c pos two)

  -- and the quotient has two
  pub compressions_chunks : log_chunks 0 (max (largest_multiple 0 all_trees) 3) ≡ 1
  compressions_chunks =
      two_chunks (largest_multiple 0 all_trees)
      (greatest_below 0 (map (multiple 0) all_trees) 3 (omega arith)
      (All-map (λ m. m ≤ 3) (multiple 0) all_trees (of_all (λ tree. multiple 0 tree ≤ 3) (degree_three r 0))))

-- the words of a row are words: those that are given, the number of the row, that of the rows, and none
given_numbers : (inputs : List (List ℕ)) (i : ℕ) → All IsHashRow inputs → i < length inputs → (k : ℕ) → k < 24 → get_or (get_or inputs i []) k 0 < 2 ^ 32
given_numbers inputs i words h k l =
    let row = words i [] h in
    let long = row.0 in
    row.1 k 0 (omega (arith, long, l))

last_words : (i n k : ℕ) → get_or (i % 2 ^ 32 ∷ i / 2 ^ 32 % 2 ^ 32 ∷ n % 2 ^ 32 ∷ 0 ∷ []) k 0 < 2 ^ 32
last_words i n zero = omega arith
last_words i n (suc zero) = omega arith
last_words i n (suc (suc zero)) = omega arith
last_words i n (suc (suc (suc zero))) = omega arith
last_words i n (suc (suc (suc (suc k)))) = omega arith

row_has_words : (inputs : List (List ℕ)) (i : ℕ) → All IsHashRow inputs → i < length inputs → AreWords (input_of (compression_input inputs i))
row_has_words inputs i words h k l =
    let given : ℕ → ℕ = λ j. get_or (get_or inputs i []) j 0 in
    let first : List ℕ = tabulate 24 given in
    let last : List ℕ = i % 2 ^ 32 ∷ i / 2 ^ 32 % 2 ^ 32 ∷ length inputs % 2 ^ 32 ∷ 0 ∷ [] in
    let long : length first ≡ 24 = length-tabulate 24 given in
    elim (cases_lt k 24) [
      | inl below ↦
          let e : get_or (first ++ last) k 0 ≡ given k = get_or_append_left first last 0 k (omega (arith, long, below)) ∙ get_or-tabulate 24 given k 0 below in
          let small = given_numbers inputs i words h k below in
          subst (λ w. w < 2 ^ 32) (sym e) small
      | inr above ↦
          let e : get_or (first ++ last) k 0 ≡ get_or last (k - 24) 0 = get_or-append_right first last 24 k 0 long above in
          subst (λ w. w < 2 ^ 32) (sym e) (last_words i (length inputs) (k - 24))
    ]

module _ {F E : Type 0} (f : TwoAdic F) (e : Extension F E) (top : ℕ) (inverse : E → E) (L : FieldsLaws f e top inverse) (means : RowMeans f.ring)
    (inputs : List (List ℕ)) (words : All IsHashRow inputs) (k : ℕ) (low : k ≤ top) (size : length inputs ≡ 2 ^ k)
    (rows : HaveTraceRows {E = E} (2 ^ k) (traces_of (traced_job f.ring (hash_of inputs))) no_rows) where
  abbrev traces : Traces F
  traces = traces_of (traced_job f.ring (hash_of inputs))

  abbrev t : CommittedTable F E
  t = committed_traces f e traces no_rows [] [] k

  abbrev v : ℕ → CellValues E
  v i = committed_values_at f e t (row_point f e t i)

  abbrev here : ℕ → Row F F
  here i = table_row f.ring.zero traces i

  abbrev at : ℕ → Cell → F
  at i c = cell_value f.ring (here i) c

  abbrev at_ext : ℕ → ExtCell → F
  at_ext i c = ext_cell_value f.ring.zero (here i) c

  abbrev below : ℕ → Reading F F
  below i = reading_over f.ring (λ x. x) (at i) (at_ext i)

  abbrev above : ℕ → Reading F E
  above i = reading_over e.ring e.embed (cell_in e.ring.zero (v i)) (ext_cell_in e.ring.zero (v i))

  -- row i of the trace is that of its compression
  row_is : (i : ℕ) → i < 2 ^ k → row_at traces.main i ≡ compression_row f.ring (input_of (compression_input inputs i))
  row_is i h = generated_row f.ring inputs i (omega (arith, h, size))

  zero_here : (i : ℕ) → i < 2 ^ k → All (λ tree. tree_value_at_row f.ring f.ring (λ x. x) (here i) tree ≡ f.ring.zero) (blake3_trees f.ring)
  zero_here i h =
      let x = input_of (compression_input inputs i) in
      (means (here i) (ap length (row_is i h) ∙ length-trace_row f.ring x)).1 (x, row_has_words inputs i words (omega (arith, h, size)), row_is i h)

  -- a cell of the row goes into the larger field
  commits : CommitsTo f e t traces no_rows
  commits = traces_committed f e top inverse L k low traces no_rows [] [] rows

  reads : (i : ℕ) → i < 2 ^ k → AreOfRow e (row_of_traces f.ring.zero traces no_rows [] [] i) (v i)
  reads i h = reads_rows f e top inverse L t low traces no_rows commits i h

  main_cell : (i column : ℕ) → i < 2 ^ k → e.embed (get_or (row_at traces.main i) column f.ring.zero) ≡ get_or (v i).main_local column e.ring.zero
  main_cell i column h =
      sym (get_or-map e.embed (row_at traces.main i) column f.ring.zero)
      ∙ (ap (get_or (map e.embed (row_at traces.main i)) column) L.embeds.keeps_zero ∙ ap (λ l. get_or l column e.ring.zero) (sym (reads i h).main_local))

  agree : (i : ℕ) → i < 2 ^ k → All (AgreeOn (below i) (above i) e.embed) (blake3_trees f.ring)
  agree i h =
      reads_all f.ring (λ c. e.embed (at i c) ≡ cell_in e.ring.zero (v i) c) (λ c. e.embed (at_ext i c) ≡ ext_cell_in e.ring.zero (v i) c)
      (λ column lt. main_cell i column h)

  value_above : (i : ℕ) (tree : Tree F) → AgreeOn (below i) (above i) e.embed tree → e.embed (tree_value_at_row f.ring f.ring (λ x. x) (here i) tree) ≡ eval_tree (reading f e t (row_point f e t i)) tree
  value_above i tree same =
      value_along (below i) (above i) e.embed
      (hom_keeps f.ring L.below e.ring L.above e.embed L.embeds (λ x. x) (at i) (cell_in e.ring.zero (v i)) (at_ext i) (ext_cell_in e.ring.zero (v i))) tree same

  -- so its traces meet the constraints of compressions
  pub compressions_hold : Holds f e t (blake3_trees f.ring)
  compressions_hold i h j d l =
      let tree = get_or (blake3_trees f.ring) j d in
      sym (value_above i tree (agree i h j d l)) ∙ (ap e.embed (zero_here i h j d l) ∙ L.embeds.keeps_zero)
