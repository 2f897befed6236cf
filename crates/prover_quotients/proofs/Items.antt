-- One table of a batch by its items in the lists that are given.
use Rattle.std.proofs.Common.{◌≡◌, ℕ, ◌+◌, ◌*◌, ◌<◌, ◌≤◌, List, [], length, map, get_or, Option, None, sym, ◌∙◌, ap, subst, arith}
use Rattle.std.specs.Option.{option_map}
use Rattle.std.proofs.lemmas.List.{get_or-map, length-map}
use Rattle.p3_field.specs.Laws.Tabulate.{get_or-tabulate, length-tabulate}
use Rattle.p3_field.specs.Poly.{tabulate}
use Rattle.p3_matrix.specs.Matrix.{height}
use Rattle.air_core.specs.Shape.{Declaration}
use Rattle.air_core.specs.Tree.{Tree}
use Rattle.p3_lookup.specs.Written.{Written, read, read_all}
use Rattle.prover_answer.specs.Backend.{ProverBackend}
use Rattle.prover_answer.specs.Batch.{Batch, IsTracedAll, batch_of, table_at, table_count}
use Rattle.batch_config.specs.Setting.{Setting, masks}
use Rattle.batch_setup.specs.Setup.{Instance, airs_of, log_of}
use Rattle.verifier_shape.specs.Laws.Items.{item_of_map}
use Rattle.batch_statement.specs.Words.{no_table}
use Rattle.batch_statement.specs.Statement.{AirTable, WrittenCommon, entry_of, tables_of}
use Rattle.law_valid.specs.Laws.Holding.{lookups_declared}
use Rattle.law_valid.specs.Traced.{TracedTable, no_rows}
use Rattle.law_committed.specs.Fields.{FieldsLaws}
use Rattle.law_honest.specs.HonestProof.{Prover, chunk_matrices, committed_table, honest_terminal}
use Rattle.prover_quotients.specs.ProverData.{HoldsTable}
use Rattle.prover_quotients.specs.Places.{permutation_matrix_place, places_at}
use Rattle.prover_quotients.specs.Tables.{AreGiven, IsTracedTable, chunks_by, table_of_instance}

-- the item of a list that has one for each of n things, by its image
pub image_at : {X Y : Type 0} (f : X → Y) (xs : List X) (i n m : ℕ) (x : X) (d : Y) → length (map f xs) ≡ n → n ≡ m → i < m → x ≡ get_or xs i x → f x ≡ get_or (map f xs) i d
image_at f xs i n m x d long same h is = let k = length-map xs f in sym (item_of_map f xs i x d (omega (arith, k, long, same, h)) is)

-- as many tables as instances
pub many : {F A : Type 0} (declaration : A → Declaration F) (trees : A → List (Tree F)) (instances : List (Instance A F)) → length (tables_of declaration trees (airs_of instances)) ≡ length instances
many declaration trees instances = length-map (airs_of instances) (λ a. record { declaration = declaration a; trees = trees a }) ∙ length-map instances (λ i. i.air)

-- as many lists of lookups
pub lookups_long : {F A : Type 0} (declaration : A → Declaration F) (trees : A → List (Tree F)) (instances : List (Instance A F)) (lists : List (List (Written F)))
    → length (map (read_all {F = F}) lists) ≡ length (tables_of declaration trees (airs_of instances)) → length lists ≡ length instances
lookups_long {F = F} declaration trees instances lists long = sym (length-map lists (read_all {F = F})) ∙ (long ∙ many declaration trees instances)

-- a table's place among those of the permutation columns
pub place_at : {F C : Type 0} (view common : WrittenCommon F C) (seen : view ≡ common) (lists : List (List (Written F))) (same : lists ≡ view.lookups) (places : List (Option ℕ))
    → places ≡ tabulate (length lists) (permutation_matrix_place (map (read_all {F = F}) lists)) → (i n : ℕ) (x : Option ℕ) → x ≡ get_or places i x → length common.lookups ≡ n → i < n
    → x ≡ permutation_matrix_place (map (read_all {F = F}) common.lookups) i
place_at {F} {C} view common seen lists same places are i n x is long lt =
    let all : lists ≡ common.lookups = same ∙ ap (λ (w : WrittenCommon F C). w.lookups) seen in
    let inside : i < length lists = let q = ap length all in omega (arith, q, long, lt) in
    is ∙ (ap (λ l. get_or l i x) are ∙ (get_or-tabulate (length lists) (permutation_matrix_place (map (read_all {F = F}) lists)) i x inside ∙ ap (λ l. permutation_matrix_place (map (read_all {F = F}) l) i) all))

pub place_inside : {F C : Type 0} (view common : WrittenCommon F C) (seen : view ≡ common) (lists : List (List (Written F))) (same : lists ≡ view.lookups) (places : List (Option ℕ))
    → places ≡ tabulate (length lists) (permutation_matrix_place (map (read_all {F = F}) lists)) → (i n : ℕ) → length common.lookups ≡ n → i < n → i < length places
place_inside {F} {C} view common seen lists same places are i n long lt =
    let q = ap length are ∙ (length-tabulate (length lists) (permutation_matrix_place (map (read_all {F = F}) lists)) ∙ (ap length same ∙ ap (λ (w : WrittenCommon F C). length w.lookups) seen)) in
    omega (arith, q, long, lt)

module _ {S F E C A : Type 0} (c : Setting S F E C) (p : Prover F E C) (declaration : A → Declaration F) (trees : A → List (Tree F)) (instances : List (Instance A F)) (common : WrittenCommon F C) where
  abbrev b : Batch S F E C
  b = batch_of c p declaration trees instances common

  module _ (B : IsTracedAll b) (i : ℕ) (inside : i < length instances) (one : Instance A F) (is_one : one ≡ get_or instances i one)
      (view : WrittenCommon F C) (seen : view ≡ common) (lookups : List (Written F)) (is_list : lookups ≡ get_or view.lookups i lookups) where
    abbrev made : A → AirTable F
    made a = record { declaration = declaration a; trees = trees a }

    abbrev t : TracedTable F
    t = table_of_instance c declaration trees one (read_all lookups)

    below : i < table_count b
    below = let n = many declaration trees instances in omega (arith, n, inside)

    table_here : table_at b i ≡ t
    table_here =
        let in_airs : i < length (airs_of instances) = let n = length-map instances (λ i. i.air) in omega (arith, n, inside) in
        let in_lists : i < length common.lookups = let n = lookups_long declaration trees instances common.lookups B.lists.lookups_long in omega (arith, n, inside) in
        let air = item_of_map (λ (x : Instance A F). x.air) instances i one one.air inside is_one in
        let own = get_or-map made (airs_of instances) i one.air no_table in_airs ∙ ap made air in
        let reads = item_of_map (read_all {F = F}) common.lookups i lookups [] in_lists (is_list ∙ ap (λ (w : WrittenCommon F C). get_or w.lookups i lookups) seen) in
        let publics = item_of_map (λ (x : Instance A F). x.public_values) instances i one [] inside is_one in
        let trace = item_of_map (λ (x : Instance A F). x.trace) instances i one no_rows inside is_one in
        let bits = item_of_map (λ (x : Instance A F). log_of (height x.trace) + masks c) instances i one 0 inside is_one in
        λ j. record { table = own j; lookups = reads j; publics = publics j; trace = trace j; degree_bits = bits j }

    pub traced_here : FieldsLaws c.field c.extension c.two_adicity p.inverse → IsTracedTable c t
    traced_here L =
        subst (IsTracedTable c) table_here
        (record { is_traced = B.traced i below; has_domain = B.domains i below; lookups_declared = lookups_declared c p.commitment_of b.statement b.traces b.degree_bits p.inverse L B i below })

    module _ {D P R : Type 0} (k : ProverBackend S F E C D P R) (challenges : List (List E)) (terminals : List (Option E)) (preprocessed : Option D) (main : D) (permutation : Option D)
        (G : AreGiven b challenges k preprocessed main permutation terminals) (drawn : List E) (are_drawn : drawn ≡ get_or challenges i []) where
      pub pairs_here : 2 * length lookups ≤ length drawn
      pairs_here =
          let n = ap (λ (u : TracedTable F). length u.lookups) table_here ∙ length-map lookups (read {F = F}) in
          let m = ap length are_drawn in
          let g = G.pairs i below in
          omega (arith, n, m, g)

      pub terminal_here : (terminal : Option E) → terminal ≡ get_or terminals i None → terminal ≡ honest_terminal c p t drawn
      terminal_here terminal is = is ∙ (G.terminals_are i below ∙ (λ j. honest_terminal c p (table_here j) (sym are_drawn j)))

      pub held_here : (first last : Option ℕ) → first ≡ option_map (λ e. e.matrix_index) (entry_of common.preprocessed i) → last ≡ permutation_matrix_place (map (read_all {F = F}) common.lookups) i
          → HoldsTable k (record { main = i; preprocessed = first; permutation = last }) preprocessed main permutation (committed_table c p t drawn)
      held_here first last at_first at_last =
          subst (λ x. HoldsTable k (record { main = i; preprocessed = x; permutation = last }) preprocessed main permutation (committed_table c p t drawn)) (sym at_first)
          (subst (λ y. HoldsTable k (record { main = i; preprocessed = option_map (λ e. e.matrix_index) (entry_of common.preprocessed i); permutation = y }) preprocessed main permutation (committed_table c p t drawn)) (sym at_last)
          (subst (λ u. HoldsTable k (places_at b.statement.common i) preprocessed main permutation (committed_table c p u drawn)) table_here
          (subst (λ l. HoldsTable k (places_at b.statement.common i) preprocessed main permutation (committed_table c p (table_at b i) l)) (sym are_drawn) (G.held i below))))

      pub chunks_here : (alpha : E) → chunk_matrices c p t drawn alpha ≡ chunks_by b challenges alpha i
      chunks_here alpha = λ j. chunk_matrices c p (sym table_here j) (are_drawn j) alpha
