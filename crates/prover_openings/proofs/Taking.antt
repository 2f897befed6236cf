-- The values of an honest proof's rounds, taken apart table by table, are its opened values.
use Rattle.std.proofs.Common.{◌≡◌, ℕ, zero, suc, ◌+◌, ◌^◌, ◌<◌, Bool, true, cond, List, [], ◌∷◌, ◌++◌, length, get_or, map, Option, None, Some, refl, sym, ◌∙◌, ap, subst, arith, length-append}
use Rattle.std.specs.Prelude.{option_map, option_to_list}
use Rattle.std.specs.List.{flat_map}
use Rattle.std.proofs.lemmas.List.{get_or-map, length-map}
use Rattle.p3_field.specs.Laws.SubgroupSelectors.{map_tabulate}
use Rattle.p3_field.specs.Laws.Tabulate.{get_or-tabulate, length-tabulate, tabulate_same}
use Rattle.p3_field.specs.Poly.{tabulate, eval_poly_in}
use Rattle.p3_field.specs.Ring.{Ring}
use Rattle.p3_matrix.specs.Matrix.{Rows}
use Rattle.air_core.specs.Shape.{Declaration, HasColumns, width_of}
use Rattle.commit_core.specs.Commitments.{values_of}
use Rattle.p3_lookup.specs.Lookup.{LookupData}
use Rattle.verifier_claims.specs.Claims.{commitment_in, matrix_tables}
use Rattle.batch_statement.specs.Words.{declared_at, has_some, is_there, no_table}
use Rattle.prover_answer.specs.Batch.{Batch, IsTracedAll, log_parts_at, table_at, table_count}
use Rattle.batch_config.specs.Setting.{Setting}
use Rattle.verifier_shape.specs.ShapeChecks.{permutation_width}
use Rattle.batch_statement.specs.Proof.{OpenedWithLookups}
use Rattle.batch_statement.specs.Statement.{HasEntryOf, ListsEntries, PreprocessedTracesData, AirTable, entry_of}
use Rattle.batch_statement.specs.declared.preprocessed.PreprocessedInstanceMeta.{PreprocessedInstanceMeta}
use Rattle.law_committed.specs.Committed.{CommittedTable, columns_at}
use Rattle.law_committed.specs.Fields.{FieldsLaws}
use Rattle.law_committed.specs.Quotient.{honest_chunk}
use Rattle.law_valid.specs.Laws.Holding.{all_counted}
use Rattle.law_valid.specs.Traced.{TracedTable, constraints, declared, log_parts, quotient_shift}
use Rattle.law_valid.specs.Valid.{HasQuotientDomain, IsTraced}
use Rattle.law_honest.specs.HonestProof.{Prover, alpha, challenges_at, committed_table, committed_where, opened_of, permutation_matrices, honest_permutation_commitment, honest_quotient_commitment, honest_main_commitment, where_some, zeta}
use Rattle.law_honest.specs.Laws.Flat.{map_flat}
use Rattle.law_acceptance.specs.Rounds.{OpenedMatrix, chunk_opened, chunks, chunks_opened, honest_rounds, main_opened, mains, permutation_opened, permutations, point_after, points_with, preprocessed_opened, preprocesseds, round_of, values_in_rounds}
use Rattle.law_acceptance.specs.Laws.Lengths.{permutation_count}
use Rattle.prover_openings.specs.Rows.{first_list, rows_in, second_of, values_of_row}
use Rattle.prover_openings.specs.Taken.{RoundValues, count_below, one_where, round_values, taken_at, taken_table}
use Rattle.prover_openings.proofs.Places.{by_entries, first_item_at, item_at, one_long, one_of, one_there}

-- the rows of a matrix that is opened at zeta, and at the next point where next columns are declared
rows_with : {E : Type 0} (ns : List ℕ) (v : E → List E) (x y : E) → rows_in (map v (points_with ns x y)) ≡ record { local = v x; next = where_some ns (v y) }
rows_with [] v x y = refl
rows_with (n ∷ ns) v x y = refl

-- the opened values of a matrix
abbrev vals : {F E : Type 0} → Ring E → (F → E) → OpenedMatrix F E → List (List E)
vals r embed o = map (values_of r embed o.committed) o.points

no_item : {A : Type 0} (xs : List A) → length xs ≡ 0 → xs ≡ []
no_item [] e = refl
no_item (x ∷ xs) e = absurd (omega (arith, e))

module _ {S F E C : Type 0} (c : Setting S F E C) (p : Prover F E C) (t : TracedTable F) (challenges : List E) (folding x : E)
    (L : FieldsLaws c.field c.extension c.two_adicity p.inverse) (Q : HasQuotientDomain c t) (T : IsTraced c t) where
  abbrev k : CommittedTable F E
  k = committed_table c p t challenges

  abbrev after : E
  after = point_after c p t challenges folding x

  abbrev at : List (List F) → E → List E
  at = columns_at c.field c.extension k

  abbrev values : OpenedMatrix F E → List (List E)
  values = vals c.extension.ring c.extension.embed

  abbrev opened : OpenedWithLookups E
  opened = opened_of c p t challenges folding x

  -- the preprocessed rows, where there is an entry
  preprocessed_rows : (m : Option (Rows F)) (o : Option PreprocessedInstanceMeta) → HasColumns m → HasEntryOf (width_of m) o → (rows : List (List E)) → (is_there o ≡ true → rows ≡ values (preprocessed_opened c p t challenges folding x))
      → cond (is_there o) (Some (rows_in rows)) None ≡ option_map (λ m. record { local = at k.preprocessed x; next = where_some (declared t).preprocessed_next (at k.preprocessed after) }) m
  preprocessed_rows None None some entry rows same = refl
  preprocessed_rows None (Some o) some entry rows same = let e = entry.0 in absurd (omega (arith, e))
  preprocessed_rows (Some m) None some entry rows same = absurd (omega (arith, some, entry))
  preprocessed_rows (Some m) (Some o) some entry rows same = ap Some (ap rows_in (same refl) ∙ rows_with (declared t).preprocessed_next (at k.preprocessed) x after)

  -- the permutation rows, where there are lookups
  permutation_row : (y : E) (ls : List (LookupData F)) → length k.permutation ≡ permutation_width (length ls) c.extension.dimension → (row : List E) → (has_some ls ≡ true → row ≡ at k.permutation y) → cond (has_some ls) row [] ≡ at k.permutation y
  permutation_row y [] count row same = ap (λ ps. at ps y) (sym (no_item k.permutation count))
  permutation_row y (l ∷ ls) count row same = same refl

  -- what is taken of a table is what is opened of it
  pub table_taken : (o : Option PreprocessedInstanceMeta) → HasColumns (declared t).preprocessed → HasEntryOf (width_of (declared t).preprocessed) o
      → (main : List (List E)) (chunk : ℕ → List (List E)) (preprocessed permutation : List (List E)) → main ≡ values (main_opened c p t challenges folding x)
      → ((j : ℕ) → j < 2 ^ log_parts c t → chunk j ≡ values (chunk_opened c p t challenges folding x j)) → (is_there o ≡ true → preprocessed ≡ values (preprocessed_opened c p t challenges folding x))
      → (has_some t.lookups ≡ true → permutation ≡ at k.permutation x ∷ at k.permutation after ∷ []) → taken_table (2 ^ log_parts c t) (is_there o) (has_some t.lookups) main chunk preprocessed permutation ≡ opened
  unfolding opened_of
  table_taken o some entry main chunk preprocessed permutation e1 e2 e3 e4 =
      let m = ap rows_in e1 ∙ rows_with (declared t).main_next (at k.main) x after in
      let pre = preprocessed_rows (declared t).preprocessed o some entry preprocessed e3 in
      let count = permutation_count c p t challenges L Q T in
      let u = honest_chunk c.field c.extension k (quotient_shift c) (log_parts c t) (constraints c t) folding in
      let row = λ (gs : List (List F)). map (λ (g : List F). eval_poly_in c.extension g x) gs in
      let parts : tabulate (2 ^ log_parts c t) (λ j. first_list (chunk j)) ≡ map row (tabulate (2 ^ log_parts c t) u) =
      tabulate_same (2 ^ log_parts c t) (λ j. first_list (chunk j)) (λ j. row (u j)) (λ j h. ap first_list (e2 j h)) ∙ sym (map_tabulate row (2 ^ log_parts c t) u) in
      let local = permutation_row x t.lookups count (first_list permutation) (λ h. ap first_list (e4 h)) in
      let next = permutation_row after t.lookups count (values_of_row (second_of permutation)) (λ h. ap (λ l. values_of_row (second_of l)) (e4 h)) in
      λ i. record {
        base = record { trace_local = (m i).local; trace_next = (m i).next; preprocessed = pre i; quotient_chunks = parts i; random = None };
        permutation_local = local i;
        permutation_next = next i;
      }

-- the values of two rounds that are there, and of two that may be
four_rounds : {F E C : Type 0} (r : Ring E) (embed : F → E) (c1 c2 : C) (g : Option (PreprocessedTracesData C)) (o : Option C) (m1 m2 m3 m4 : List (OpenedMatrix F E))
    → round_values (is_there g) (values_in_rounds r embed (round_of (Some c1) m1 ++ round_of (Some c2) m2 ++ round_of (commitment_in g) m3 ++ round_of o m4))
    ≡ record { main = map (vals r embed) m1; quotient = map (vals r embed) m2; preprocessed = cond (is_there g) (map (vals r embed) m3) []; permutation = cond (is_there o) (map (vals r embed) m4) [] }
four_rounds r embed c1 c2 None None m1 m2 m3 m4 = refl
four_rounds r embed c1 c2 None (Some o) m1 m2 m3 m4 = refl
four_rounds r embed c1 c2 (Some g) None m1 m2 m3 m4 = refl
four_rounds r embed c1 c2 (Some g) (Some o) m1 m2 m3 m4 = refl

-- a piece among others: where there is one, they are not nothing
some_committed : {A C : Type 0} (f : List A → C) (xs : List A) → 0 < length xs → is_there (committed_where f xs) ≡ true
some_committed f [] h = absurd (omega (arith, h))
some_committed f (x ∷ xs) h = refl

some_items : {A : Type 0} (g : ℕ → List A) (n : ℕ) (q : ℕ → ℕ) (i : ℕ) → i < n → 0 < length (g (q i)) → 0 < length (flat_map g (tabulate n q))
some_items g zero q i l some = absurd (omega (arith, l))
some_items g (suc n) q zero l some = let e = length-append (g (q zero)) (flat_map g (tabulate n (λ k. q (suc k)))) in omega (arith, e, some)
some_items g (suc n) q (suc i) l some =
    let h = some_items g n (λ k. q (suc k)) i (omega (arith, l)) some in
    let e = length-append (g (q zero)) (flat_map g (tabulate n (λ k. q (suc k)))) in
    omega (arith, e, h)

where_some_long : {A B : Type 0} (ls : List A) (y : B) → has_some ls ≡ true → 0 < length (option_to_list (where_some ls y))
where_some_long [] y h = cc
where_some_long (l ∷ ls) y h = omega arith

where_long : {A B X : Type 0} (ls : List A) (y : B) (f : B → X) → length (map f (option_to_list (where_some ls y))) ≡ one_where (has_some ls)
where_long [] y f = refl
where_long (l ∷ ls) y f = refl

where_first : {A B X : Type 0} (ls : List A) (y : B) (f : B → X) (d : X) → has_some ls ≡ true → get_or (map f (option_to_list (where_some ls y))) 0 d ≡ f y
where_first [] y f d h = cc
where_first (l ∷ ls) y f d h = refl

one_more : (b : Bool) → b ≡ true → 0 < one_where b
one_more b h = let e : one_where b ≡ 1 = ap one_where h in omega (arith, e)

entry_there : {C : Type 0} (g : Option (PreprocessedTracesData C)) (i : ℕ) → is_there (entry_of g i) ≡ true → is_there g ≡ true
entry_there None i h = h
entry_there (Some g) i h = refl

module _ {S F E C : Type 0} (b : Batch S F E C) (L : FieldsLaws b.setting.field b.setting.extension b.setting.two_adicity b.prover.inverse) (B : IsTracedAll b)
    (columns : (i : ℕ) → i < table_count b → HasColumns (declared (table_at b i)).preprocessed) (w : Option F) (z : F) where
  abbrev n : ℕ
  n = table_count b

  abbrev places : List ℕ
  places = tabulate n (λ i. i)

  abbrev ch : ℕ → List E
  ch i = challenges_at b.setting b.prover b.statement b.traces b.degree_bits w i

  abbrev a : E
  a = alpha b.setting b.prover b.statement b.traces b.degree_bits w

  abbrev x : E
  x = zeta b.setting b.prover b.statement b.traces b.degree_bits w z

  abbrev pre : Option (PreprocessedTracesData C)
  pre = b.statement.common.preprocessed

  abbrev lookups : List (List (LookupData F))
  lookups = b.statement.common.lookups

  abbrev counts : List ℕ
  counts = tabulate n (λ i. 2 ^ log_parts_at b i)

  abbrev opened_values : OpenedMatrix F E → List (List E)
  opened_values = vals b.setting.extension.ring b.setting.extension.embed

  abbrev main_at : ℕ → OpenedMatrix F E
  main_at i = main_opened b.setting b.prover (table_at b i) (ch i) a x

  abbrev chunks_of : ℕ → List (OpenedMatrix F E)
  chunks_of i = chunks_opened b.setting b.prover (table_at b i) (ch i) a x

  abbrev preprocessed_at : ℕ → OpenedMatrix F E
  preprocessed_at i = preprocessed_opened b.setting b.prover (table_at b i) (ch i) a x

  abbrev permutation_at : ℕ → List (OpenedMatrix F E)
  permutation_at i = permutation_opened b.setting b.prover (table_at b i) (ch i) a x

  abbrev all_values : List (List (List (List E)))
  all_values = values_in_rounds b.setting.extension.ring b.setting.extension.embed (honest_rounds b.setting b.prover b.statement b.traces b.degree_bits w z)

  -- the values of each round
  abbrev each_round : RoundValues E
  each_round = record {
    main = map opened_values (mains b.setting b.prover b.statement b.traces b.degree_bits w z);
    quotient = map opened_values (chunks b.setting b.prover b.statement b.traces b.degree_bits w z);
    preprocessed = cond (is_there pre) (map opened_values (preprocesseds b.setting b.prover b.statement b.traces b.degree_bits w z)) [];
    permutation = cond (is_there (honest_permutation_commitment b.setting b.prover b.statement b.traces b.degree_bits w)) (map opened_values (permutations b.setting b.prover b.statement b.traces b.degree_bits w z)) [];
  }

  rounds_are : round_values (is_there pre) all_values ≡ each_round
  rounds_are =
      four_rounds b.setting.extension.ring b.setting.extension.embed (honest_main_commitment b.setting b.prover b.statement b.traces b.degree_bits) (honest_quotient_commitment b.setting b.prover b.statement b.traces b.degree_bits w) pre
      (honest_permutation_commitment b.setting b.prover b.statement b.traces b.degree_bits w) (mains b.setting b.prover b.statement b.traces b.degree_bits w z) (chunks b.setting b.prover b.statement b.traces b.degree_bits w z)
      (preprocesseds b.setting b.prover b.statement b.traces b.degree_bits w z) (permutations b.setting b.prover b.statement b.traces b.degree_bits w z)

  count_is : (i : ℕ) → i < n → get_or counts i 0 ≡ 2 ^ log_parts_at b i
  count_is i h = get_or-tabulate n (λ i. 2 ^ log_parts_at b i) i 0 h

  module _ (i : ℕ) (h : i < n) where
    main_there : get_or each_round.main i [] ≡ opened_values (main_at i)
    main_there = ap (λ l. get_or l i []) (map_tabulate opened_values n main_at) ∙ get_or-tabulate n (λ k. opened_values (main_at k)) i [] h

    chunk_there : (j : ℕ) → j < 2 ^ log_parts_at b i → get_or each_round.quotient (count_below (λ k. get_or counts k 0) i + j) [] ≡ opened_values (chunk_opened b.setting b.prover (table_at b i) (ch i) a x j)
    chunk_there j l =
        let g = λ (k : ℕ). map opened_values (chunks_of k) in
        let own = count_is i h in
        ap (λ l. get_or l (count_below (λ k. get_or counts k 0) i + j) []) (map_flat opened_values chunks_of places)
        ∙ (item_at g (λ k. get_or counts k 0) n i j []
        (λ k d. length-map (chunks_of k) opened_values ∙ (length-tabulate (2 ^ log_parts_at b k) (chunk_opened b.setting b.prover (table_at b k) (ch k) a x) ∙ sym (count_is k d))) h (omega (arith, l, own))
        ∙ (ap (λ l. get_or l j []) (map_tabulate opened_values (2 ^ log_parts_at b i) (chunk_opened b.setting b.prover (table_at b i) (ch i) a x))
        ∙ get_or-tabulate (2 ^ log_parts_at b i) (λ j. opened_values (chunk_opened b.setting b.prover (table_at b i) (ch i) a x j)) j [] l))

    preprocessed_there : is_there (entry_of pre i) ≡ true → get_or each_round.preprocessed (count_below (λ k. one_where (is_there (entry_of pre k))) i) [] ≡ opened_values (preprocessed_at i)
    preprocessed_there there =
        let ms = matrix_tables pre in
        let place = count_below (λ k. one_where (is_there (entry_of pre k))) i in
        let v = λ (k : ℕ). opened_values (preprocessed_at k) in
        let g = λ (k : ℕ). one_of (entry_of pre k) (v k) in
        let count = all_counted b.setting b.prover.commitment_of b.statement b.traces b.degree_bits b.prover.inverse L B in
        ap (λ c. get_or (cond c (map opened_values (preprocesseds b.setting b.prover b.statement b.traces b.degree_bits w z)) []) place []) (entry_there pre i there)
        ∙ (ap (λ l. get_or l place []) (map_tabulate opened_values (length ms) (λ m. preprocessed_at (get_or ms m 0)) ∙ by_entries pre n v B.lists.entries_long (subst (λ m. ListsEntries m pre) count B.formed.listed))
        ∙ (first_item_at g (λ k. one_where (is_there (entry_of pre k))) n i [] (λ k d. one_long (entry_of pre k) (v k)) h (one_more (is_there (entry_of pre i)) there)
        ∙ one_there (entry_of pre i) (v i) [] there))

    permutation_there : has_some (get_or lookups i []) ≡ true
        → get_or each_round.permutation (count_below (λ k. one_where (has_some (get_or lookups k []))) i) [] ≡ map (values_of b.setting.extension.ring b.setting.extension.embed (record { size = 2 ^ (table_at b i).degree_bits; polynomials = (committed_table b.setting b.prover (table_at b i) (ch i)).permutation })) (x ∷ point_after b.setting b.prover (table_at b i) (ch i) a x ∷ [])
    permutation_there there =
        let place = count_below (λ k. one_where (has_some (get_or lookups k []))) i in
        let g = λ (k : ℕ). map opened_values (permutation_at k) in
        let matrices = λ (k : ℕ). permutation_matrices b.setting b.prover (table_at b k) (ch k) in
        let some : is_there (honest_permutation_commitment b.setting b.prover b.statement b.traces b.degree_bits w) ≡ true =
        some_committed b.prover.commitment_of (flat_map matrices places) (some_items matrices n (λ k. k) i h (where_some_long (get_or lookups i []) _ there)) in
        ap (λ c. get_or (cond c (map opened_values (permutations b.setting b.prover b.statement b.traces b.degree_bits w z)) []) place []) some
        ∙ (ap (λ l. get_or l place []) (map_flat opened_values permutation_at places)
        ∙ (first_item_at g (λ k. one_where (has_some (get_or lookups k []))) n i [] (λ k d. where_long (get_or lookups k []) _ opened_values) h (one_more (has_some (get_or lookups i [])) there)
        ∙ where_first (get_or lookups i []) _ opened_values [] there))

    pub table_opened : taken_at pre lookups counts (round_values (is_there pre) all_values) i ≡ opened_of b.setting b.prover (table_at b i) (ch i) a x
    table_opened =
        let declarations = map (λ (t : AirTable F). t.declaration) b.statement.tables in
        let same : declared_at declarations i ≡ declared (table_at b i) = get_or-map (λ (t : AirTable F). t.declaration) b.statement.tables i no_table (no_table {F = F}).declaration h in
        let count = all_counted b.setting b.prover.commitment_of b.statement b.traces b.degree_bits b.prover.inverse L B in
        let entry = subst (λ (d : Declaration F). HasEntryOf (width_of d.preprocessed) (entry_of pre i)) same (B.formed.entries i (omega (arith, h, count)) (no_table {F = F}).declaration) in
        let main = get_or each_round.main i [] in
        let chunk = λ (j : ℕ). get_or each_round.quotient (count_below (λ k. get_or counts k 0) i + j) [] in
        let preprocessed = get_or each_round.preprocessed (count_below (λ k. one_where (is_there (entry_of pre k))) i) [] in
        let permutation = get_or each_round.permutation (count_below (λ k. one_where (has_some (get_or lookups k []))) i) [] in
        ap (λ r. taken_at pre lookups counts r i) rounds_are
        ∙ (ap (λ m. taken_table m (is_there (entry_of pre i)) (has_some (get_or lookups i [])) main chunk preprocessed permutation) (count_is i h)
        ∙ table_taken b.setting b.prover (table_at b i) (ch i) a x L (B.domains i h) (B.traced i h) (entry_of pre i) (columns i h) entry main chunk preprocessed permutation main_there chunk_there preprocessed_there permutation_there)

  -- so it is of all tables
  pub tables_opened : tabulate n (taken_at pre lookups counts (round_values (is_there pre) all_values)) ≡ tabulate n (λ i. opened_of b.setting b.prover (table_at b i) (ch i) a x)
  tables_opened = tabulate_same n (taken_at pre lookups counts (round_values (is_there pre) all_values)) (λ i. opened_of b.setting b.prover (table_at b i) (ch i) a x) table_opened
