-- The prover data of a traced batch holds, at each table's places, what the table commits to.
use Rattle.std.proofs.Common.{◌≡◌, ℕ, zero, suc, ◌+◌, ◌*◌, ◌^◌, ◌<◌, Bool, true, false, cond, List, [], ◌∷◌, ◌++◌, length, map, get_or, take, Option, None, Some, refl, sym, ◌∙◌, ap, subst, arith}
use Rattle.std.specs.Prelude.{count_by, option_map, option_to_list, slice_get}
use Rattle.std.specs.List.{flat_map}
use Rattle.std.proofs.lemmas.Bool.{false≢true}
use Rattle.std.proofs.lemmas.List.{get_or-map, length-map}
use Rattle.std.proofs.lemmas.List.Sums.{sum_by-cons}
use Rattle.std.proofs.lemmas.Option.{slice_get-get_or, slice_get_within}
use Rattle.p3_field.specs.Domain.{CosetData, point}
use Rattle.p3_field.specs.Laws.Tabulate.{get_or-tabulate, length-tabulate}
use Rattle.p3_field.specs.Poly.{tabulate}
use Rattle.p3_matrix.specs.Matrix.{Rows}
use Rattle.air_core.specs.Shape.{Declaration, HasColumns, width_of}
use Rattle.commit_core.specs.Commitments.{AreCommitted, Committed, IsCommitment}
use Rattle.verifier_claims.specs.Claims.{matrix_tables}
use Rattle.batch_statement.specs.Words.{declared_at, has_some, no_table}
use Rattle.batch_config.specs.Setting.{Setting}
use Rattle.verifier_shape.specs.ShapeChecks.{permutation_width}
use Rattle.batch_statement.specs.Statement.{HasEntryOf, HasPlace, PreprocessedTracesData, Statement, AirTable, entry_of}
use Rattle.batch_statement.specs.declared.preprocessed.PreprocessedInstanceMeta.{PreprocessedInstanceMeta}
use Rattle.prover_answer.specs.Backend.{ProverBackend}
use Rattle.prover_answer.specs.Batch.{HasProverData}
use Rattle.law_valid.specs.Laws.Holding.{all_counted}
use Rattle.law_valid.specs.Traced.{TracedTable, all_traced, declared, preprocessed_matrices, traced_at, traces_of}
use Rattle.law_valid.specs.Valid.{IsTracedBatch}
use Rattle.law_committed.specs.Committed.{CommittedTable}
use Rattle.law_committed.specs.Fields.{FieldsLaws}
use Rattle.law_committed.specs.Rows.{CommitsTo, InterpolateSome}
use Rattle.law_acceptance.specs.Laws.HonestMatrices.{mains_committed, permutations_committed, preprocesseds_committed}
use Rattle.law_acceptance.specs.Laws.Lengths.{honest_commits, permutation_count}
use Rattle.law_acceptance.specs.Laws.Opened.{kept_on}
use Rattle.law_acceptance.specs.Rounds.{OpenedMatrix, committed_of, main_opened, of_table, permutation_opened, preprocessed_opened}
use Rattle.law_honest.specs.HonestProof.{Prover, challenges_at, honest_committed_at, permutation_columns, permutation_matrices, where_some}
use Rattle.law_honest.specs.Laws.Flat.{map_flat, map_where}
use Rattle.prover_quotients.specs.ProverData.{HoldsAt, HoldsSome}
use Rattle.prover_quotients.specs.Places.{permutation_matrix_place}
use Rattle.prover_quotients.specs.Tables.{HasProverDataOfSome}

-- an item of a table's image
item_of_tabulate : {X Y : Type 0} (g : X → Y) (n : ℕ) (u : ℕ → X) (i : ℕ) → i < n → slice_get (map g (tabulate n u)) i ≡ Some (g (u i))
item_of_tabulate g n u i h =
    let inside : i < length (tabulate n u) = let m = length-tabulate n u in omega (arith, h, m) in
    let mapped : i < length (map g (tabulate n u)) = let m = length-map (tabulate n u) g in omega (arith, inside, m) in
    slice_get-get_or (map g (tabulate n u)) i (g (u i)) mapped
    ∙ ap Some (get_or-map g (tabulate n u) i (u i) (g (u i)) inside ∙ ap g (get_or-tabulate n u i (u i) h))

-- an item of those of the lists that have something, after as many as lists before have something
item_where_some : {A X : Type 0} (ls : List (List A)) (g : ℕ → List X) (x : ℕ → X) (q : ℕ → ℕ) (i : ℕ) → ((j : ℕ) → j < length ls → g (q j) ≡ option_to_list (where_some (get_or ls j []) (x j)))
    → i < length ls → has_some (get_or ls i []) ≡ true → slice_get (flat_map g (tabulate (length ls) q)) (count_by has_some (take i ls)) ≡ Some (x i)
item_where_some [] g x q i is h some = absurd (omega (arith, h))
item_where_some ([] ∷ ls) g x q zero is h some = absurd (false≢true some)
item_where_some ((a ∷ l) ∷ ls) g x q zero is h some = ap (λ xs. slice_get (xs ++ flat_map g (tabulate (length ls) (λ j. q (suc j)))) 0) (is zero (omega arith))
item_where_some {A} ([] ∷ ls) g x q (suc i) is h some =
    let count : count_by has_some ([] ∷ take i ls) ≡ 0 + count_by has_some (take i ls) = sum_by-cons (λ (y : List A). cond (has_some y) 1 0) [] (take i ls) in
    let same : count_by has_some ([] ∷ take i ls) ≡ count_by has_some (take i ls) = omega (arith, count) in
    (λ j. slice_get (is zero (omega arith) j ++ flat_map g (tabulate (length ls) (λ j. q (suc j)))) (same j))
    ∙ item_where_some ls g (λ j. x (suc j)) (λ j. q (suc j)) i (λ j l. is (suc j) (omega (arith, l))) (omega (arith, h)) some
item_where_some {A} ((a ∷ l) ∷ ls) g x q (suc i) is h some =
    let count : count_by has_some ((a ∷ l) ∷ take i ls) ≡ 1 + count_by has_some (take i ls) = sum_by-cons (λ (y : List A). cond (has_some y) 1 0) (a ∷ l) (take i ls) in
    let same : count_by has_some ((a ∷ l) ∷ take i ls) ≡ suc (count_by has_some (take i ls)) = omega (arith, count) in
    (λ j. slice_get (is zero (omega arith) j ++ flat_map g (tabulate (length ls) (λ j. q (suc j)))) (same j))
    ∙ item_where_some ls g (λ j. x (suc j)) (λ j. q (suc j)) i (λ j l. is (suc j) (omega (arith, l))) (omega (arith, h)) some

empty_list : {X : Type 0} (xs : List X) → length xs ≡ 0 → xs ≡ []
empty_list [] e = refl
empty_list (x ∷ xs) e = absurd (omega (arith, e))

has_nothing : {X : Type 0} (xs : List X) → has_some xs ≡ false → length xs ≡ 0
has_nothing [] e = refl
has_nothing (x ∷ xs) e = absurd (false≢true (sym e))

has_something : {X : Type 0} (xs : List X) → has_some xs ≡ true → 0 < length xs
has_something [] e = absurd (false≢true e)
has_something (x ∷ xs) e = omega arith

some_wide : (n d : ℕ) → 0 < n → 0 < d → 0 < permutation_width n d
some_wide zero d n p = absurd (omega (arith, n))
some_wide (suc n) zero m p = absurd (omega (arith, p))
some_wide (suc n) (suc d) m p = let e : (suc n + 1) * suc d ≡ suc n * suc d + suc d = omega arith in omega (arith, e)

interpolants_count : {F : Type 0} (f : _) (d : CosetData F) (o : Option (Rows F)) (polynomials : List (List F)) → InterpolateSome f d o polynomials → length polynomials ≡ width_of o
interpolants_count f d None polynomials h = ap length h
interpolants_count f d (Some m) polynomials h = h.count

-- what is kept of some matrices
kept_there : {M C D : Type 0} (commits : List M → C × D → Type 0) (ms : List M) (kept : Option D) → HasProverDataOfSome commits ms kept → 0 < length ms → (d : D) × (kept ≡ Some d) × ((commitment : C) × commits ms (commitment, d))
kept_there commits [] kept h some = absurd (omega (arith, some))
kept_there commits (m ∷ ms) None h some = absurd h
kept_there commits (m ∷ ms) (Some d) h some = (d, refl, h)

module _ {S F E C D P R : Type 0} (c : Setting S F E C) (p : Prover F E C) (s : Statement F C) (traces : List (Rows F)) (degree_bits : List ℕ)
    (L : FieldsLaws c.field c.extension c.two_adicity p.inverse) (B : IsTracedBatch c p.commitment_of s traces degree_bits) (plain : c.zk ≡ false) (w : Option F) (k : ProverBackend S F E C D P R)
    (points : CosetData F → ℕ) (point_at : CosetData F → ℕ → F) (sizes : (d : CosetData F) → points d ≡ 2 ^ d.log_size) (at_points : (d : CosetData F) (i : ℕ) → point_at d i ≡ point c.field.ring c.field.root d i)
    (commits : List (CosetData F × Rows F) → C → Type 0) where
  abbrev n : ℕ
  n = length s.tables

  abbrev at : ℕ → TracedTable F
  at i = traced_at s traces degree_bits i

  abbrev z : F
  z = c.field.ring.zero

  abbrev own : ℕ → CommittedTable F E
  own i = honest_committed_at c p s traces degree_bits w i

  abbrev of : {A : Type 0} → (TracedTable F → List E → E → E → A) → ℕ → A
  of f i = of_table c p s traces degree_bits w z f i

  abbrev IsCom : List (CosetData F × Rows F) → C × D → Type 0
  IsCom ms x = IsCommitment c.field.ring points point_at commits k.made k.holds ms x

  -- what is held of matrices
  on_cosets : (ms : List (CosetData F × Rows F)) (held : List (Committed F)) → AreCommitted c.field.ring points point_at ms held → AreCommitted c.field.ring (λ (d : CosetData F). 2 ^ d.log_size) (point c.field.ring c.field.root) ms held
  on_cosets ms held h = kept_on c.field.ring c.field.root points point_at sizes at_points ms held h

  module _ (i : ℕ) (lt : i < n) where
    commits_here : CommitsTo c.field c.extension (own i) (traces_of (at i)) (permutation_columns c p (at i) (challenges_at c p s traces degree_bits w i))
    commits_here = honest_commits c p (at i) (challenges_at c p s traces degree_bits w i) L (B.domains i lt) (B.traced i lt)

    -- of the main columns
    pub main_here : (commitment : C) (d : D) → IsCom (map (λ t. (record { shift = c.field.ring.one; log_size = t.degree_bits }, t.trace)) (all_traced s traces degree_bits)) (commitment, d) → HoldsAt k d i (own i).main
    main_here commitment d K = record {
      made_is = K.made_is;
      commitment = commitment;
      matrices = K.held.0;
      holds_are = K.held.2;
      size = 2 ^ (at i).degree_bits;
      place_is =
          ap (λ l. slice_get l i) (mains_committed c p s traces degree_bits L B plain w z K.held.0 (on_cosets _ K.held.0 K.held.1))
          ∙ item_of_tabulate (λ (o : OpenedMatrix F E). o.committed) n (of (main_opened c p)) i lt;
      some = (let e = commits_here.main.count in let t = B.traced i lt in omega (arith, e, t.width, t.some));
    }

    -- of the preprocessed columns
    entry_here : HasEntryOf (width_of (declared (at i)).preprocessed) (entry_of s.common.preprocessed i)
    entry_here =
        let declarations = map (λ (t : AirTable F). t.declaration) s.tables in
        let same : declared_at declarations i ≡ declared (at i) = get_or-map (λ (t : AirTable F). t.declaration) s.tables i no_table (no_table {F = F}).declaration lt in
        let count = all_counted c p.commitment_of s traces degree_bits p.inverse L B in
        subst (λ (d : Declaration F). HasEntryOf (width_of d.preprocessed) (entry_of s.common.preprocessed i)) same (B.formed.entries i (omega (arith, lt, count)) (no_table {F = F}).declaration)

    preprocessed_long : length (own i).preprocessed ≡ width_of (declared (at i)).preprocessed
    preprocessed_long = interpolants_count c.field _ (declared (at i)).preprocessed (own i).preprocessed commits_here.preprocessed

    by_entry : (has_columns : (j : ℕ) → j < n → HasColumns (declared (at j)).preprocessed) (g : PreprocessedTracesData C) (d : D) → s.common.preprocessed ≡ Some g
        → IsCom (preprocessed_matrices c.field.ring.one (all_traced s traces degree_bits)) (g.commitment, d) → (o : Option PreprocessedInstanceMeta) → entry_of (Some g) i ≡ o
        → HoldsSome k (option_map (λ e. e.matrix_index) o) (Some d) (own i).preprocessed
    by_entry has_columns g d there K None e =
        let entry : HasEntryOf (width_of (declared (at i)).preprocessed) None = subst (HasEntryOf (width_of (declared (at i)).preprocessed)) (ap (λ q. entry_of q i) there ∙ e) entry_here in
        empty_list (own i).preprocessed (preprocessed_long ∙ entry)
    by_entry has_columns g d there K (Some m) e =
        let entry : HasEntryOf (width_of (declared (at i)).preprocessed) (Some m) = subst (HasEntryOf (width_of (declared (at i)).preprocessed)) (ap (λ q. entry_of q i) there ∙ e) entry_here in
        let count = all_counted c p.commitment_of s traces degree_bits p.inverse L B in
        let placed : HasPlace (Some g) i = subst (λ q. HasPlace q i) there (B.formed.places i (omega (arith, lt, count))) in
        let ms = matrix_tables s.common.preprocessed in
        let listed : ms ≡ g.matrix_to_instance = ap matrix_tables there in
        let at_place : slice_get ms m.matrix_index ≡ Some i = ap (λ l. slice_get l m.matrix_index) listed ∙ subst (λ q. by_place q) e placed in
        let inside : m.matrix_index < length ms = slice_get_within ms m.matrix_index i at_place in
        let is_i : get_or ms m.matrix_index 0 ≡ i = some_is (sym (slice_get-get_or ms m.matrix_index 0 inside) ∙ at_place) in
        let value = λ (j : ℕ). (of (preprocessed_opened c p) j).committed in
        record {
          made_is = K.made_is;
          commitment = g.commitment;
          matrices = K.held.0;
          holds_are = K.held.2;
          size = 2 ^ (at i).degree_bits;
          place_is =
              ap (λ l. slice_get l m.matrix_index) (preprocesseds_committed c p s traces degree_bits L B plain w z has_columns K.held.0 (on_cosets _ K.held.0 K.held.1))
              ∙ (item_of_tabulate (λ (o : OpenedMatrix F E). o.committed) (length ms) (λ j. of (preprocessed_opened c p) (get_or ms j 0)) m.matrix_index inside
              ∙ ap (λ j. Some (value j)) is_i);
          some = omega (arith, preprocessed_long, entry.0);
        }
      where
        by_place : Option PreprocessedInstanceMeta → Type 0
        by_place None = Unit {0}
        by_place (Some x) = slice_get g.matrix_to_instance x.matrix_index ≡ Some i

        some_is : {x y : ℕ} → Some x ≡ Some y → x ≡ y
        some_is h = cc

    by_commitment : (has_columns : (j : ℕ) → j < n → HasColumns (declared (at j)).preprocessed) (o : Option (PreprocessedTracesData C)) (kept : Option D) → s.common.preprocessed ≡ o
        → HasProverData IsCom (preprocessed_matrices c.field.ring.one (all_traced s traces degree_bits)) o kept → HoldsSome k (option_map (λ e. e.matrix_index) (entry_of o i)) kept (own i).preprocessed
    by_commitment has_columns None kept there h =
        let entry : HasEntryOf (width_of (declared (at i)).preprocessed) None = subst (λ q. HasEntryOf (width_of (declared (at i)).preprocessed) (entry_of q i)) there entry_here in
        empty_list (own i).preprocessed (preprocessed_long ∙ entry)
    by_commitment has_columns (Some g) None there h = absurd h
    by_commitment has_columns (Some g) (Some d) there h = by_entry has_columns g d there h (entry_of (Some g) i) refl

    pub preprocessed_here : ((j : ℕ) → j < n → HasColumns (declared (at j)).preprocessed) → (kept : Option D)
        → HasProverData IsCom (preprocessed_matrices c.field.ring.one (all_traced s traces degree_bits)) s.common.preprocessed kept
        → HoldsSome k (option_map (λ e. e.matrix_index) (entry_of s.common.preprocessed i)) kept (own i).preprocessed
    preprocessed_here has_columns kept h = by_commitment has_columns s.common.preprocessed kept refl h

    -- of the permutation columns
    permutation_long : length (own i).permutation ≡ permutation_width (length (at i).lookups) c.extension.dimension
    permutation_long = permutation_count c p (at i) (challenges_at c p s traces degree_bits w i) L (B.domains i lt) (B.traced i lt)

    abbrev all_columns : List (CosetData F × Rows F)
    all_columns = flat_map (λ j. permutation_matrices c p (at j) (challenges_at c p s traces degree_bits w j)) (tabulate n (λ j. j))

    abbrev place : ℕ
    place = count_by has_some (take i s.common.lookups)

    by_lookups : (kept : Option D) → HasProverDataOfSome IsCom all_columns kept → (b : Bool) → has_some (get_or s.common.lookups i []) ≡ b → HoldsSome k (cond b (Some place) None) kept (own i).permutation
    by_lookups kept h false e =
        let none = has_nothing (get_or s.common.lookups i []) e in
        empty_list (own i).permutation (permutation_long ∙ ap (λ m. permutation_width m c.extension.dimension) none)
    by_lookups kept h true e =
        let ls = s.common.lookups in
        let many : n ≡ length ls = sym B.lists.lookups_long in
        let inside : i < length ls = omega (arith, lt, many) in
        let here : slice_get all_columns place ≡ Some _ =
        ap (λ m. slice_get (flat_map (λ j. permutation_matrices c p (at j) (challenges_at c p s traces degree_bits w j)) (tabulate m (λ j. j))) place) many
        ∙ item_where_some ls (λ j. permutation_matrices c p (at j) (challenges_at c p s traces degree_bits w j)) _ (λ j. j) i (λ j l. refl) inside e in
        let there = kept_there IsCom all_columns kept h (let l = slice_get_within all_columns place _ here in omega (arith, l)) in
        let K = there.2.1 in
        let held : HoldsAt k there.0 place (own i).permutation = record {
          made_is = K.made_is;
          commitment = there.2.0;
          matrices = K.held.0;
          holds_are = K.held.2;
          size = 2 ^ (at i).degree_bits;
          place_is =
              ap (λ l. slice_get l place) (permutations_committed c p s traces degree_bits L B plain w z K.held.0 (on_cosets _ K.held.0 K.held.1))
              ∙ (ap (λ l. slice_get l place) (map_flat (λ (o : OpenedMatrix F E). o.committed) (of (permutation_opened c p)) (tabulate n (λ j. j)))
              ∙ (ap (λ m. slice_get (flat_map (λ j. committed_of (of (permutation_opened c p) j)) (tabulate m (λ j. j))) place) many
              ∙ item_where_some ls (λ j. committed_of (of (permutation_opened c p) j)) (λ j. record { size = 2 ^ (at j).degree_bits; polynomials = (own j).permutation }) (λ j. j) i
              (λ j l. map_where (λ (o : OpenedMatrix F E). o.committed) (at j).lookups _) inside e));
          some = (let q = some_wide (length (at i).lookups) c.extension.dimension (has_something (get_or ls i []) e) L.vector.positive in omega (arith, permutation_long, q));
        } in
        subst (λ o. HoldsSome k (Some place) o (own i).permutation) (sym there.1) held

    pub permutation_here : (kept : Option D) → HasProverDataOfSome IsCom all_columns kept → HoldsSome k (permutation_matrix_place s.common.lookups i) kept (own i).permutation
    permutation_here kept h = by_lookups kept h (has_some (get_or s.common.lookups i [])) refl
