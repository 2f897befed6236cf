-- What is asked of a batch are the rounds of an honest proof, by prover data that hold what the rounds do.
use Rattle.std.proofs.Common.{◌≡◌, ℕ, ◌^◌, ◌<◌, false, List, [], ◌∷◌, ◌++◌, length, get_or, map, Option, None, Some, sym, ◌∙◌, ap, subst, arith}
use Rattle.std.specs.Prelude.{All, option_to_list}
use Rattle.std.specs.List.{flat_map}
use Rattle.std.proofs.lemmas.List.{get_or-map, length-map}
use Rattle.std.proofs.lemmas.List.Elements.{All-cons}
use Rattle.p3_field.specs.Domain.{CosetData, point}
use Rattle.p3_field.specs.Laws.SubgroupSelectors.{map_tabulate}
use Rattle.p3_field.specs.Laws.Tabulate.{get_or-tabulate, tabulate_same}
use Rattle.p3_field.specs.Poly.{tabulate}
use Rattle.p3_matrix.specs.Matrix.{Rows}
use Rattle.air_core.specs.Shape.{Declaration, HasColumns}
use Rattle.commit_core.specs.Claims.{Request}
use Rattle.commit_core.specs.Commitments.{AreCommitted, AreOpenedCommitments, Committed, OpenedCommitment, IsCommitment}
use Rattle.verifier_claims.specs.Claims.{commitment_in, matrix_tables}
use Rattle.batch_statement.specs.Words.{declared_at, no_table}
use Rattle.verifier_claims.specs.Laws.Listed.{listed_below}
use Rattle.prover_answer.specs.Batch.{Batch, HasProverData, IsTracedAll, all_chunks, all_permutations, log_parts_at, main_matrices, preprocessed_all, table_at, table_count}
use Rattle.batch_config.specs.Domains.{next_by}
use Rattle.batch_config.specs.Setting.{masks}
use Rattle.batch_statement.specs.Statement.{PreprocessedTracesData, AirTable}
use Rattle.law_committed.specs.Fields.{FieldsLaws}
use Rattle.law_valid.specs.Traced.{declared}
use Rattle.law_honest.specs.HonestProof.{alpha, challenges_at, honest_main_commitment, honest_permutation_commitment, honest_quotient_commitment, where_some, zeta}
use Rattle.law_honest.specs.Laws.Flat.{flat_same, map_flat, map_where}
use Rattle.law_acceptance.specs.Rounds.{AskFor, OpenedMatrix, Round, chunk_opened, chunks, chunks_opened, committed_of, opened_commitments_of, honest_rounds, main_opened, mains, of_table, permutation_opened, permutations, points_with, preprocessed_opened, preprocesseds, round_of}
use Rattle.law_acceptance.specs.Laws.HonestMatrices.{chunks_committed, mains_committed, permutations_committed, preprocesseds_committed}
use Rattle.law_acceptance.specs.Laws.Opened.{kept_on}
use Rattle.law_acceptance.specs.Laws.Rounds.{ArePaired, each_paired, paired_append}
use Rattle.prover_openings.specs.Asked.{RoundsProverData, asked_of, chunk_points, main_points, permutation_points, plan_in, preprocessed_points, request_where}
use Rattle.prover_openings.specs.Check.{AreBoth}

-- a request asks for a round, by prover data that was made and holds what the round does
record AsksFor {F E C D : Type 0} (made : D → Type 0) (holds : D → C → List (Committed F) → Type 0) (r : Round F E C) (q : Request D E) : Type 0 where
  points_are : q.points ≡ map (λ o. o.points) r.matrices
  made_is : made q.prover_data
  held : holds q.prover_data r.commitment (committed_of r.matrices)

-- what prover data is of a commitment to matrices
abbrev IsOf : {F E C D : Type 0} → (D → Type 0) → (D → C → List (Committed F) → Type 0) → List (OpenedMatrix F E) → C → D → Type 0
IsOf made holds ms c d = made d × holds d c (committed_of ms)

both_more : {X Y : Type 0} (R S : X → Y → Type 0) → ((x : X) (y : Y) → R x y → S x y) → (o : Option X) (u : Option Y) → AreBoth R o u → AreBoth S o u
both_more R S more None None h = tt
both_more R S more None (Some y) h = h
both_more R S more (Some x) None h = h
both_more R S more (Some x) (Some y) h = more x y h

module _ {F E C D : Type 0} (made : D → Type 0) (holds : D → C → List (Committed F) → Type 0) where
  asks_where : (o : Option C) (d : Option D) (ms : List (OpenedMatrix F E)) (ps : List (List E)) → ps ≡ map (λ (m : OpenedMatrix F E). m.points) ms → AreBoth (IsOf made holds ms) o d
      → ArePaired (AsksFor made holds) (round_of o ms) (request_where d ps)
  asks_where None None ms ps e h = tt
  asks_where None (Some d) ms ps e h = absurd h
  asks_where (Some c) None ms ps e h = absurd h
  asks_where (Some c) (Some d) ms ps e h = (record { points_are = e; made_is = h.0; held = h.1 }, tt)

  paired_points : (rs : List (Round F E C)) (qs : List (Request D E)) → ArePaired (AsksFor made holds) rs qs → ArePaired (λ (r : Round F E C) (q : Request D E). q.points ≡ map (λ (o : OpenedMatrix F E). o.points) r.matrices) rs qs
  paired_points [] [] h = tt
  paired_points [] (q ∷ qs) h = h
  paired_points (r ∷ rs) [] h = h
  paired_points (r ∷ rs) (q ∷ qs) h = (h.0.points_are, paired_points rs qs h.1)

  all_made : (rs : List (Round F E C)) (qs : List (Request D E)) → ArePaired (AsksFor made holds) rs qs → All (λ (q : Request D E). made q.prover_data) qs
  all_made [] [] h = λ k d l. absurd (omega (arith, l))
  all_made [] (q ∷ qs) h = absurd h
  all_made (r ∷ rs) [] h = absurd h
  all_made (r ∷ rs) (q ∷ qs) h = All-cons (λ (q : Request D E). made q.prover_data) q qs h.0.made_is (all_made rs qs h.1)

  paired_held : (rs : List (Round F E C)) (qs : List (Request D E)) → ArePaired (AsksFor made holds) rs qs → ArePaired (λ (q : Request D E) (x : OpenedCommitment C F). holds q.prover_data x.commitment x.matrices) qs (opened_commitments_of rs)
  paired_held [] [] h = tt
  paired_held [] (q ∷ qs) h = h
  paired_held (r ∷ rs) [] h = h
  paired_held (r ∷ rs) (q ∷ qs) h = (h.0.held, paired_held rs qs h.1)

-- the entry of preprocessed prover data, by the commitment alone
kept_both : {M C D : Type 0} (commits : List M → C × D → Type 0) (ms : List M) (g : Option (PreprocessedTracesData C)) (d : Option D) → HasProverData commits ms g d → AreBoth (λ c x. commits ms (c, x)) (commitment_in g) d
kept_both commits ms None None h = tt
kept_both commits ms None (Some d) h = h
kept_both commits ms (Some g) None h = h
kept_both commits ms (Some g) (Some d) h = h

module _ {S F E C : Type 0} (b : Batch S F E C) (L : FieldsLaws b.setting.field b.setting.extension b.setting.two_adicity b.prover.inverse) (B : IsTracedAll b) (w : Option F) (z : F) where
  abbrev n : ℕ
  n = table_count b

  abbrev x : E
  x = zeta b.setting b.prover b.statement b.traces b.degree_bits w z

  abbrev after : ℕ → E
  after = next_by b.setting.extension.ring b.setting.extension.embed b.setting.field.root (masks b.setting) x

  abbrev points_in : List (OpenedMatrix F E) → List (List E)
  points_in ms = map (λ (o : OpenedMatrix F E). o.points) ms

  abbrev declarations : List (Declaration F)
  declarations = map (λ (t : AirTable F). t.declaration) b.statement.tables

  long : length declarations ≡ n
  long = length-map b.statement.tables (λ (t : AirTable F). t.declaration)

  declared_same : (i : ℕ) → i < n → declared_at declarations i ≡ declared (table_at b i)
  declared_same i h = get_or-map (λ (t : AirTable F). t.declaration) b.statement.tables i no_table (no_table {F = F}).declaration h

  abbrev main_at : ℕ → OpenedMatrix F E
  main_at = of_table b.setting b.prover b.statement b.traces b.degree_bits w z (main_opened b.setting b.prover)

  abbrev chunks_at : ℕ → List (OpenedMatrix F E)
  chunks_at = of_table b.setting b.prover b.statement b.traces b.degree_bits w z (chunks_opened b.setting b.prover)

  abbrev preprocessed_at : ℕ → OpenedMatrix F E
  preprocessed_at = of_table b.setting b.prover b.statement b.traces b.degree_bits w z (preprocessed_opened b.setting b.prover)

  abbrev permutation_at : ℕ → List (OpenedMatrix F E)
  permutation_at = of_table b.setting b.prover b.statement b.traces b.degree_bits w z (permutation_opened b.setting b.prover)

  -- the points of each round
  mains_asked : main_points (plan_in b) x after ≡ points_in (mains b.setting b.prover b.statement b.traces b.degree_bits w z)
  mains_asked =
      let v = λ (i : ℕ). points_with (declared_at declarations i).main_next x (after (table_at b i).degree_bits) in
      ap (λ m. tabulate m v) long
      ∙ (tabulate_same n v (λ i. (main_at i).points) (λ i h. ap (λ (d : Declaration F). points_with d.main_next x (after (table_at b i).degree_bits)) (declared_same i h))
      ∙ sym (map_tabulate (λ (o : OpenedMatrix F E). o.points) n main_at))

  chunks_asked : chunk_points (plan_in b) x after ≡ points_in (chunks b.setting b.prover b.statement b.traces b.degree_bits w z)
  chunks_asked =
      let counts = (plan_in b).chunk_counts in
      let v = λ (i : ℕ). tabulate (get_or counts i 0) (λ (j : ℕ). x ∷ []) in
      let u = λ (i : ℕ). points_in (chunks_at i) in
      ap (λ m. flat_map v (tabulate m (λ i. i))) long
      ∙ (flat_same v u n (λ i. i) (λ i h.
      ap (λ m. tabulate m (λ (j : ℕ). x ∷ [])) (get_or-tabulate n (λ i. 2 ^ log_parts_at b i) i 0 h)
      ∙ sym (map_tabulate (λ (o : OpenedMatrix F E). o.points) (2 ^ log_parts_at b i)
      (chunk_opened b.setting b.prover (table_at b i) (challenges_at b.setting b.prover b.statement b.traces b.degree_bits w i) (alpha b.setting b.prover b.statement b.traces b.degree_bits w) x)))
      ∙ sym (map_flat (λ (o : OpenedMatrix F E). o.points) chunks_at (tabulate n (λ i. i))))

  preprocesseds_asked : preprocessed_points (plan_in b) x after ≡ points_in (preprocesseds b.setting b.prover b.statement b.traces b.degree_bits w z)
  preprocesseds_asked =
      let ms = matrix_tables b.statement.common.preprocessed in
      let v = λ (m : ℕ). points_with (declared_at declarations (get_or ms m 0)).preprocessed_next x (after (table_at b (get_or ms m 0)).degree_bits) in
      tabulate_same (length ms) v (λ m. (preprocessed_at (get_or ms m 0)).points) (λ m h.
      ap (λ (d : Declaration F). points_with d.preprocessed_next x (after (table_at b (get_or ms m 0)).degree_bits)) (declared_same (get_or ms m 0) (listed_below declarations b.statement.common n B.formed long m 0 h)))
      ∙ sym (map_tabulate (λ (o : OpenedMatrix F E). o.points) (length ms) (λ m. preprocessed_at (get_or ms m 0)))

  permutations_asked : permutation_points (plan_in b) x after ≡ points_in (permutations b.setting b.prover b.statement b.traces b.degree_bits w z)
  permutations_asked =
      let v = λ (i : ℕ). option_to_list (where_some (get_or b.statement.common.lookups i []) (x ∷ after (table_at b i).degree_bits ∷ [])) in
      let u = λ (i : ℕ). points_in (permutation_at i) in
      ap (λ m. flat_map v (tabulate m (λ i. i))) long
      ∙ (flat_same v u n (λ i. i) (λ i h. sym (map_where (λ (o : OpenedMatrix F E). o.points) (get_or b.statement.common.lookups i []) _))
      ∙ sym (map_flat (λ (o : OpenedMatrix F E). o.points) permutation_at (tabulate n (λ i. i))))

  module _ {D : Type 0} (plain : b.setting.zk ≡ false) (columns : (i : ℕ) → i < n → HasColumns (declared (table_at b i)).preprocessed)
      (points : CosetData F → ℕ) (point_at : CosetData F → ℕ → F) (sizes : (d : CosetData F) → points d ≡ 2 ^ d.log_size) (places : (d : CosetData F) (i : ℕ) → point_at d i ≡ point b.setting.field.ring b.setting.field.root d i)
      (commits : List (CosetData F × Rows F) → C → Type 0) (made : D → Type 0) (holds : D → C → List (Committed F) → Type 0) (kept : RoundsProverData D) where
    abbrev IsCom : List (CosetData F × Rows F) → C × D → Type 0
    IsCom = IsCommitment b.setting.field.ring points point_at commits made holds

    -- what prover data of a commitment holds, where what is kept of its matrices is known
    of_commitment : (es : List (CosetData F × Rows F)) (ms : List (OpenedMatrix F E))
        → ((held : List (Committed F)) → AreCommitted b.setting.field.ring (λ (d : CosetData F). 2 ^ d.log_size) (point b.setting.field.ring b.setting.field.root) es held → held ≡ committed_of ms)
        → (c : C) (d : D) → IsCom es (c, d) → IsOf made holds ms c d
    of_commitment es ms known c d I =
        let cs = I.held.0 in
        (I.made_is, subst (holds d c) (known cs (kept_on b.setting.field.ring b.setting.field.root points point_at sizes places es cs I.held.1)) I.held.2)

    module _ (main : IsCom (main_matrices b) (honest_main_commitment b.setting b.prover b.statement b.traces b.degree_bits, kept.main))
        (quotient : IsCom (all_chunks b w) (honest_quotient_commitment b.setting b.prover b.statement b.traces b.degree_bits w, kept.quotient))
        (preprocessed : HasProverData IsCom (preprocessed_all b) b.statement.common.preprocessed kept.preprocessed)
        (permutation : AreBoth (λ c d. IsCom (all_permutations b w) (c, d)) (honest_permutation_commitment b.setting b.prover b.statement b.traces b.degree_bits w) kept.permutation) where
      rounds_asked : ArePaired (AsksFor made holds) (honest_rounds b.setting b.prover b.statement b.traces b.degree_bits w z) (asked_of b kept w z)
      rounds_asked =
          let c = b.setting in
          let p = b.prover in
          let s = b.statement in
          let ts = b.traces in
          let bits = b.degree_bits in
          let R = AsksFor {E = E} made holds in
          let o1 = Some (honest_main_commitment c p s ts bits) in
          let o2 = Some (honest_quotient_commitment c p s ts bits w) in
          let o3 = commitment_in s.common.preprocessed in
          let o4 = honest_permutation_commitment c p s ts bits w in
          let m1 = mains c p s ts bits w z in
          let m2 = chunks c p s ts bits w z in
          let m3 = preprocesseds c p s ts bits w z in
          let m4 = permutations c p s ts bits w z in
          let p1 = main_points (plan_in b) x after in
          let p2 = chunk_points (plan_in b) x after in
          let p3 = preprocessed_points (plan_in b) x after in
          let p4 = permutation_points (plan_in b) x after in
          let a1 = asks_where made holds o1 (Some kept.main) m1 p1 mains_asked
          (of_commitment (main_matrices b) m1 (mains_committed c p s ts bits L B plain w z) (honest_main_commitment c p s ts bits) kept.main main) in
          let a2 = asks_where made holds o2 (Some kept.quotient) m2 p2 chunks_asked
          (of_commitment (all_chunks b w) m2 (chunks_committed c p s ts bits L B plain w z) (honest_quotient_commitment c p s ts bits w) kept.quotient quotient) in
          let a3 = asks_where made holds o3 kept.preprocessed m3 p3 preprocesseds_asked
          (both_more (λ c d. IsCom (preprocessed_all b) (c, d)) (IsOf made holds m3) (of_commitment (preprocessed_all b) m3 (preprocesseds_committed c p s ts bits L B plain w z columns)) o3 kept.preprocessed
          (kept_both IsCom (preprocessed_all b) s.common.preprocessed kept.preprocessed preprocessed)) in
          let a4 = asks_where made holds o4 kept.permutation m4 p4 permutations_asked
          (both_more (λ c d. IsCom (all_permutations b w) (c, d)) (IsOf made holds m4) (of_commitment (all_permutations b w) m4 (permutations_committed c p s ts bits L B plain w z)) o4 kept.permutation permutation) in
          let q1 = request_where (Some kept.main) p1 in
          let q2 = request_where (Some kept.quotient) p2 in
          let q3 = request_where kept.preprocessed p3 in
          let q4 = request_where kept.permutation p4 in
          paired_append R (round_of o1 m1 ++ round_of o2 m2 ++ round_of o3 m3) (round_of o4 m4) (q1 ++ q2 ++ q3) q4
          (paired_append R (round_of o1 m1 ++ round_of o2 m2) (round_of o3 m3) (q1 ++ q2) q3 (paired_append R (round_of o1 m1) (round_of o2 m2) q1 q2 a1 a2) a3) a4

      pub ask : AskFor (honest_rounds b.setting b.prover b.statement b.traces b.degree_bits w z) (asked_of b kept w z)
      ask =
          each_paired (λ (r : Round F E C) (q : Request D E). q.points ≡ map (λ (o : OpenedMatrix F E). o.points) r.matrices) (honest_rounds b.setting b.prover b.statement b.traces b.degree_bits w z) (asked_of b kept w z)
          (paired_points made holds (honest_rounds b.setting b.prover b.statement b.traces b.degree_bits w z) (asked_of b kept w z) rounds_asked)

      pub made_all : All (λ (q : Request D E). made q.prover_data) (asked_of b kept w z)
      made_all = all_made made holds (honest_rounds b.setting b.prover b.statement b.traces b.degree_bits w z) (asked_of b kept w z) rounds_asked

      pub held_all : AreOpenedCommitments holds (asked_of b kept w z) (opened_commitments_of (honest_rounds b.setting b.prover b.statement b.traces b.degree_bits w z))
      held_all =
          each_paired (λ (q : Request D E) (x : OpenedCommitment C F). holds q.prover_data x.commitment x.matrices) (asked_of b kept w z) (opened_commitments_of (honest_rounds b.setting b.prover b.statement b.traces b.degree_bits w z))
          (paired_held made holds (honest_rounds b.setting b.prover b.statement b.traces b.degree_bits w z) (asked_of b kept w z) rounds_asked)
