-- What is given of a traced batch when its quotients are made.
use Rattle.std.proofs.Common.{◌≡◌, ℕ, ◌^◌, ◌<◌, List, [], length, get_or, Option, None, false, sym, ◌∙◌, ap, subst, arith}
use Rattle.p3_field.specs.Domain.{CosetData, point}
use Rattle.p3_field.specs.Laws.Tabulate.{get_or-tabulate, length-tabulate}
use Rattle.p3_field.specs.Ring.{Ring}
use Rattle.p3_matrix.specs.Matrix.{Rows}
use Rattle.std.proofs.lemmas.List.Elements.{All-map}
use Rattle.air_core.specs.Shape.{Declaration, HasColumns}
use Rattle.air_core.specs.Tree.{Tree}
use Rattle.commit_core.specs.Commitments.{Committed, IsCommitment}
use Rattle.prover_answer.specs.Backend.{ProverBackend}
use Rattle.prover_answer.specs.Batch.{Batch, HasProverData, IsTracedAll, all_challenges, all_permutations, main_matrices, preprocessed_all, table_at, table_count}
use Rattle.batch_statement.specs.Words.{no_table}
use Rattle.batch_statement.specs.Statement.{AirTable, tables_of}
use Rattle.law_committed.specs.Fields.{FieldsLaws}
use Rattle.law_valid.specs.Traced.{declared}
use Rattle.law_acceptance.specs.Laws.Opened.{kept_on}
use Rattle.law_honest.specs.HonestProof.{challenges_at, committed_table, honest_terminal, terminals}
use Rattle.law_honest.specs.Laws.Draws.{challenges_count}
use Rattle.prover_quotients.specs.ProverData.{HoldsTable}
use Rattle.prover_quotients.specs.Places.{places_at}
use Rattle.prover_quotients.specs.Tables.{AreGiven, HasProverDataOfSome}
use Rattle.prover_quotients.proofs.ProverData.{main_here, permutation_here, preprocessed_here}

module _ {S F E C D P R : Type 0} (b : Batch S F E C) (L : FieldsLaws b.setting.field b.setting.extension b.setting.two_adicity b.prover.inverse) (B : IsTracedAll b) (plain : b.setting.zk ≡ false)
    (w : Option F) (k : ProverBackend S F E C D P R) where
  abbrev chosen : ℕ → List E
  chosen i = challenges_at b.setting b.prover b.statement b.traces b.degree_bits w i

  module _ (challenges : List (List E)) (sums : List (Option E)) (drawn : challenges ≡ all_challenges b w) (ends : sums ≡ terminals b.setting b.prover b.statement b.traces b.degree_bits w) where
    own : (i : ℕ) → i < table_count b → get_or challenges i [] ≡ chosen i
    own i lt = ap (λ l. get_or l i []) drawn ∙ get_or-tabulate (table_count b) chosen i [] lt

    pub are_given : (points : CosetData F → ℕ) (point_at : CosetData F → ℕ → F) (sizes : (d : CosetData F) → points d ≡ 2 ^ d.log_size)
        (at_points : (d : CosetData F) (i : ℕ) → point_at d i ≡ point b.setting.field.ring b.setting.field.root d i) (commits : List (CosetData F × Rows F) → C → Type 0)
        (preprocessed : Option D) (main : D) (permutation : Option D) → ((i : ℕ) → i < table_count b → HasColumns (declared (table_at b i)).preprocessed)
        → HasProverData (λ es x. IsCommitment b.setting.field.ring points point_at commits k.made k.holds es x) (preprocessed_all b) b.statement.common.preprocessed preprocessed
        → (commitment : C) × IsCommitment b.setting.field.ring points point_at commits k.made k.holds (main_matrices b) (commitment, main)
        → HasProverDataOfSome (λ es x. IsCommitment b.setting.field.ring points point_at commits k.made k.holds es x) (all_permutations b w) permutation
        → AreGiven b challenges k preprocessed main permutation sums
    are_given points point_at sizes at_points commits preprocessed main permutation has_columns kept_first kept_main kept_last = record {
      challenges_long = ap length drawn ∙ length-tabulate (table_count b) chosen;
      terminals_long = ap length ends ∙ length-tabulate (table_count b) _;
      pairs = λ i lt. let e = ap length (own i lt) ∙ challenges_count b.setting b.prover b.statement b.traces b.degree_bits B w i lt in omega (arith, e);
      terminals_are = λ i lt.
          ap (λ l. get_or l i None) ends
          ∙ (get_or-tabulate (table_count b) (λ j. honest_terminal b.setting b.prover (table_at b j) (chosen j)) i None lt
          ∙ ap (honest_terminal b.setting b.prover (table_at b i)) (sym (own i lt)));
      held = λ i lt.
          subst (λ l. HoldsTable k (places_at b.statement.common i) preprocessed main permutation (committed_table b.setting b.prover (table_at b i) l)) (sym (own i lt))
          (record {
            main_held = main_here b.setting b.prover b.statement b.traces b.degree_bits L B plain w k points point_at sizes at_points commits i lt kept_main.0 main kept_main.1;
            preprocessed_held = preprocessed_here b.setting b.prover b.statement b.traces b.degree_bits L B plain w k points point_at sizes at_points commits i lt has_columns preprocessed kept_first;
            permutation_held = permutation_here b.setting b.prover b.statement b.traces b.degree_bits L B plain w k points point_at sizes at_points commits i lt permutation kept_last;
          });
    }

-- what a backend commits to by the points of its domains it commits to by those of the cosets
pub commitment_on : {F C D : Type 0} (r : Ring F) (root : ℕ → F) (points : CosetData F → ℕ) (point_at : CosetData F → ℕ → F) (commits : List (CosetData F × Rows F) → C → Type 0) (made : D → Type 0) (holds : D → C → List (Committed F) → Type 0)
    → ((d : CosetData F) → points d ≡ 2 ^ d.log_size) → ((d : CosetData F) (i : ℕ) → point_at d i ≡ point r root d i) → (es : List (CosetData F × Rows F)) (x : C × D)
    → IsCommitment r points point_at commits made holds es x → IsCommitment r (λ (d : CosetData F). 2 ^ d.log_size) (point r root) commits made holds es x
commitment_on r root points point_at commits made holds sizes places es x K = record {
  commitment_is = K.commitment_is;
  made_is = K.made_is;
  held = (K.held.0, kept_on r root points point_at sizes places es K.held.0 K.held.1, K.held.2);
}

-- AIRs have no preprocessed trace without a column
pub columns_there : {A F : Type 0} (declaration : A → Declaration F) (trees : A → List (Tree F)) → ((a : A) → HasColumns (declaration a).preprocessed) → (airs : List A) (i : ℕ) → i < length (tables_of declaration trees airs)
    → HasColumns (get_or (tables_of declaration trees airs) i no_table).declaration.preprocessed
columns_there {A} {F} declaration trees columns airs i l =
    All-map (λ (t : AirTable F). HasColumns t.declaration.preprocessed) (λ (a : A). record { declaration = declaration a; trees = trees a }) airs (λ j a m. columns (get_or airs j a)) i no_table l
