-- What is asked of a batch of instances, by the lists that a prover is given.
use Rattle.std.proofs.Common.{◌≡◌, ℕ, ◌^◌, ◌<◌, List, length, get_or, map, Option, None, Some, refl, sym, ◌∙◌, ap}
use Rattle.std.specs.Prelude.{All, option_map}
use Rattle.std.proofs.lemmas.List.{length-map}
use Rattle.std.proofs.lemmas.List.Elements.{All-map}
use Rattle.p3_field.specs.Laws.Tabulate.{length-tabulate}
use Rattle.p3_field.specs.Poly.{tabulate}
use Rattle.air_core.specs.Shape.{Declaration, HasColumns}
use Rattle.air_core.specs.Tree.{Tree}
use Rattle.commit_core.specs.Claims.{Request}
use Rattle.p3_lookup.specs.Lookup.{LookupData}
use Rattle.verifier_claims.specs.Claims.{matrix_tables}
use Rattle.verifier_claims.specs.Laws.Listed.{listed_below}
use Rattle.prover_answer.specs.Batch.{Batch, HasProverData, batch_of, log_parts_at, table_count}
use Rattle.batch_config.specs.Domains.{next_by}
use Rattle.batch_config.specs.Setting.{Setting, masks}
use Rattle.batch_setup.specs.Setup.{Instance, airs_of}
use Rattle.batch_statement.specs.Words.{is_there, no_table}
use Rattle.batch_statement.specs.Proof.{OpenedWithLookups}
use Rattle.batch_statement.specs.Statement.{Common, PreprocessedTracesData, AirTable, WellFormed, WrittenCommon, tables_of}
use Rattle.law_honest.specs.HonestProof.{Prover, zeta}
use Rattle.prover_openings.specs.Asked.{RoundsProverData, asked, asked_of, plan_in, plan_of}
use Rattle.prover_openings.specs.Taken.{RoundValues, taken_at}
use Rattle.prover_openings.proofs.Lists.{map_map}

-- prover data of preprocessed traces is there where these are
pub kept_there : {M C D : Type 0} (commits : List M → C × D → Type 0) (ms : List M) (g : Option (PreprocessedTracesData C)) (d : Option D) → HasProverData commits ms g d → is_there d ≡ is_there g
kept_there commits ms None None h = refl
kept_there commits ms None (Some d) h = absurd h
kept_there commits ms (Some g) None h = absurd h
kept_there commits ms (Some g) (Some d) h = refl

pub there_same : {Q D : Type 0} (f : Q → D) (d : Option Q) → is_there d ≡ is_there (option_map f d)
there_same f None = refl
there_same f (Some d) = refl

-- what is taken, by the numbers of chunks
pub taken_same : {F E C : Type 0} (pre : Option (PreprocessedTracesData C)) (lookups : List (List (LookupData F))) (n : ℕ) (u : ℕ → ℕ) (counts : List ℕ) → counts ≡ tabulate n u → (tables : List (OpenedWithLookups E)) (r : RoundValues E)
    → tables ≡ tabulate (length counts) (taken_at pre lookups counts r) → tables ≡ tabulate n (taken_at pre lookups (tabulate n u) r)
taken_same pre lookups n u counts same tables r e = e ∙ ((λ i. tabulate (length (same i)) (taken_at pre lookups (same i) r)) ∙ ap (λ m. tabulate m (taken_at pre lookups (tabulate n u) r)) (length-tabulate n u))

module _ {F A : Type 0} (declaration : A → Declaration F) (trees : A → List (Tree F)) (instances : List (Instance A F)) where
  abbrev of_airs : List (AirTable F)
  of_airs = tables_of declaration trees (airs_of instances)

  abbrev declarations : List (Declaration F)
  declarations = map (λ (t : AirTable F). t.declaration) of_airs

  declared_are : map (λ (i : Instance A F). declaration i.air) instances ≡ declarations
  declared_are =
      sym (ap (map (λ (t : AirTable F). t.declaration)) (map_map (λ (a : A). record { declaration = declaration a; trees = trees a }) (λ (i : Instance A F). i.air) instances)
      ∙ map_map (λ (t : AirTable F). t.declaration) (λ (i : Instance A F). record { declaration = declaration i.air; trees = trees i.air }) instances)

  pub count_is : length of_airs ≡ length instances
  count_is = length-map (airs_of instances) (λ (a : A). record { declaration = declaration a; trees = trees a }) ∙ length-map instances (λ (i : Instance A F). i.air)

  pub counts_long : (u : ℕ → ℕ) (counts : List ℕ) → counts ≡ tabulate (length of_airs) u → length counts ≡ length instances
  counts_long u counts e = ap length e ∙ (length-tabulate (length of_airs) u ∙ count_is)

  pub listed : {C : Type 0} (common : Common F C) → WellFormed declarations common → All (λ i. i < length instances) (matrix_tables common.preprocessed)
  listed common formed = listed_below declarations common (length instances) formed (length-map of_airs (λ (t : AirTable F). t.declaration) ∙ count_is)

  -- each preprocessed trace has a column, as an AIR's does
  pub columns_of : ((a : A) → HasColumns (declaration a).preprocessed) → (i : ℕ) → i < length of_airs → HasColumns (get_or of_airs i no_table).declaration.preprocessed
  columns_of some i h = All-map (λ (t : AirTable F). HasColumns t.declaration.preprocessed) (λ (a : A). record { declaration = declaration a; trees = trees a }) (airs_of instances) (λ k a l. some (get_or (airs_of instances) k a)) i no_table h

module _ {S F E C A : Type 0} (c : Setting S F E C) (p : Prover F E C) (declaration : A → Declaration F) (trees : A → List (Tree F)) (instances : List (Instance A F)) (common : WrittenCommon F C) where
  abbrev b : Batch S F E C
  b = batch_of c p declaration trees instances common

  module _ (bits counts : List ℕ) (bits_are : bits ≡ b.degree_bits) (counts_are : counts ≡ tabulate (table_count b) (λ i. 2 ^ log_parts_at b i)) where
    plan_same : plan_of declaration instances common bits counts ≡ plan_in b
    plan_same = λ i. record { declarations = declared_are declaration trees instances i; common = b.statement.common; degree_bits = bits_are i; chunk_counts = counts_are i }

    pub asked_same : {D : Type 0} (kept : RoundsProverData D) (w : Option F) (z : F) (x : E) (m : ℕ) (requests : List (Request D E)) → x ≡ zeta c p b.statement b.traces b.degree_bits w z → m ≡ masks c
        → requests ≡ asked (plan_of declaration instances common bits counts) x (next_by c.extension.ring c.extension.embed c.field.root m x) kept → requests ≡ asked_of b kept w z
    asked_same kept w z x m requests point masked e = e ∙ (λ i. asked (plan_same i) (point i) (next_by c.extension.ring c.extension.embed c.field.root (masked i) (point i)) kept)
