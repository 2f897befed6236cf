-- Tables whose AIRs send nothing: their traces meet the constraints where each AIR's own are zero on its trace's rows, and fit.
use Rattle.std.proofs.Common.{◌≡◌, ℕ, ◌<◌, List, [], length, get_or, None, refl, sym, ◌∙◌, ap, subst, arith}
use Rattle.std.specs.Prelude.{All, replicate}
use Rattle.std.proofs.lemmas.List.{get_or_default, length-map}
use Rattle.p3_field.specs.BabyBear.{baby_bear_ring}
use Rattle.p3_field.specs.Laws.Tabulate.{length-tabulate}
use Rattle.p3_field.specs.Quartic.{quartic_inv}
use Rattle.p3_field.specs.declared.baby_bear.BabyBear.{BabyBear}
use Rattle.air_core.specs.Laws.Lists.{all_tabulate}
use Rattle.air_core.specs.Shape.{Declaration, HasWholeRows, IsInteraction, declared_shape}
use Rattle.air_core.specs.Tree.{Interaction, Tree}
use Rattle.batch_setup.specs.Packed.{packed_at, packed_lookups}
use Rattle.batch_setup.specs.Setup.{Instance, airs_of, bits_of}
use Rattle.law_committed.specs.Fields.{FieldsLaws, baby_bear_field, quartic_extension}
use Rattle.law_joining.specs.Laws.Alone.{alone_balanced, alone_bounded}
use Rattle.law_joining.specs.Laws.Joined.{each}
use Rattle.law_joining.specs.Shaped.{IsShaped, IsWhole, log_rows_of, source_of_instance, traced_instance}
use Rattle.law_valid.specs.Traced.{TracedTable, all_traced}
use Rattle.law_valid.specs.Valid.{AllFit, OwnHold}
use Rattle.prover_answer.specs.Batch.{table_at, table_count}
use Rattle.prover_answer.specs.PlainBackend.{baby_bear_prover}
use Rattle.tool_airs.specs.Airs.{AirsBatch, AreMet, airs_batch, airs_common, same_value, sources_of_airs}
use Rattle.tool_airs.specs.Laws.Serving.{serves}
use Rattle.transcript_version.specs.declared.TranscriptVersion.TheVariants.{V2}
use Rattle.tool_statement.specs.Config.{tool_scheme, tool_setting}

-- an AIR sends nothing, and has no preprocessed trace
pub record IsAlone {A : Type 0} (declaration : A → Declaration BabyBear) (interactions : A → List (Interaction BabyBear)) (a : A) : Type 0 where
  pub sends_none : interactions a ≡ []
  pub no_preprocessed : (declaration a).preprocessed ≡ None

module _ {A : Type 0} (declaration : A → Declaration BabyBear) (trees : A → List (Tree BabyBear)) (interactions : A → List (Interaction BabyBear)) (E : (a : A) → IsAlone declaration interactions a) where
  -- the table of an instance
  abbrev pub table_of : Instance A BabyBear → TracedTable BabyBear
  table_of i = traced_instance (tool_setting V2) declaration trees interactions i

  pub whole_alone : (i : Instance A BabyBear) → IsWhole (source_of_instance (tool_setting V2) declaration trees interactions i)
  whole_alone i = record {
    rows = subst HasWholeRows (sym (E i.air).no_preprocessed) tt;
    interactions = subst (λ is. All (IsInteraction (declared_shape (declaration i.air))) is) (sym (E i.air).sends_none) (λ k d l. absurd (omega (arith, l)));
  }

  pub sends_nothing : (i : Instance A BabyBear) → (table_of i).lookups ≡ []
  unfolding tool_setting
  sends_nothing i =
      ap (λ (is : List (Interaction BabyBear)). packed_lookups baby_bear_ring 0 (log_rows_of i) 0 (record { declaration = declaration i.air; trees = trees i.air; interactions = is })) (E i.air).sends_none

  module _ (L : FieldsLaws baby_bear_field quartic_extension 27 quartic_inv) (instances : List (Instance A BabyBear)) (shaped : All (IsShaped (tool_setting V2) declaration trees interactions) instances) where
    abbrev b : AirsBatch
    b = airs_batch declaration trees interactions instances

    -- what holds of each instance's table holds of each table of the batch
    pub of_each : (Q : TracedTable BabyBear → Type 0) → All (λ i. Q (table_of i)) instances → (i : ℕ) → i < table_count b → Q (table_at b i)
    unfolding tool_setting airs_common
    of_each Q all i h =
        each {P = Unit {0}} (tool_setting V2) quartic_inv (serves L) (baby_bear_prover tool_scheme) declaration trees interactions instances (λ j d l. whole_alone (get_or instances j d)) shaped (λ _ _. ⊥) (λ es w k. absurd k)
        (airs_common declaration trees interactions (airs_of instances) (bits_of 0 instances)) None refl Q all i h

    no_lookups : (i : ℕ) → i < table_count b → (table_at b i).lookups ≡ []
    no_lookups = of_each (λ t. t.lookups ≡ []) (λ j d l. sends_nothing (get_or instances j d))

    none_listed : All (λ ls. ls ≡ []) b.statement.common.lookups
    unfolding airs_common
    none_listed i d l =
        let ls = b.statement.common.lookups in
        let airs = airs_of instances in
        let many : length ls ≡ length airs = length-tabulate (length airs) (packed_at baby_bear_ring 0 (sources_of_airs declaration trees interactions airs) (bits_of 0 instances) (replicate (length airs) 0)) in
        let tables : table_count b ≡ length airs = length-map airs (λ (a : A). record { declaration = declaration a; trees = trees a }) in
        get_or_default ls i d [] l ∙ no_lookups i (omega (arith, l, many, tables))

    -- the traces meet the constraints
    pub alone_met : All (λ i. OwnHold (tool_setting V2) (table_of i)) instances → All (λ i. AllFit (tool_setting V2) (table_of i)) instances → AreMet b
    unfolding tool_setting
    alone_met holds fits = record {
      holds = of_each (OwnHold (tool_setting V2)) holds;
      fits = of_each (AllFit (tool_setting V2)) fits;
      bounded = alone_bounded (tool_setting V2).order b.statement.common.lookups _ none_listed;
      balanced = alone_balanced (tool_setting V2) same_value (all_traced b.statement b.traces b.degree_bits) (all_tabulate (λ (t : TracedTable BabyBear). t.lookups ≡ []) (table_count b) (table_at b) no_lookups);
    }
