-- Tables whose AIRs are equations between main cells and public values, without lookups: when their traces meet their constraints, and what an accepted proof says of
-- their rows.
use Rattle.std.proofs.Common.{◌≡◌, ℕ, ◌^◌, ◌<◌, ◌≤◌, List, [], length, get_or, None, refl, sym, ◌∙◌, ap, subst, arith}
use Rattle.std.specs.Prelude.{All, replicate}
use Rattle.std.proofs.lemmas.List.{get_or_default, length-map}
use Rattle.p3_field.specs.BabyBear.{baby_bear_ring}
use Rattle.p3_field.specs.Laws.Tabulate.{length-tabulate}
use Rattle.p3_field.specs.Quartic.{quartic_inv}
use Rattle.p3_field.specs.declared.baby_bear.BabyBear.{BabyBear}
use Rattle.p3_matrix.specs.Matrix.{height, row_at}
use Rattle.air_core.specs.Laws.Lists.{all_tabulate}
use Rattle.air_core.specs.Shape.{Declaration, HasWholeRows, IsInteraction, declared_shape}
use Rattle.air_core.specs.Tree.{Interaction, Tree}
use Rattle.air_equations.specs.Equation.{Equation, equation_trees}
use Rattle.air_equations.specs.Meets.{IsPlainEquation, Meets}
use Rattle.p3_lookup.specs.Lookup.{LookupData}
use Rattle.plain_pcs.specs.Scheme.{PlainCommitmentData}
use Rattle.batch_setup.specs.Packed.{packed_at, packed_lookups, source_of}
use Rattle.batch_setup.specs.Setup.{Instance, airs_of, bits_of}
use Rattle.batch_statement.specs.Statement.{Statement}
use Rattle.batch_statement.specs.Words.{bits_at}
use Rattle.law_committed.specs.Committed.{Holds}
use Rattle.law_committed.specs.Fields.{FieldsLaws, baby_bear_field, quartic_extension}
use Rattle.law_joining.specs.Laws.Alone.{alone_balanced, alone_bounded}
use Rattle.law_joining.specs.Laws.Equations.{equations_fit, equations_hold, holds_meets, main_rows_are}
use Rattle.law_joining.specs.Laws.Joined.{each}
use Rattle.law_joining.specs.Laws.Tables.{table_divided, table_traced}
use Rattle.law_joining.specs.Shaped.{IsShaped, IsWhole, log_rows_of, source_of_instance, traced_instance}
use Rattle.law_committed.specs.BaseRows.{main_row}
use Rattle.law_soundness.specs.CommittedBatch.{committed_table_at}
use Rattle.law_soundness.specs.Laws.SwapTables.{first_of}
use Rattle.law_soundness.specs.Meaning.{CommittedTablesHold, HoldUnlessUnlucky, IsAlphaUnlucky, IsZetaUnlucky}
use Rattle.law_valid.specs.Traced.{TracedTable, all_traced}
use Rattle.law_valid.specs.Valid.{AllFit, OwnHold}
use Rattle.prover_answer.specs.Batch.{table_at, table_count}
use Rattle.prover_answer.specs.PlainBackend.{baby_bear_prover}
use Rattle.tool_airs.specs.Airs.{AirsBatch, AirsProof, AreMet, airs_batch, airs_common, same_value, sources_of_airs}
use Rattle.tool_airs.specs.Laws.Alone.{IsAlone, alone_met, sends_nothing, table_of, whole_alone}
use Rattle.tool_airs.specs.Laws.Serving.{serves}
use Rattle.transcript_version.specs.declared.TranscriptVersion.TheVariants.{V2}
use Rattle.tool_statement.specs.Config.{tool_scheme, tool_setting}

-- an AIR is given by equations, and has nothing else
pub record IsEquational {A : Type 0} (declaration : A → Declaration BabyBear) (trees : A → List (Tree BabyBear)) (interactions : A → List (Interaction BabyBear)) (equations : A → List (Equation BabyBear)) (a : A) : Type 0 where
  pub trees_are : trees a ≡ equation_trees (equations a)
  pub plain : All IsPlainEquation (equations a)
  pub sends_none : interactions a ≡ []
  pub no_periodic : (declaration a).periodic ≡ []
  pub no_preprocessed : (declaration a).preprocessed ≡ None

module _ {A : Type 0} (declaration : A → Declaration BabyBear) (trees : A → List (Tree BabyBear)) (interactions : A → List (Interaction BabyBear)) (equations : A → List (Equation BabyBear))
    (E : (a : A) → IsEquational declaration trees interactions equations a) (L : FieldsLaws baby_bear_field quartic_extension 27 quartic_inv) (instances : List (Instance A BabyBear))
    (shaped : All (IsShaped (tool_setting V2) declaration trees interactions) instances)
    (meets : All (λ i. Meets baby_bear_ring (row_at i.trace) i.public_values (height i.trace) (equations i.air)) instances) where
  abbrev alone : (a : A) → IsAlone declaration interactions a
  alone a = record { sends_none = (E a).sends_none; no_preprocessed = (E a).no_preprocessed }

  abbrev table : Instance A BabyBear → TracedTable BabyBear
  table i = table_of declaration trees interactions alone i

  whole : (i : Instance A BabyBear) → IsWhole (source_of_instance (tool_setting V2) declaration trees interactions i)
  whole i = whole_alone declaration trees interactions alone i

  one_holds : (i : Instance A BabyBear) → IsShaped (tool_setting V2) declaration trees interactions i → Meets baby_bear_ring (row_at i.trace) i.public_values (height i.trace) (equations i.air) → OwnHold (tool_setting V2) (table i)
  unfolding tool_setting
  one_holds i H m =
      let Z = serves L in
      let T = table_traced (tool_setting V2) quartic_inv Z declaration trees interactions i (whole i) H in
      let Q = table_divided (tool_setting V2) quartic_inv Z declaration trees interactions i (whole i) H in
      equations_hold (tool_setting V2) quartic_inv Z.fields Z.plain (table i) (equations i.air) (E i.air).trees_are (E i.air).plain T Q
      (subst (λ n. Meets baby_bear_ring (row_at i.trace) i.public_values n (equations i.air)) T.rows.tall m)

  one_fits : (i : Instance A BabyBear) → IsShaped (tool_setting V2) declaration trees interactions i → AllFit (tool_setting V2) (table i)
  one_fits i H =
      let Z = serves L in
      let T = table_traced (tool_setting V2) quartic_inv Z declaration trees interactions i (whole i) H in
      let Q = table_divided (tool_setting V2) quartic_inv Z declaration trees interactions i (whole i) H in
      equations_fit (tool_setting V2) quartic_inv Z.fields Z.plain (table i) (equations i.air) (E i.air).trees_are (E i.air).plain T Q (sends_nothing declaration trees interactions alone i) (E i.air).no_periodic

  -- the traces meet the constraints
  pub equations_met : AreMet (airs_batch declaration trees interactions instances)
  equations_met =
      alone_met declaration trees interactions alone L instances shaped (λ j d l. one_holds (get_or instances j d) (shaped j d l) (meets j d l)) (λ j d l. one_fits (get_or instances j d) (shaped j d l))

-- where the tables of an accepted proof hold, the rows of such a table meet its equations
pub rows_meet : FieldsLaws baby_bear_field quartic_extension 27 quartic_inv → (qs : List (Equation BabyBear)) → All IsPlainEquation qs
    → (s : Statement BabyBear (PlainCommitmentData BabyBear)) (p : AirsProof) (i log_rows : ℕ) → bits_at p.degree_bits i ≡ log_rows → log_rows ≤ 27 → HoldUnlessUnlucky (tool_setting V2) 1 s p
    → (CommittedTablesHold (tool_setting V2) 1 s p → Holds baby_bear_field quartic_extension (committed_table_at (tool_setting V2) 1 s p i) (equation_trees qs))
    → (IsAlphaUnlucky (tool_setting V2) 1 s p → ⊥) → (IsZetaUnlucky (tool_setting V2) 1 s p → ⊥)
    → Meets baby_bear_ring (main_row baby_bear_field (committed_table_at (tool_setting V2) 1 s p i)) (get_or s.publics i []) (2 ^ log_rows) qs
rows_meet L qs plain s p i log_rows high low holds own no_alpha no_zeta =
    let t = committed_table_at (tool_setting V2) 1 s p i in
    subst (λ k. Meets baby_bear_ring (main_row baby_bear_field t) (get_or s.publics i []) (2 ^ k) qs) high
    (holds_meets baby_bear_field quartic_extension 27 quartic_inv L t (omega (arith, high, low)) (main_row baby_bear_field t) (λ j h. main_rows_are baby_bear_field quartic_extension 27 quartic_inv L t (omega (arith, high, low)) j)
    qs plain (own (first_of holds no_alpha no_zeta)))
