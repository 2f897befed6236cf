-- What is made of AIRs, with traces of the declared shapes, is what a prover of a batch asks for.
use Rattle.std.proofs.Common.{◌≡◌, ℕ, zero, suc, ◌+◌, ◌<◌, cond, List, [], ◌∷◌, length, get_or, map, replicate, Option, None, Some, refl, sym, ◌∙◌, ap, subst, arith}
use Rattle.std.specs.Prelude.{All}
use Rattle.std.proofs.lemmas.List.{get_or-map, length-map}
use Rattle.p3_field.specs.Domain.{CosetData}
use Rattle.p3_field.specs.Laws.Tabulate.{get_or-tabulate, length-tabulate}
use Rattle.p3_field.specs.Poly.{tabulate}
use Rattle.p3_field.specs.Ring.{Ring}
use Rattle.p3_matrix.specs.Matrix.{Rows, height}
use Rattle.air_core.specs.Shape.{Declaration}
use Rattle.air_core.specs.Tree.{Interaction, Tree}
use Rattle.verifier_claims.specs.ClaimChecks.{HasDegreeBits}
use Rattle.batch_config.specs.Setting.{Setting, masks}
use Rattle.batch_setup.specs.Packed.{Source, no_source, packed_at, packed_lookups, source_of}
use Rattle.batch_setup.specs.Preprocessed.{IsPrepared, committed_trace_at, committed_below, entry_at, on_domain}
use Rattle.batch_setup.specs.Setup.{Instance, airs_of, bits_of, log_of}
use Rattle.verifier_shape.specs.ShapeChecks.{HasEntries}
use Rattle.batch_statement.specs.Words.{no_table}
use Rattle.batch_statement.specs.Statement.{AirTable, Common, PreprocessedTracesData, Statement, WellFormed, entry_of, tables_of}
use Rattle.batch_statement.specs.declared.preprocessed.PreprocessedInstanceMeta.{PreprocessedInstanceMeta}
use Rattle.law_committed.specs.Laws.Values.{maps}
use Rattle.law_honest.specs.HonestProof.{Prover}
use Rattle.law_valid.specs.Laws.Made.{entry_bits, made_commits, made_entries, made_entry, matrices_are}
use Rattle.law_valid.specs.Traced.{TracedTable, all_traced, declared, no_rows, preprocessed_matrices, traced_at}
use Rattle.law_valid.specs.Valid.{CommitsToMatrices, HasQuotientDomain, IsTraced}
use Rattle.prover_answer.specs.Batch.{Batch, HasProverData, IsTracedAll, preprocessed_all, table_at}
use Rattle.law_joining.specs.Shaped.{IsShaped, IsWhole, Serves, log_rows_of, source_of_instance, traced_instance}
use Rattle.law_joining.specs.Laws.Tables.{table_divided, table_traced}

-- what is prepared is kept
pub kept_with : {T C P : Type 0} (commits : List T → C × P → Type 0) (entries : List (Option PreprocessedInstanceMeta)) (es : List T) (p : Option (PreprocessedTracesData C)) (kept : Option P) → IsPrepared commits entries es p kept
    → HasProverData commits es p kept
kept_with commits entries [] p kept h = subst (λ q. HasProverData commits [] q kept) (sym h.0) (subst (HasProverData commits [] None) (sym h.1) tt)
kept_with commits entries (e ∷ es) None kept h = absurd h
kept_with commits entries (e ∷ es) (Some g) None h = absurd h
kept_with commits entries (e ∷ es) (Some g) (Some d) h = h.2

none_asked : (n i : ℕ) → ◌≡◌ {A = ℕ} (get_or (replicate n 0) i 0) 0
none_asked zero i = refl
none_asked (suc n) zero = refl
none_asked (suc n) (suc i) = none_asked n i

module _ {S F E C A P : Type 0} (c : Setting S F E C) (inverse : E → E) (Z : Serves c inverse) (prover : Prover F E C) (declaration : A → Declaration F) (trees : A → List (Tree F)) (interactions : A → List (Interaction F))
    (instances : List (Instance A F)) (whole : All (λ i. IsWhole (source_of_instance c declaration trees interactions i)) instances) (shaped : All (IsShaped c declaration trees interactions) instances)
    (commits : List (CosetData F × Rows F) → C × P → Type 0) (one_commitment : (es : List (CosetData F × Rows F)) (w : C × P) → commits es w → w.0 ≡ prover.commitment_of es)
    (common : Common F C) (kept : Option P) where
  abbrev r : Ring F
  r = c.field.ring

  abbrev airs : List A
  airs = airs_of instances

  abbrev bits : List ℕ
  bits = bits_of 0 instances

  abbrev sources : List (Source F)
  sources = map (source_of declaration trees interactions) airs

  abbrev entries : List (Option PreprocessedInstanceMeta)
  entries = tabulate (length airs) (entry_at r.one sources bits)

  abbrev matrices : List (CosetData F × Rows F)
  matrices = committed_below r.one sources bits (length airs)

  abbrev table_for : A → AirTable F
  table_for a = record { declaration = declaration a; trees = trees a }

  -- the batch of instances with this common data
  abbrev pub b : Batch S F E C
  b = record {
    setting = c;
    prover = prover;
    statement = record { tables = tables_of declaration trees airs; publics = map (λ i. i.public_values) instances; common = common };
    traces = map (λ i. i.trace) instances;
    degree_bits = bits_of (masks c) instances;
  }

  none_masked : masks c ≡ 0
  none_masked = ap (λ z. cond z 1 0) Z.plain

  bits_are : bits_of (masks c) instances ≡ bits
  bits_are = ap (λ m. bits_of m instances) none_masked

  airs_long : length airs ≡ length instances
  airs_long = length-map instances (λ (i : Instance A F). i.air)

  tables_long : length b.statement.tables ≡ length airs
  tables_long = length-map airs table_for

  module _ (lookups_are : common.lookups ≡ tabulate (length airs) (packed_at r 0 sources bits (replicate (length airs) 0))) where
    -- the tables of the batch are those of its instances
    table_is : (d : Instance A F) (i : ℕ) → i < length instances → table_at b i ≡ traced_instance c declaration trees interactions (get_or instances i d)
    table_is d i h =
        let x = get_or instances i d in
        let room : i < length airs = let n = airs_long in omega (arith, h, n) in
        let air_is : get_or airs i d.air ≡ x.air = get_or-map (λ (j : Instance A F). j.air) instances i d d.air h in
        let source_is : get_or sources i no_source ≡ source_of declaration trees interactions x.air =
        get_or-map (source_of declaration trees interactions) airs i d.air no_source room ∙ ap (source_of declaration trees interactions) air_is in
        let none : log_rows_of x + 0 ≡ log_rows_of x = omega arith in
        let bit_is : get_or bits i 0 ≡ log_rows_of x = get_or-map (λ (j : Instance A F). log_of (height j.trace) + 0) instances i d 0 h ∙ none in
        λ q. record {
          table = (get_or-map table_for airs i d.air no_table room ∙ ap table_for air_is) q;
          lookups = (ap (λ l. get_or l i []) lookups_are ∙ (get_or-tabulate (length airs) (packed_at r 0 sources bits (replicate (length airs) 0)) i [] room
              ∙ (λ k. packed_lookups r 0 (bit_is k) (none_asked (length airs) i k) (source_is k)))) q;
          publics = get_or-map (λ (j : Instance A F). j.public_values) instances i d [] h q;
          trace = get_or-map (λ (j : Instance A F). j.trace) instances i d no_rows h q;
          degree_bits = (ap (λ l. get_or l i 0) bits_are ∙ bit_is) q;
        }

    -- what holds of each instance's table holds of each table of the batch
    pub each : (Q : TracedTable F → Type 0) → ((j : ℕ) (d : Instance A F) → j < length instances → Q (traced_instance c declaration trees interactions (get_or instances j d))) → (i : ℕ) → i < length b.statement.tables → Q (table_at b i)
    each Q all i h = from instances refl
      where
        from : (xs : List (Instance A F)) → xs ≡ instances → Q (table_at b i)
        from [] e = let n = airs_long in let m = tables_long in let k : length instances ≡ 0 = ap length (sym e) in absurd (omega (arith, h, n, m, k))
        from (d ∷ xs) e =
            let l : i < length instances = let n = airs_long in let m = tables_long in omega (arith, h, n, m) in
            subst Q (sym (table_is d i l)) (all i d l)

    module _ (prepared : IsPrepared commits entries matrices common.preprocessed kept) where
      -- the degree bits of the batch's tables
      bit_there : (i : ℕ) → (table_at b i).degree_bits ≡ get_or bits i 0
      bit_there i = ap (λ l. get_or l i 0) bits_are

      prepared_is : (i : ℕ) → i < length airs → on_domain r.one (table_at b i).degree_bits (declared (table_at b i)).preprocessed ≡ committed_trace_at r.one sources bits i
      prepared_is i h = from airs refl
        where
          from : (xs : List A) → xs ≡ airs → on_domain r.one (table_at b i).degree_bits (declared (table_at b i)).preprocessed ≡ committed_trace_at r.one sources bits i
          from [] e = let n : length airs ≡ 0 = ap length (sym e) in absurd (omega (arith, h, n))
          from (a ∷ xs) e =
              let own : (declared (table_at b i)).preprocessed ≡ (declaration (get_or airs i a)).preprocessed = ap (λ (t : AirTable F). t.declaration.preprocessed) (get_or-map table_for airs i a no_table h) in
              let made : (get_or sources i no_source).declaration.preprocessed ≡ (declaration (get_or airs i a)).preprocessed = ap (λ (x : Source F). x.declaration.preprocessed) (get_or-map (source_of declaration trees interactions) airs i a no_source h) in
              λ q. on_domain r.one (bit_there i q) ((own ∙ sym made) q)

      matrices_there : matrices ≡ preprocessed_all b
      matrices_there =
          matrices_are r.one sources bits (table_at b) (length airs) prepared_is
          ∙ ap (λ n. preprocessed_matrices r.one (tabulate n (table_at b))) (sym tables_long)

      -- its prover data belongs to its commitment
      pub batch_kept : HasProverData commits (preprocessed_all b) b.statement.common.preprocessed kept
      batch_kept = subst (λ ms. HasProverData commits ms common.preprocessed kept) matrices_there (kept_with commits entries matrices common.preprocessed kept prepared)

      committed : CommitsToMatrices prover.commitment_of (preprocessed_all b) common.preprocessed
      committed =
          subst (λ es. CommitsToMatrices prover.commitment_of es common.preprocessed) matrices_there
          (made_commits commits prover.commitment_of one_commitment entries matrices common.preprocessed kept prepared)

      counted : HasEntries (length b.statement.tables) common.preprocessed
      counted =
          subst (λ n. HasEntries n common.preprocessed) (length-tabulate (length airs) (entry_at r.one sources bits) ∙ sym tables_long)
          (made_entries commits prover.commitment_of one_commitment entries matrices common.preprocessed kept prepared)

      listed : (i : ℕ) → i < length b.statement.tables → HasDegreeBits (table_at b i).degree_bits (entry_of common.preprocessed i)
      listed i h =
          subst (λ n. HasDegreeBits n (entry_of common.preprocessed i)) (sym (bit_there i))
          (made_entry commits prover.commitment_of one_commitment entries (HasDegreeBits (get_or bits i 0)) i tt (entry_bits r.one sources bits (length airs) i (let e = tables_long in omega (arith, h, e)))
          matrices common.preprocessed kept prepared)

      module _ (formed : WellFormed (map declaration airs) common) where
        formed_there : WellFormed (map (λ (t : AirTable F). t.declaration) b.statement.tables) common
        formed_there =
            subst (λ ds. WellFormed ds common)
            (sym (maps (λ (t : AirTable F). t.declaration) table_for declaration (λ a. refl) airs)) formed

        publics_long : length b.statement.publics ≡ length b.statement.tables
        publics_long = length-map instances (λ (j : Instance A F). j.public_values) ∙ (sym airs_long ∙ sym tables_long)

        lookups_long : length common.lookups ≡ length b.statement.tables
        lookups_long = ap length lookups_are ∙ (length-tabulate (length airs) (packed_at r 0 sources bits (replicate (length airs) 0)) ∙ sym tables_long)

        traces_long : length b.traces ≡ length b.statement.tables
        traces_long = length-map instances (λ (j : Instance A F). j.trace) ∙ (sym airs_long ∙ sym tables_long)

        bits_long : length b.degree_bits ≡ length b.statement.tables
        bits_long = length-map instances (λ (j : Instance A F). log_of (height j.trace) + masks c) ∙ (sym airs_long ∙ sym tables_long)

        -- it is traced, as a prover asks
        pub batch_traced : IsTracedAll b
        batch_traced = record {
          formed = formed_there;
          lists = record { publics_long = publics_long; lookups_long = lookups_long; entries_long = counted; traces_long = traces_long; bits_long = bits_long };
          committed = committed;
          entries = listed;
          traced = each (IsTraced c) (λ j d l. table_traced c inverse Z declaration trees interactions (get_or instances j d) (whole j d l) (shaped j d l));
          domains = each (HasQuotientDomain c) (λ j d l. table_divided c inverse Z declaration trees interactions (get_or instances j d) (whole j d l) (shaped j d l));
        }
