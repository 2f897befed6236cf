-- What is made of a statement's tables is their shared data.
use Rattle.std.proofs.Common.{◌≡◌, ℕ, List, [], ◌∷◌, ◌++◌, length, map, All, replicate, Option, None, Some, sym, ◌∙◌, ap, subst}
use Rattle.std.proofs.lemmas.List.{length-map}
use Rattle.p3_field.specs.BabyBear.{baby_bear_ring, baby_bear_inv, baby_bear_root, reduce}
use Rattle.p3_field.specs.Domain.{CosetData}
use Rattle.p3_field.specs.Poly.{tabulate}
use Rattle.p3_field.specs.declared.baby_bear.BabyBear.{BabyBear}
use Rattle.p3_matrix.specs.Matrix.{Rows}
use Rattle.p3_lookup.specs.Lookup.{LookupData}
use Rattle.plain_pcs.specs.Extension.{commitment_of}
use Rattle.plain_pcs.specs.Scheme.{Blowup, PlainCommitmentData, Scheme, scheme}
use Rattle.commit_core.specs.Commitments.{Committed, IsCommitment}
use Rattle.batch_statement.specs.Statement.{PreprocessedTracesData}
use Rattle.batch_statement.specs.declared.preprocessed.PreprocessedInstanceMeta.{PreprocessedInstanceMeta}
use Rattle.batch_setup.specs.Packed.{Source, packed_at, source_of}
use Rattle.batch_setup.specs.Preprocessed.{IsPrepared, committed_below, entry_at}
use Rattle.p3_field.specs.Checks.{FirstFails, NoneFails}
use Rattle.p3_field.specs.Laws.Checks.{none_first}
use Rattle.plain_pcs.specs.Refusals.{CommitFault}
use Rattle.plain_pcs.specs.declared.error.PlainProverError.{PlainProverError}
use Rattle.batch_setup.specs.SetupChecks.{degree_checks, trace_checks}
use Rattle.batch_setup.specs.declared.error.SetupError.{SetupError}
use Rattle.tool_statement.proofs.Granted.{granted}
use Rattle.tool_tables.specs.Tool.{tool_declaration, tool_interactions, tool_trees}
use Rattle.tool_tables.specs.declared.tool.ToolAir.{ToolAir}
use Rattle.tool_statement.specs.Config.{tool_scheme}
use Rattle.tool_statement.specs.StatedTables.{TableWithin, entries_of, log_heights_of, preprocessed_commitment_of, preprocessed_traces, source_of_table, sources_of, tool_common}
use Rattle.tool_statement.specs.declared.table.TableStatement.{TableStatement}

abbrev traces : Type 0
traces = List (CosetData BabyBear × Rows BabyBear)

-- what was prepared of given traces and entries is the commitment to them
prepared_is : {P : Type 0} (commits : traces → PlainCommitmentData BabyBear × P → Type 0) → ((es : traces) (w : PlainCommitmentData BabyBear × P) → commits es w → w.0 ≡ commitment_of tool_scheme es)
    → (entries : List (Option PreprocessedInstanceMeta)) (es : traces) (p : Option (PreprocessedTracesData (PlainCommitmentData BabyBear))) (kept : Option P)
    → IsPrepared commits entries es p kept → p ≡ preprocessed_commitment_of entries es
prepared_is commits is entries [] p kept h = h.0
prepared_is commits is entries (e ∷ es) None kept h = absurd h
prepared_is commits is entries (e ∷ es) (Some g) None h = absurd h
prepared_is commits is entries (e ∷ es) (Some g) (Some d) h =
    let one = is (e ∷ es) (g.commitment, d) h.2 in
    let two = h.0 in
    let three = h.1 in
    λ i. Some (record { commitment = one i; instances = two i; matrix_to_instance = three i })

-- what the scheme with this blowup commits to
abbrev Commits : {P : Type 0} → (CosetData BabyBear → ℕ) → (CosetData BabyBear → ℕ → BabyBear) → (P → Type 0) → (P → PlainCommitmentData BabyBear → List (Committed BabyBear) → Type 0) → Blowup → traces → PlainCommitmentData BabyBear × P → Type 0
Commits points point_at made holds b es w =
    IsCommitment baby_bear_ring points point_at (λ es c. c ≡ commitment_of (scheme baby_bear_ring baby_bear_inv baby_bear_root (reduce 31) 27 b) es) made holds es w

committed : {P : Type 0} (points : CosetData BabyBear → ℕ) (point_at : CosetData BabyBear → ℕ → BabyBear) (made : P → Type 0) (holds : P → PlainCommitmentData BabyBear → List (Committed BabyBear) → Type 0) (b : Blowup) → b ≡ record { log_blowup = 1 }
    → (es : traces) (w : PlainCommitmentData BabyBear × P) → Commits points point_at made holds b es w → w.0 ≡ commitment_of tool_scheme es
committed points point_at made holds b e es w f = f.commitment_is ∙ ap (λ (s : Blowup). commitment_of (scheme baby_bear_ring baby_bear_inv baby_bear_root (reduce 31) 27 s) es) e

module _ (tables : List TableStatement) (airs : List (ToolAir BabyBear)) (same : map (source_of (tool_declaration baby_bear_ring) (tool_trees baby_bear_ring) (tool_interactions baby_bear_ring)) airs ≡ sources_of tables) where
  pub as_many : length airs ≡ length tables
  as_many = sym (length-map airs (source_of (tool_declaration baby_bear_ring) (tool_trees baby_bear_ring) (tool_interactions baby_bear_ring))) ∙ (ap length same ∙ length-map tables source_of_table)

  -- so the shared data is that of the tables
  pub common_is : {P : Type 0} (bits : List ℕ) (lookups : List (List (LookupData BabyBear))) (p : Option (PreprocessedTracesData (PlainCommitmentData BabyBear))) (kept : Option P)
      (points : CosetData BabyBear → ℕ) (point_at : CosetData BabyBear → ℕ → BabyBear) (made : P → Type 0) (holds : P → PlainCommitmentData BabyBear → List (Committed BabyBear) → Type 0) (b : Blowup) → b ≡ record { log_blowup = 1 }
      → bits ≡ log_heights_of tables
      → lookups ≡ tabulate (length airs) (packed_at baby_bear_ring 0 (map (source_of (tool_declaration baby_bear_ring) (tool_trees baby_bear_ring) (tool_interactions baby_bear_ring)) airs) bits (replicate (length airs) 0))
      → IsPrepared (Commits points point_at made holds b) (tabulate (length airs) (entry_at baby_bear_ring.one (map (source_of (tool_declaration baby_bear_ring) (tool_trees baby_bear_ring) (tool_interactions baby_bear_ring)) airs) bits))
      (committed_below baby_bear_ring.one (map (source_of (tool_declaration baby_bear_ring) (tool_trees baby_bear_ring) (tool_interactions baby_bear_ring)) airs) bits (length airs)) p kept
      → record { preprocessed = p; lookups = lookups } ≡ tool_common tables
  unfolding tool_common
  common_is bits lookups p kept points point_at made holds blowup e b l h =
      let n = as_many in
      let entries : tabulate (length airs) (entry_at baby_bear_ring.one (map (source_of (tool_declaration baby_bear_ring) (tool_trees baby_bear_ring) (tool_interactions baby_bear_ring)) airs) bits) ≡ entries_of tables
      = λ i. tabulate (n i) (entry_at baby_bear_ring.one (same i) (b i)) in
      let given : committed_below baby_bear_ring.one (map (source_of (tool_declaration baby_bear_ring) (tool_trees baby_bear_ring) (tool_interactions baby_bear_ring)) airs) bits (length airs) ≡ preprocessed_traces tables
      = λ i. committed_below baby_bear_ring.one (same i) (b i) (n i) in
      let made : p ≡ preprocessed_commitment_of (entries_of tables) (preprocessed_traces tables) = prepared_is (Commits points point_at made holds blowup) (λ es w f. committed points point_at made holds blowup e es w f) _ _ p kept h ∙ (λ i. preprocessed_commitment_of (entries i) (given i)) in
      let looked : lookups ≡ tabulate (length tables) (packed_at baby_bear_ring 0 (sources_of tables) (log_heights_of tables) (replicate (length tables) 0))
      = l ∙ (λ i. tabulate (n i) (packed_at baby_bear_ring 0 (same i) (b i) (replicate (n i) 0))) in
      λ i. record { preprocessed = made i; lookups = looked i }

  -- and what is kept beside it is what the plain scheme keeps of the tables' preprocessed traces
  pub kept_is : {P : Type 0} (bits : List ℕ) (p : Option (PreprocessedTracesData (PlainCommitmentData BabyBear))) (kept : Option P)
      (points : CosetData BabyBear → ℕ) (point_at : CosetData BabyBear → ℕ → BabyBear) (made : P → Type 0) (holds : Scheme BabyBear → P → PlainCommitmentData BabyBear → List (Committed BabyBear) → Type 0) (b : Blowup) → b ≡ record { log_blowup = 1 }
      → bits ≡ log_heights_of tables
      → IsPrepared (Commits points point_at made (holds (scheme baby_bear_ring baby_bear_inv baby_bear_root (reduce 31) 27 b)) b) (tabulate (length airs) (entry_at baby_bear_ring.one (map (source_of (tool_declaration baby_bear_ring) (tool_trees baby_bear_ring) (tool_interactions baby_bear_ring)) airs) bits))
      (committed_below baby_bear_ring.one (map (source_of (tool_declaration baby_bear_ring) (tool_trees baby_bear_ring) (tool_interactions baby_bear_ring)) airs) bits (length airs)) p kept
      → IsPrepared (λ es w. IsCommitment baby_bear_ring points point_at (λ es c. c ≡ commitment_of tool_scheme es) made (holds tool_scheme) es w) (entries_of tables) (preprocessed_traces tables) p kept
  kept_is {P} bits p kept points point_at made holds blowup e l h =
      let n = as_many in
      let commits : Blowup → traces → PlainCommitmentData BabyBear × P → Type 0 = λ s es w. Commits points point_at made (holds (scheme baby_bear_ring baby_bear_inv baby_bear_root (reduce 31) 27 s)) s es w in
      let Prepared : Blowup → List (Source BabyBear) → List ℕ → ℕ → Type 0 = λ s sources bits count. IsPrepared (commits s) (tabulate count (entry_at baby_bear_ring.one sources bits)) (committed_below baby_bear_ring.one sources bits count) p kept in
      subst (λ (s : Blowup). Prepared s (sources_of tables) (log_heights_of tables) (length tables)) e
      (subst (λ (s : List (Source BabyBear)). Prepared blowup s (log_heights_of tables) (length tables)) same
      (subst (λ (k : List ℕ). Prepared blowup (map (source_of (tool_declaration baby_bear_ring) (tool_trees baby_bear_ring) (tool_interactions baby_bear_ring)) airs) k (length tables)) l
      (subst (λ (k : ℕ). Prepared blowup (map (source_of (tool_declaration baby_bear_ring) (tool_trees baby_bear_ring) (tool_interactions baby_bear_ring)) airs) bits k) n h)))

  -- and the setup refuses none of them
  pub not_refused : All TableWithin tables → (bits : List ℕ) → bits ≡ log_heights_of tables → (b : Blowup) → b ≡ record { log_blowup = 1 } → (e : SetupError PlainProverError)
      → FirstFails (degree_checks (length airs) (length bits)
      ++ trace_checks baby_bear_ring.one 0 (CommitFault (scheme baby_bear_ring baby_bear_inv baby_bear_root (reduce 31) 27 b)) (map (source_of (tool_declaration baby_bear_ring) (tool_trees baby_bear_ring) (tool_interactions baby_bear_ring)) airs) bits (length airs)) e → ⊥
  not_refused within bits l b p e f =
      let n = as_many in
      none_first _ e
      (subst (λ (s : List (Source BabyBear)). NoneFails (degree_checks {E = PlainProverError} (length airs) (length bits)
      ++ trace_checks baby_bear_ring.one 0 (CommitFault (scheme baby_bear_ring baby_bear_inv baby_bear_root (reduce 31) 27 b)) s bits (length airs))) (sym same)
      (subst (λ (k : List ℕ). NoneFails (degree_checks {E = PlainProverError} (length airs) (length k)
      ++ trace_checks baby_bear_ring.one 0 (CommitFault (scheme baby_bear_ring baby_bear_inv baby_bear_root (reduce 31) 27 b)) (sources_of tables) k (length airs))) (sym l)
      (subst (λ (s : Blowup). NoneFails (degree_checks {E = PlainProverError} (length airs) (length (log_heights_of tables))
      ++ trace_checks baby_bear_ring.one 0 (CommitFault (scheme baby_bear_ring baby_bear_inv baby_bear_root (reduce 31) 27 s)) (sources_of tables) (log_heights_of tables) (length airs))) (sym p)
      (granted tables (length airs) within n))))
      f
