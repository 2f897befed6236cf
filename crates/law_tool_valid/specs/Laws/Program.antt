-- What is made for a job's AIRs is valid with the job's traces.
use Rattle.std.proofs.Common.{◌≡◌, ℕ, ◌<◌, Bool, List, [], length, get_or, map, Option, refl, sym, ◌∙◌, ap, subst, arith}
use Rattle.std.proofs.lemmas.List.{get_or-map, length-map}
use Rattle.p3_field.specs.Domain.{CosetData}
use Rattle.p3_field.specs.Laws.Tabulate.{length-tabulate}
use Rattle.p3_field.specs.Poly.{tabulate}
use Rattle.p3_field.specs.Ring.{Ring}
use Rattle.p3_matrix.specs.Matrix.{Rows}
use Rattle.commit_core.specs.Commitments.{Committed, IsCommitment}
use Rattle.verifier_claims.specs.ClaimChecks.{HasDegreeBits}
use Rattle.batch_config.specs.Setting.{Setting}
use Rattle.batch_setup.specs.Packed.{Source, no_source, packed_at}
use Rattle.batch_setup.specs.Preprocessed.{IsPrepared, committed_trace_at, committed_below, entry_at, on_domain}
use Rattle.verifier_shape.specs.ShapeChecks.{HasEntries}
use Rattle.batch_statement.specs.Words.{no_table}
use Rattle.batch_statement.specs.Statement.{Common, Statement, AirTable, WellFormed, entry_of, tables_of}
use Rattle.batch_statement.specs.declared.preprocessed.PreprocessedInstanceMeta.{PreprocessedInstanceMeta}
use Rattle.law_committed.specs.Laws.Values.{maps}
use Rattle.law_valid.specs.Traced.{all_traced, declared, preprocessed_matrices, traced_at}
use Rattle.law_valid.specs.Valid.{CommitsToMatrices, Valid}
use Rattle.law_valid.specs.Laws.Made.{entry_bits, made_commits, made_entries, made_entry, matrices_are}
use Rattle.tool_tables.specs.Tool.{tool_declaration, tool_trees}
use Rattle.tool_tables.specs.declared.tool.ToolAir.{ToolAir}
use Rattle.law_tool_valid.specs.Job.{AreAirsOf, IsJob, JobTable, take_of, job_table, job_log_height_of, job_publics_of, source_of_job, trace_of}
use Rattle.law_tool_valid.specs.Serves.{ServesJobs}
use Rattle.law_tool_valid.specs.Laws.Made.{as_many, packed_are, sources, sources_are, tables_are}
use Rattle.law_tool_valid.specs.Laws.Valid.{job_is_valid}

module _ {S F E C P : Type 0} (c : Setting S F E C) (inverse : E → E) (Z : ServesJobs c inverse) (eq : F → F → Bool) (job : List (JobTable F)) (J : IsJob eq job) (airs : List (ToolAir F)) (A : AreAirsOf c.field.ring job airs)
    (budgets : List ℕ) (commits : List (CosetData F × Rows F) → C × P → Type 0) (commitment_of : List (CosetData F × Rows F) → C) (one_commitment : (es : List (CosetData F × Rows F)) (w : C × P) → commits es w → w.0 ≡ commitment_of es)
    (common : Common F C) (kept : Option P) where
  abbrev r : Ring F
  r = c.field.ring

  abbrev bits : List ℕ
  bits = map job_log_height_of job

  abbrev traces : List (Rows F)
  traces = map (trace_of r) job

  abbrev entries : List (Option PreprocessedInstanceMeta)
  entries = tabulate (length airs) (entry_at r.one (sources r airs) bits)

  abbrev stated_with : List (AirTable F) → Statement F C
  stated_with tables = record { tables = tables; publics = map job_publics_of job; common = common }

  abbrev s : Statement F C
  s = stated_with (map (job_table r) job)

  many : length s.tables ≡ length airs
  many = length-map job (job_table r) ∙ sym (as_many r job airs A)

  module _ (prepared : IsPrepared commits entries (committed_below r.one (sources r airs) bits (length airs)) common.preprocessed kept) where
    same_matrix : (i : ℕ) → i < length airs → on_domain r.one (traced_at s traces bits i).degree_bits (declared (traced_at s traces bits i)).preprocessed ≡ committed_trace_at r.one (sources r airs) bits i
    same_matrix i h =
        let d : JobTable F = take_of [] in
        let l : i < length job = let e = as_many r job airs A in omega (arith, h, e) in
        let own : (declared (traced_at s traces bits i)).preprocessed ≡ (source_of_job r (get_or job i d)).declaration.preprocessed =
        ap (λ (t : AirTable F). t.declaration.preprocessed) (get_or-map (job_table r) job i d no_table l) in
        let made : (get_or (sources r airs) i no_source).declaration.preprocessed ≡ (source_of_job r (get_or job i d)).declaration.preprocessed =
        ap (λ (x : Source F). x.declaration.preprocessed) (ap (λ xs. get_or xs i no_source) (sources_are r job airs A) ∙ get_or-map (source_of_job r) job i d no_source l) in
        ap (on_domain r.one (get_or bits i 0)) (own ∙ sym made)

    matrices_same : committed_below r.one (sources r airs) bits (length airs) ≡ preprocessed_matrices r.one (all_traced s traces bits)
    matrices_same =
        matrices_are r.one (sources r airs) bits (traced_at s traces bits) (length airs) same_matrix
        ∙ ap (λ n. preprocessed_matrices r.one (tabulate n (traced_at s traces bits))) (sym many)

    committed : CommitsToMatrices commitment_of (preprocessed_matrices r.one (all_traced s traces bits)) common.preprocessed
    committed =
        subst (λ es. CommitsToMatrices commitment_of es common.preprocessed) matrices_same
        (made_commits commits commitment_of one_commitment entries (committed_below r.one (sources r airs) bits (length airs)) common.preprocessed kept prepared)

    counted : HasEntries (length s.tables) common.preprocessed
    counted =
        subst (λ n. HasEntries n common.preprocessed) (length-tabulate (length airs) (entry_at r.one (sources r airs) bits) ∙ sym many)
        (made_entries commits commitment_of one_commitment entries (committed_below r.one (sources r airs) bits (length airs)) common.preprocessed kept prepared)

    listed : (i : ℕ) → i < length s.tables → HasDegreeBits (traced_at s traces bits i).degree_bits (entry_of common.preprocessed i)
    listed i h =
        made_entry commits commitment_of one_commitment entries (HasDegreeBits (get_or bits i 0)) i tt (entry_bits r.one (sources r airs) bits (length airs) i (let e = many in omega (arith, h, e)))
        (committed_below r.one (sources r airs) bits (length airs)) common.preprocessed kept prepared

    module _ (lookups : common.lookups ≡ tabulate (length airs) (packed_at r 0 (sources r airs) bits budgets)) (formed : WellFormed (map (tool_declaration r) airs) common) where
      formed_there : WellFormed (map (λ (t : AirTable F). t.declaration) s.tables) common
      formed_there =
          subst (λ ds. WellFormed ds common)
          (sym (maps (λ (t : AirTable F). t.declaration) (λ (a : ToolAir F). record { declaration = tool_declaration r a; trees = tool_trees r a }) (tool_declaration r) (λ a. refl) airs)
          ∙ ap (map (λ (t : AirTable F). t.declaration)) (tables_are r job airs A)) formed

      pub program_is_valid : Valid c eq commitment_of (stated_with (tables_of (tool_declaration r) (tool_trees r) airs)) traces bits
      program_is_valid =
          subst (λ tables. Valid c eq commitment_of (stated_with tables) traces bits) (sym (tables_are r job airs A))
          (job_is_valid c inverse Z eq job J common (lookups ∙ packed_are r job airs 0 bits budgets A) commitment_of formed_there committed counted listed)

-- the same where the preprocessed traces are committed to as a backend promises it, whose commitments are one function of what is committed
pub set_up_is_valid : {S F E C P : Type 0} (c : Setting S F E C) (inverse : E → E) (Z : ServesJobs c inverse) (eq : F → F → Bool) (job : List (JobTable F)) (J : IsJob eq job) (airs : List (ToolAir F)) (A : AreAirsOf c.field.ring job airs)
    (budgets : List ℕ) (points : CosetData F → ℕ) (point_at : CosetData F → ℕ → F) (commits : List (CosetData F × Rows F) → C → Type 0) (made : P → Type 0) (holds : P → C → List (Committed F) → Type 0)
    (commitment_of : List (CosetData F × Rows F) → C) (one_commitment : (es : List (CosetData F × Rows F)) (w : C) → commits es w → w ≡ commitment_of es) (common : Common F C) (kept : Option P)
    → IsPrepared (λ es w. IsCommitment c.field.ring points point_at commits made holds es w) (tabulate (length airs) (entry_at c.field.ring.one (sources c.field.ring airs) (map job_log_height_of job))) (committed_below c.field.ring.one (sources c.field.ring airs) (map job_log_height_of job) (length airs)) common.preprocessed kept
    → common.lookups ≡ tabulate (length airs) (packed_at c.field.ring 0 (sources c.field.ring airs) (map job_log_height_of job) budgets) → WellFormed (map (tool_declaration c.field.ring) airs) common
    → Valid c eq commitment_of (record { tables = tables_of (tool_declaration c.field.ring) (tool_trees c.field.ring) airs; publics = map job_publics_of job; common = common }) (map (trace_of c.field.ring) job) (map job_log_height_of job)
set_up_is_valid c inverse Z eq job J airs A budgets points point_at commits made holds commitment_of one_commitment common kept prepared lookups formed =
    program_is_valid c inverse Z eq job J airs A budgets (λ es w. IsCommitment c.field.ring points point_at commits made holds es w) commitment_of (λ es w K. one_commitment es w.0 K.commitment_is) common kept prepared lookups formed
