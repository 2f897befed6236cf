-- What the verifier says of AIRs and data that are made of a statement's tables, it says of the tables.
use Rattle.std.proofs.Common.{◌≡◌, List, [], ◌∷◌, map, Result, Err, refl, sym, ◌∙◌, ap, subst}
use Rattle.std.proofs.lemmas.Simd.{map-map}
use Rattle.p3_field.specs.BabyBear.{baby_bear_ring, baby_bear_inv, baby_bear_root, reduce}
use Rattle.p3_field.specs.Checks.{AreSingle}
use Rattle.p3_field.specs.declared.baby_bear.BabyBear.{BabyBear}
use Rattle.p3_field.specs.declared.quartic.QuarticExtension.{QuarticExtension}
use Rattle.p3_challenger.specs.declared.sha256_challenger.Sha256Challenger.{Sha256Challenger}
use Rattle.plain_pcs.specs.Scheme.{Blowup, PlainCommitmentData, scheme}
use Rattle.plain_pcs.specs.declared.error.PlainError.{PlainError}
use Rattle.batch_config.specs.Setting.{Setting}
use Rattle.batch_setup.specs.Packed.{Source, no_source, source_of}
use Rattle.batch_statement.specs.Verdict.{IsRefusal, IsVerdict}
use Rattle.batch_statement.specs.Statement.{Common, Statement, AirTable, WellFormed, tables_of}
use Rattle.batch_statement.specs.declared.error.BatchVerificationError.{BatchVerificationError}
use Rattle.verifier_batch.specs.BatchChecks.{checks}
use Rattle.transcript_version.specs.declared.TranscriptVersion.{TranscriptVersion}
use Rattle.tool_tables.specs.Tool.{tool_declaration, tool_interactions, tool_trees}
use Rattle.tool_tables.specs.declared.tool.ToolAir.{ToolAir}
use Rattle.tool_statement.specs.Config.{backend_of, tool_backend, tool_setting}
use Rattle.tool_statement.specs.StatedTables.{sources_of, air_table_of}
use Rattle.tool_statement.specs.declared.table.TableStatement.{TableStatement}
use Rattle.tool_proof_text.specs.ProofText.{ToolProofData}

-- a source as a table
abbrev pub as_table : Source BabyBear → AirTable BabyBear
as_table s = record { declaration = s.declaration; trees = s.trees }

of_airs : (airs : List (ToolAir BabyBear)) → tables_of (tool_declaration baby_bear_ring) (tool_trees baby_bear_ring) airs ≡ map as_table (map (source_of (tool_declaration baby_bear_ring) (tool_trees baby_bear_ring) (tool_interactions baby_bear_ring)) airs)
of_airs [] = refl
of_airs (a ∷ airs) = ap (λ (ts : List (AirTable BabyBear)). record { declaration = tool_declaration baby_bear_ring a; trees = tool_trees baby_bear_ring a } ∷ ts) (of_airs airs)

of_tables : (tables : List TableStatement) → map as_table (sources_of tables) ≡ map air_table_of tables
of_tables [] = refl
of_tables (t ∷ tables) = ap (λ (ts : List (AirTable BabyBear)). air_table_of t ∷ ts) (of_tables tables)

-- the AIRs' tables are those of the statement
pub same_tables : (tables : List TableStatement) (airs : List (ToolAir BabyBear)) → map (source_of (tool_declaration baby_bear_ring) (tool_trees baby_bear_ring) (tool_interactions baby_bear_ring)) airs ≡ sources_of tables
    → tables_of (tool_declaration baby_bear_ring) (tool_trees baby_bear_ring) airs ≡ map air_table_of tables
same_tables tables airs e = of_airs airs ∙ (ap (map as_table) e ∙ of_tables tables)

abbrev pub ToolSetting : Type 0
ToolSetting = Setting Sha256Challenger BabyBear QuarticExtension (PlainCommitmentData BabyBear)

-- the checks of a configuration that is the program's
pub single_is : (version : TranscriptVersion) (c : ToolSetting) (b : Blowup) (s : Statement BabyBear (PlainCommitmentData BabyBear)) (p : ToolProofData) → c ≡ (tool_setting version) → b ≡ record { log_blowup = 1 }
    → AreSingle (checks c (backend_of (scheme baby_bear_ring baby_bear_inv baby_bear_root (reduce 31) 27 b)) s p) → AreSingle (checks (tool_setting version) tool_backend s p)
unfolding tool_backend
single_is version c b s p e f h =
    subst (λ (d : ToolSetting). AreSingle (checks d (backend_of (scheme baby_bear_ring baby_bear_inv baby_bear_root (reduce 31) 27 (record { log_blowup = 1 }))) s p)) e
    (subst (λ (a : Blowup). AreSingle (checks c (backend_of (scheme baby_bear_ring baby_bear_inv baby_bear_root (reduce 31) 27 a)) s p)) f h)

-- and what it says of a statement with these tables, public values and data
pub verdict_is : {T : Type 0} (version : TranscriptVersion) (c : ToolSetting) (b : Blowup) (ts us : List (AirTable BabyBear)) (ps qs : List (List BabyBear)) (m n : Common BabyBear (PlainCommitmentData BabyBear)) (p : ToolProofData)
    (r : Result T (BatchVerificationError PlainError)) → c ≡ (tool_setting version) → b ≡ record { log_blowup = 1 } → ts ≡ us → ps ≡ qs → m ≡ n
    → IsVerdict (checks c (backend_of (scheme baby_bear_ring baby_bear_inv baby_bear_root (reduce 31) 27 b)) (record { tables = ts; publics = ps; common = m }) p) r
    → IsVerdict (checks (tool_setting version) tool_backend (record { tables = us; publics = qs; common = n }) p) r
unfolding tool_backend
verdict_is version c b ts us ps qs m n p r e f t q k h =
    let same : record { tables = ts; publics = ps; common = m } ≡ record { tables = us; publics = qs; common = n } = λ i. record { tables = t i; publics = q i; common = k i } in
    subst (λ (s : Statement BabyBear (PlainCommitmentData BabyBear)). IsVerdict (checks (tool_setting version) (backend_of (scheme baby_bear_ring baby_bear_inv baby_bear_root (reduce 31) 27 (record { log_blowup = 1 }))) s p) r) same
    (subst (λ (d : ToolSetting). IsVerdict (checks d (backend_of (scheme baby_bear_ring baby_bear_inv baby_bear_root (reduce 31) 27 (record { log_blowup = 1 }))) (record { tables = ts; publics = ps; common = m }) p) r) e
    (subst (λ (a : Blowup). IsVerdict (checks c (backend_of (scheme baby_bear_ring baby_bear_inv baby_bear_root (reduce 31) 27 a)) (record { tables = ts; publics = ps; common = m }) p) r) f h))

-- the same of its refusals
pub refusal_is : (version : TranscriptVersion) (c : ToolSetting) (b : Blowup) (ts us : List (AirTable BabyBear)) (ps qs : List (List BabyBear)) (m n : Common BabyBear (PlainCommitmentData BabyBear)) (p : ToolProofData)
    (r : BatchVerificationError PlainError) → c ≡ (tool_setting version) → b ≡ record { log_blowup = 1 } → ts ≡ us → ps ≡ qs → m ≡ n
    → IsRefusal (checks c (backend_of (scheme baby_bear_ring baby_bear_inv baby_bear_root (reduce 31) 27 b)) (record { tables = ts; publics = ps; common = m }) p) r
    → IsRefusal (checks (tool_setting version) tool_backend (record { tables = us; publics = qs; common = n }) p) r
refusal_is version c b ts us ps qs m n p r e f t q k h = verdict_is {T = Unit {0}} version c b ts us ps qs m n p (Err r) e f t q k h

-- common data that is well-formed for the AIRs is so for the tables
pub formed_is : (tables : List TableStatement) (airs : List (ToolAir BabyBear)) (m n : Common BabyBear (PlainCommitmentData BabyBear)) → map (source_of (tool_declaration baby_bear_ring) (tool_trees baby_bear_ring) (tool_interactions baby_bear_ring)) airs ≡ sources_of tables
    → m ≡ n → WellFormed (map (tool_declaration baby_bear_ring) airs) m → WellFormed (map (λ t. t.declaration) (map air_table_of tables)) n
formed_is tables airs m n e k h =
    let made : ToolAir BabyBear → AirTable BabyBear = λ a. record { declaration = tool_declaration baby_bear_ring a; trees = tool_trees baby_bear_ring a } in
    let same : map (λ (t : AirTable BabyBear). t.declaration) (map air_table_of tables) ≡ map (tool_declaration baby_bear_ring) airs =
    ap (map (λ (t : AirTable BabyBear). t.declaration)) (sym (same_tables tables airs e)) ∙ map-map (λ (t : AirTable BabyBear). t.declaration) made airs in
    subst (λ ds. WellFormed ds n) (sym same) (subst (WellFormed (map (tool_declaration baby_bear_ring) airs)) k h)
