-- What is audited of AIRs and data that are made of a statement's tables is audited of the tables.
use Rattle.std.proofs.Common.{◌≡◌, List, subst}
use Rattle.p3_field.specs.BabyBear.{baby_bear_ring, baby_bear_inv, baby_bear_root, reduce}
use Rattle.p3_field.specs.declared.baby_bear.BabyBear.{BabyBear}
use Rattle.p3_field.specs.declared.quartic.QuarticExtension.{QuarticExtension}
use Rattle.p3_challenger.specs.declared.sha256_challenger.Sha256Challenger.{Sha256Challenger}
use Rattle.plain_pcs.specs.Scheme.{Blowup, PlainCommitmentData, scheme}
use Rattle.plain_pcs.specs.declared.commitment.PlainProof.{PlainProof}
use Rattle.plain_pcs.specs.declared.error.PlainError.{PlainError}
use Rattle.batch_config.specs.Setting.{Backend, Setting}
use Rattle.batch_statement.specs.Statement.{AirTable, Common, Statement}
use Rattle.transcript_version.specs.declared.TranscriptVersion.{TranscriptVersion}
use Rattle.tool_statement.specs.Config.{backend_of, tool_backend, tool_setting}

abbrev pub ToolSetting : Type 0
ToolSetting = Setting Sha256Challenger BabyBear QuarticExtension (PlainCommitmentData BabyBear)

abbrev pub ToolBackend : Type 1
ToolBackend = Backend Sha256Challenger BabyBear QuarticExtension (PlainCommitmentData BabyBear) PlainProof PlainError

abbrev pub ToolStatement : Type 0
ToolStatement = Statement BabyBear (PlainCommitmentData BabyBear)

-- what holds of a configuration that is the program's, and of a statement with these tables, public values and data
pub audited_is : (Q : ToolSetting → ToolBackend → ToolStatement → Type 0) (version : TranscriptVersion) (c : ToolSetting) (b : Blowup) (ts us : List (AirTable BabyBear)) (ps qs : List (List BabyBear))
    (m n : Common BabyBear (PlainCommitmentData BabyBear)) → c ≡ tool_setting version → b ≡ record { log_blowup = 1 } → ts ≡ us → ps ≡ qs → m ≡ n
    → Q c (backend_of (scheme baby_bear_ring baby_bear_inv baby_bear_root (reduce 31) 27 b)) (record { tables = ts; publics = ps; common = m })
    → Q (tool_setting version) tool_backend (record { tables = us; publics = qs; common = n })
unfolding tool_backend
audited_is Q version c b ts us ps qs m n e f t q k h =
    let same : record { tables = ts; publics = ps; common = m } ≡ record { tables = us; publics = qs; common = n } = λ i. record { tables = t i; publics = q i; common = k i } in
    subst (λ (s : ToolStatement). Q (tool_setting version) (backend_of (scheme baby_bear_ring baby_bear_inv baby_bear_root (reduce 31) 27 (record { log_blowup = 1 }))) s) same
    (subst (λ (d : ToolSetting). Q d (backend_of (scheme baby_bear_ring baby_bear_inv baby_bear_root (reduce 31) 27 (record { log_blowup = 1 }))) (record { tables = ts; publics = ps; common = m })) e
    (subst (λ (a : Blowup). Q c (backend_of (scheme baby_bear_ring baby_bear_inv baby_bear_root (reduce 31) 27 a)) (record { tables = ts; publics = ps; common = m })) f h))
