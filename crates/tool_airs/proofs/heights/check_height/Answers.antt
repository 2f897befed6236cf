use Rattle.std.proofs.Common.{◌≡◌, ℕ, ◌<◌, ◌∷◌, [], inl, inr, Some, ◌∙◌, ap, arith}
use Rattle.p3_field.specs.Checks.{FirstFails}
use Rattle.p3_field.specs.Laws.Checks.{first_here, none_alone}
use Rattle.p3_uni_stark.specs.declared.error.InvalidProofShapeError.TheVariants.{DegreeBitsTooSmall, DegreeBitsTooLarge}
use Rattle.p3_uni_stark.specs.declared.error.VerificationError.TheVariants.{InvalidProofShape}
use Rattle.plain_pcs.specs.declared.error.PlainError.{PlainError}
use Rattle.batch_statement.specs.Words.{bits_at}
use Rattle.batch_statement.specs.declared.error.BatchVerificationError.{BatchVerificationError}
use Rattle.batch_statement.specs.declared.error.BatchVerificationError.TheVariants.{Verification}
use Rattle.tool_airs.specs.Airs.{AirsProof, height_check}
use Rattle.tool_airs.proofs.heights.check_height.Goals as goal

abbrev small : ℕ → ℕ → ℕ → BatchVerificationError PlainError
small table log_rows got = Verification (InvalidProofShape (DegreeBitsTooSmall (Some table) log_rows got))

abbrev large : ℕ → ℕ → ℕ → BatchVerificationError PlainError
large table log_rows got = Verification (InvalidProofShape (DegreeBitsTooLarge (Some table) log_rows got))

too_small : (table log_rows got : ℕ) (p : AirsProof) (e : BatchVerificationError PlainError) → got ≡ bits_at p.degree_bits table → got < log_rows → e ≡ small table log_rows got → FirstFails (height_check table log_rows p ∷ []) e
too_small table log_rows got p e is less named =
    first_here (height_check table log_rows p) [] e (λ same. absurd (omega (arith, is, less, same))) (inl (omega (arith, is, less), named ∙ ap (small table log_rows) is))

too_large : (table log_rows got : ℕ) (p : AirsProof) (e : BatchVerificationError PlainError) → got ≡ bits_at p.degree_bits table → log_rows < got → e ≡ large table log_rows got → FirstFails (height_check table log_rows p ∷ []) e
too_large table log_rows got p e is more named =
    first_here (height_check table log_rows p) [] e (λ same. absurd (omega (arith, is, more, same))) (inr (omega (arith, is, more), named ∙ ap (large table log_rows) is))

pub returns-then-got-log_rows : goal.returns-then-got-log_rows
returns-then-got-log_rows c = too_small c.args.table c.args.log_rows c.stated_log_rows-got.result c.args.proof.now _ c.stated_log_rows-got.ensures c.if-got-log_rows.true c.into.ensures

pub returns-then-log_rows-got : goal.returns-then-log_rows-got
returns-then-log_rows-got c =
    too_large c.args.table c.args.log_rows c.stated_log_rows-got.result c.args.proof.now _ c.stated_log_rows-got.ensures c.if-log_rows-got.true c.into-then-log_rows-got.ensures

pub returns-else-log_rows-got : goal.returns-else-log_rows-got
returns-else-log_rows-got c =
    let is = c.stated_log_rows-got.ensures in
    let least = c.if-got-log_rows.false in
    let most = c.if-log_rows-got.false in
    none_alone (height_check c.args.table c.args.log_rows c.args.proof.now) (omega (arith, is, least, most))
