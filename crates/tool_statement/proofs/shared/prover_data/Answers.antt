use Rattle.std.proofs.Common.{◌-◌, sym, ◌∙◌, subst}
use Rattle.plain_pcs.specs.Holding.{AreHolding}
use Rattle.plain_pcs.specs.Scheme.{Blowup}
use Rattle.batch_setup.specs.SetupChecks.{AreWithinBounds}
use Rattle.tool_statement.proofs.Granted.{bounded}
use Rattle.tool_statement.proofs.SharedData.{common_is, kept_is, not_refused}
use Rattle.batch_setup.specs.Verdict.{IsSetupRefusal}
use Rattle.tool_statement.proofs.shared.prover_data.Goals as goal

pub from_airs_and_degrees-requires-clause-bits : goal.from_airs_and_degrees-requires-clause-bits
from_airs_and_degrees-requires-clause-bits c =
    let same = c.deref.ensures.value ∙ c.in_ok-bits.ensures in
    subst (λ (s : Blowup). AreWithinBounds 0 (27 - s.log_blowup) c.deref.result.now) (sym c.requires.scheme)
    (subst (AreWithinBounds 0 26) (sym same) (bounded c.args.tables.now c.requires.within))

pub returns-in-Ok-clause-common : goal.returns-in-Ok-clause-common
returns-in-Ok-clause-common c =
    common_is c.args.tables.now c.args.airs.now c.requires.airs c.deref.result.now _ _ _ _ _ _ _ _ c.requires.scheme
    (c.deref.ensures.value ∙ c.in_ok-bits.ensures) c.in-Ok.ensures.lookups c.in-Ok.ensures.preprocessed

pub returns-in-Ok-clause-prover_data : goal.returns-in-Ok-clause-prover_data
returns-in-Ok-clause-prover_data c =
    kept_is c.args.tables.now c.args.airs.now c.requires.airs c.deref.result.now _ _ _ _ _ AreHolding _ c.requires.scheme
    (c.deref.ensures.value ∙ c.in_ok-bits.ensures) c.in-Ok.ensures.preprocessed

pub from_airs_and_degrees-requires-clause-widths : goal.from_airs_and_degrees-requires-clause-widths
from_airs_and_degrees-requires-clause-widths c = c.tables_send_one_width.ensures c.args.airs.now

pub unreachable-requires : goal.unreachable-requires
unreachable-requires c =
    not_refused c.args.tables.now c.args.airs.now c.requires.airs c.requires.within c.deref.result.now (c.deref.ensures.value ∙ c.in_ok-bits.ensures) _ c.requires.scheme _
    (subst (IsSetupRefusal _) c.in-Err-LengthMismatch.field-0-is c.in-Err-LengthMismatch.ensures.verdict)

pub unreachable-requires-in-Err-PreprocessedHeight : goal.unreachable-requires-in-Err-PreprocessedHeight
unreachable-requires-in-Err-PreprocessedHeight c =
    not_refused c.args.tables.now c.args.airs.now c.requires.airs c.requires.within c.deref.result.now (c.deref.ensures.value ∙ c.in_ok-bits.ensures) _ c.requires.scheme _
    (subst (IsSetupRefusal _) c.in-Err-PreprocessedHeight.field-0-is c.in-Err-PreprocessedHeight.ensures.verdict)

pub unreachable-requires-in-Err-Pcs : goal.unreachable-requires-in-Err-Pcs
unreachable-requires-in-Err-Pcs c =
    not_refused c.args.tables.now c.args.airs.now c.requires.airs c.requires.within c.deref.result.now (c.deref.ensures.value ∙ c.in_ok-bits.ensures) _ c.requires.scheme _
    (subst (IsSetupRefusal _) c.in-Err-Pcs.field-0-is c.in-Err-Pcs.ensures.verdict)

pub unreachable-requires-in-Err-LookupBudget : goal.unreachable-requires-in-Err-LookupBudget
unreachable-requires-in-Err-LookupBudget c =
    not_refused c.args.tables.now c.args.airs.now c.requires.airs c.requires.within c.deref.result.now (c.deref.ensures.value ∙ c.in_ok-bits.ensures) _ c.requires.scheme _
    (subst (IsSetupRefusal _) c.in-Err-LookupBudget.field-0-is c.in-Err-LookupBudget.ensures.verdict)
