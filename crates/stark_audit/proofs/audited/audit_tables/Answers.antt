use Rattle.std.proofs.Common.{◌∙◌, ap, map, Vec, Global}
use Rattle.std.specs.Prelude.{IfOk}
use Rattle.p3_field.specs.BabyBear.{baby_bear_ring}
use Rattle.p3_field.specs.declared.baby_bear.BabyBear.{BabyBear}
use Rattle.batch_setup.specs.Packed.{source_of}
use Rattle.tool_tables.specs.Tool.{tool_declaration, tool_interactions, tool_trees}
use Rattle.tool_verifier.specs.Laws.Stated.{same_tables}
use Rattle.audit_batch.specs.Asked.{AreNamed}
use Rattle.audit_batch.specs.Audit.{audit}
use Rattle.audit_batch.specs.Report.{IsPlayedText}
use Rattle.stark_audit.specs.Explain.{coefficient_numbers}
use Rattle.stark_audit.specs.Laws.Audited.{audited_is}
use Rattle.stark_audit.proofs.audited.audit_tables.Goals as goal

pub returns-clause-steps : goal.returns-clause-steps
returns-clause-steps c =
    let airs = ap (map (source_of (tool_declaration baby_bear_ring) (tool_trees baby_bear_ring) (tool_interactions baby_bear_ring))) c.deref-2.ensures.value ∙ c.in_ok-airs.ensures in
    let publics = ap (map (λ (v : Vec BabyBear Global). v.items)) c.deref-3.ensures.value ∙ c.in_ok-public_values.ensures in
    audited_is (λ s b t. IfOk c.audit_batch.result (λ a. IsPlayedText s b t c.args.proof.now coefficient_numbers a.steps.items)) c.args.version _ c.tool_config-config.result.pcs _ _ _ _ _ _
    c.tool_config-config.ensures.setting c.tool_config-config.ensures.scheme (same_tables c.args.tables.now c.deref-2.result.now airs) publics c.in_ok-common.ensures.common c.audit_batch.ensures.steps

pub returns-clause-faults : goal.returns-clause-faults
returns-clause-faults c =
    let airs = ap (map (source_of (tool_declaration baby_bear_ring) (tool_trees baby_bear_ring) (tool_interactions baby_bear_ring))) c.deref-2.ensures.value ∙ c.in_ok-airs.ensures in
    let publics = ap (map (λ (v : Vec BabyBear Global). v.items)) c.deref-3.ensures.value ∙ c.in_ok-public_values.ensures in
    audited_is (λ s b t. IfOk c.audit_batch.result (λ a. AreNamed (audit s b t c.args.proof.now) a.faults.items)) c.args.version _ c.tool_config-config.result.pcs _ _ _ _ _ _
    c.tool_config-config.ensures.setting c.tool_config-config.ensures.scheme (same_tables c.args.tables.now c.deref-2.result.now airs) publics c.in_ok-common.ensures.common c.audit_batch.ensures.faults
