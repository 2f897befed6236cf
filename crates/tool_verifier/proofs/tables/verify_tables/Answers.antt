use Rattle.std.proofs.Common.{◌∙◌, ap, map, Vec, Global, Ok}
use Rattle.p3_field.specs.BabyBear.{baby_bear_ring}
use Rattle.p3_field.specs.declared.baby_bear.BabyBear.{BabyBear}
use Rattle.plain_pcs.specs.Scheme.{Blowup}
use Rattle.batch_setup.specs.Packed.{source_of}
use Rattle.verifier_shape.specs.Laws.Verdicts.{exits}
use Rattle.tool_tables.specs.Tool.{tool_declaration, tool_interactions, tool_trees}
use Rattle.tool_verifier.specs.Laws.Stated.{formed_is, refusal_is, same_tables, verdict_is}
use Rattle.tool_verifier.proofs.tables.verify_tables.Goals as goal

pub returns-in_err-verify_batch-clause-verdict : goal.returns-in_err-verify_batch-clause-verdict
returns-in_err-verify_batch-clause-verdict c =
    let airs = ap (map (source_of (tool_declaration baby_bear_ring) (tool_trees baby_bear_ring) (tool_interactions baby_bear_ring))) c.deref-2.ensures.value ∙ c.in_ok-airs.ensures in
    let publics = ap (map (λ (v : Vec BabyBear Global). v.items)) c.deref-3.ensures.value ∙ c.in_ok-public_values.ensures in
    exits _ _ _ c.from_residual-in_err-verify_batch.ensures.1
    (refusal_is c.args.version _ c.tool_config-config.result.pcs _ _ _ _ _ _ c.args.proof.now c.in_err-verify_batch.field-0.0 c.tool_config-config.ensures.setting c.tool_config-config.ensures.scheme
    (same_tables c.args.tables.now c.deref-2.result.now airs) publics c.in_ok-common.ensures.common c.in_err-verify_batch.ensures.verdict)

pub returns-clause-verdict : goal.returns-clause-verdict
returns-clause-verdict c =
    let airs = ap (map (source_of (tool_declaration baby_bear_ring) (tool_trees baby_bear_ring) (tool_interactions baby_bear_ring))) c.deref-2.ensures.value ∙ c.in_ok-airs.ensures in
    let publics = ap (map (λ (v : Vec BabyBear Global). v.items)) c.deref-3.ensures.value ∙ c.in_ok-public_values.ensures in
    verdict_is c.args.version _ c.tool_config-config.result.pcs _ _ _ _ _ _ c.args.proof.now (Ok c.in_ok-verify_batch.field-0) c.tool_config-config.ensures.setting c.tool_config-config.ensures.scheme
    (same_tables c.args.tables.now c.deref-2.result.now airs) publics c.in_ok-common.ensures.common c.in_ok-verify_batch.ensures.verdict

pub accepted_means-requires-clause-accepted : goal.accepted_means-requires-clause-accepted
accepted_means-requires-clause-accepted c =
    let airs = ap (map (source_of (tool_declaration baby_bear_ring) (tool_trees baby_bear_ring) (tool_interactions baby_bear_ring))) c.deref-2.ensures.value ∙ c.in_ok-airs.ensures in
    let publics = ap (map (λ (v : Vec BabyBear Global). v.items)) c.deref-3.ensures.value ∙ c.in_ok-public_values.ensures in
    verdict_is c.args.version _ c.tool_config-config.result.pcs _ _ _ _ _ _ c.args.proof.now (Ok c.in_ok-verify_batch.field-0) c.tool_config-config.ensures.setting c.tool_config-config.ensures.scheme
    (same_tables c.args.tables.now c.deref-2.result.now airs) publics c.in_ok-common.ensures.common c.in_ok-verify_batch.ensures.verdict

pub accepted_means-requires-clause-formed : goal.accepted_means-requires-clause-formed
accepted_means-requires-clause-formed c =
    let airs = ap (map (source_of (tool_declaration baby_bear_ring) (tool_trees baby_bear_ring) (tool_interactions baby_bear_ring))) c.deref.ensures.value ∙ c.in_ok-airs.ensures in
    formed_is c.args.tables.now c.deref.result.now _ _ airs c.in_ok-common.ensures.common c.in_ok-common.ensures.formed
