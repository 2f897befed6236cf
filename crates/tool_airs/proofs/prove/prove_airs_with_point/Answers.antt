use Rattle.std.proofs.lemmas.Result.{IfOk-weaker}
use Rattle.p3_field.specs.declared.quartic.QuarticExtension.{QuarticExtension}
use Rattle.tool_airs.specs.Airs.{AirsProof}
use Rattle.tool_airs.proofs.Joined.{accepted_there, first_there, kept_there, point_there, proof_there, refusal_there, traced_there}
use Rattle.tool_airs.proofs.prove.prove_airs_with_point.Goals as goal

pub prove_batch_with_point-requires-clause-traced : goal.prove_batch_with_point-requires-clause-traced
prove_batch_with_point-requires-clause-traced g c =
    traced_there g.A.BaseAir.declaration g.A.Air.trees g.A.Air.interactions c.args.instances.now c.requires.shaped c.baby_bear_has_laws.ensures (λ i d l. record { rows = g.met.A.BaseAir.whole_rows _; interactions = g.met.A.Air.interactions_read _ }) _ c.tool_config-config.result.pcs c.in_ok-data.data.common _ c.tool_config-config.ensures.setting c.tool_config-config.ensures.scheme c.in_ok-data.ensures.common c.in_ok-data.ensures.prover_data c.in_ok-data.ensures.formed

pub prove_batch_with_point-requires-clause-prover_data : goal.prove_batch_with_point-requires-clause-prover_data
prove_batch_with_point-requires-clause-prover_data g c =
    kept_there g.A.BaseAir.declaration g.A.Air.trees g.A.Air.interactions c.args.instances.now c.requires.shaped c.baby_bear_has_laws.ensures (λ i d l. record { rows = g.met.A.BaseAir.whole_rows _; interactions = g.met.A.Air.interactions_read _ }) _ c.tool_config-config.result.pcs c.in_ok-data.data.common _ c.tool_config-config.ensures.setting c.tool_config-config.ensures.scheme c.in_ok-data.ensures.common c.in_ok-data.ensures.prover_data

pub returns-clause-proved : goal.returns-clause-proved
returns-clause-proved g c =
    IfOk-weaker _ _ _
    (λ (r : AirsProof × QuarticExtension) P. proof_there g.A.BaseAir.declaration g.A.Air.trees g.A.Air.interactions c.args.instances.now c.requires.shaped c.baby_bear_has_laws.ensures (λ i d l. record { rows = g.met.A.BaseAir.whole_rows _; interactions = g.met.A.Air.interactions_read _ }) _ c.tool_config-config.result.pcs c.in_ok-data.data.common _ c.tool_config-config.ensures.setting c.tool_config-config.ensures.scheme c.in_ok-data.ensures.common c.in_ok-data.ensures.prover_data r.0 P)
    c.prove_batch_with_point.ensures.proved

pub returns-clause-refusal : goal.returns-clause-refusal
returns-clause-refusal g c =
    refusal_there g.A.BaseAir.declaration g.A.Air.trees g.A.Air.interactions c.args.instances.now c.requires.shaped c.baby_bear_has_laws.ensures (λ i d l. record { rows = g.met.A.BaseAir.whole_rows _; interactions = g.met.A.Air.interactions_read _ }) _ c.tool_config-config.result.pcs c.in_ok-data.data.common _ c.tool_config-config.ensures.setting c.tool_config-config.ensures.scheme c.in_ok-data.ensures.common c.in_ok-data.ensures.prover_data _ c.prove_batch_with_point.ensures.verdict

pub returns-clause-first : goal.returns-clause-first
returns-clause-first g c =
    first_there g.A.BaseAir.declaration g.A.Air.trees g.A.Air.interactions c.args.instances.now c.requires.shaped c.baby_bear_has_laws.ensures (λ i d l. record { rows = g.met.A.BaseAir.whole_rows _; interactions = g.met.A.Air.interactions_read _ }) _ c.tool_config-config.result.pcs c.in_ok-data.data.common _ c.tool_config-config.ensures.setting c.tool_config-config.ensures.scheme c.in_ok-data.ensures.common c.in_ok-data.ensures.prover_data _ c.prove_batch_with_point.ensures.first

pub returns-clause-accepted : goal.returns-clause-accepted
returns-clause-accepted g c =
    IfOk-weaker _ _ _
    (λ (r : AirsProof × QuarticExtension) A. accepted_there g.A.BaseAir.declaration g.A.Air.trees g.A.Air.interactions c.args.instances.now c.requires.shaped c.baby_bear_has_laws.ensures (λ i d l. record { rows = g.met.A.BaseAir.whole_rows _; interactions = g.met.A.Air.interactions_read _ }) _ c.tool_config-config.result.pcs c.in_ok-data.data.common _ c.tool_config-config.ensures.setting c.tool_config-config.ensures.scheme c.in_ok-data.ensures.common c.in_ok-data.ensures.prover_data c.in_ok-data.ensures.formed r.0 A)
    c.prove_batch_with_point.ensures.accepted

pub returns-clause-point : goal.returns-clause-point
returns-clause-point g c =
    IfOk-weaker _ _ _
    (λ (r : AirsProof × QuarticExtension) e. point_there g.A.BaseAir.declaration g.A.Air.trees g.A.Air.interactions c.args.instances.now c.requires.shaped c.baby_bear_has_laws.ensures (λ i d l. record { rows = g.met.A.BaseAir.whole_rows _; interactions = g.met.A.Air.interactions_read _ }) _ c.tool_config-config.result.pcs c.in_ok-data.data.common _ c.tool_config-config.ensures.setting c.tool_config-config.ensures.scheme c.in_ok-data.ensures.common c.in_ok-data.ensures.prover_data r.0 r.1 e)
    c.prove_batch_with_point.ensures.point
