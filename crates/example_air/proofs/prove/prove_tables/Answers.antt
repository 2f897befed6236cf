use Rattle.std.specs.Prelude.{IfErr, IfOk}
use Rattle.law_honest.specs.HonestProof.{IsBuilt}
use Rattle.prover_answer.specs.PlainBackend.{plain_prover_backend}
use Rattle.prover_answer.specs.Telling.{Tells}
use Rattle.verifier_batch.specs.BatchChecks.{Accepted}
use Rattle.tool_airs.specs.Airs.{AreMet, DrawsOutside}
use Rattle.transcript_version.specs.declared.TranscriptVersion.TheVariants.{V2}
use Rattle.tool_statement.specs.Config.{tool_backend, tool_scheme, tool_setting}
use Rattle.example_air.proofs.Tables.{accepted_there, all_shaped, carried}
use Rattle.example_air.proofs.prove.prove_tables.Goals as goal

pub prove_airs-requires-clause-shaped : goal.prove_airs-requires-clause-shaped
prove_airs-requires-clause-shaped c = all_shaped c.args.bits.now c.args.times.now c.requires c.height.ensures.fills _ _ c.new.ensures.items c.new-2.ensures.items

pub returns-clause-proved : goal.returns-clause-proved
returns-clause-proved c =
    carried c.args.bits.now c.args.times.now _ _ c.new.ensures.items c.new-2.ensures.items (λ b. IfOk c.prove_airs.result (IsBuilt b.setting b.prover b.statement b.traces b.degree_bits)) c.prove_airs.ensures.proved

pub returns-clause-refusal : goal.returns-clause-refusal
returns-clause-refusal c =
    carried c.args.bits.now c.args.times.now _ _ c.new.ensures.items c.new-2.ensures.items (λ b. IfErr c.prove_airs.result (Tells (plain_prover_backend tool_scheme) b)) c.prove_airs.ensures.refusal

pub returns-clause-accepted : goal.returns-clause-accepted
returns-clause-accepted c =
    accepted_there c.args.bits.now c.args.times.now c.requires c.prove_airs.result
    (carried c.args.bits.now c.args.times.now _ _ c.new.ensures.items c.new-2.ensures.items (λ b. IfOk c.prove_airs.result (IsBuilt b.setting b.prover b.statement b.traces b.degree_bits)) c.prove_airs.ensures.proved)
    (carried c.args.bits.now c.args.times.now _ _ c.new.ensures.items c.new-2.ensures.items
    (λ b. IfOk c.prove_airs.result (λ q. AreMet b → DrawsOutside b q → Accepted (tool_setting V2) tool_backend b.statement q)) c.prove_airs.ensures.accepted)
