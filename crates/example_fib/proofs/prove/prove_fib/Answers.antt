use Rattle.std.specs.Prelude.{◌≡◌, ◌^◌, IfErr, IfOk}
use Rattle.std.proofs.lemmas.Result.{IfOk-weaker}
use Rattle.p3_field.specs.BabyBear.{baby_bear_ring}
use Rattle.law_honest.specs.HonestProof.{IsBuilt}
use Rattle.prover_answer.specs.PlainBackend.{plain_prover_backend}
use Rattle.prover_answer.specs.Telling.{Tells}
use Rattle.verifier_batch.specs.BatchChecks.{Accepted}
use Rattle.tool_airs.specs.Airs.{AirsProof, AreMet, DrawsOutside}
use Rattle.example_fib_air.specs.Fib.{fib}
use Rattle.example_fib.specs.Statement.{fib_batch}
use Rattle.transcript_version.specs.declared.TranscriptVersion.TheVariants.{V2}
use Rattle.tool_statement.specs.Config.{tool_backend, tool_scheme, tool_setting}
use Rattle.example_fib.proofs.Table.{all_shaped, carried, met}
use Rattle.example_fib.proofs.prove.prove_fib.Goals as goal

pub prove_airs-requires-clause-shaped : goal.prove_airs-requires-clause-shaped
prove_airs-requires-clause-shaped c = all_shaped c.args.start c.args.number c.args.log_rows _ _ c.in_ok-trace.ensures c.in_ok-public_values.ensures c.requires

pub returns-clause-proved : goal.returns-clause-proved
returns-clause-proved c =
    carried c.args.start c.args.number c.args.log_rows _ _ c.in_ok-trace.ensures c.in_ok-public_values.ensures (λ b. IfOk c.prove_airs.result (IsBuilt b.setting b.prover b.statement b.traces b.degree_bits)) c.prove_airs.ensures.proved

pub returns-clause-refusal : goal.returns-clause-refusal
returns-clause-refusal c =
    carried c.args.start c.args.number c.args.log_rows _ _ c.in_ok-trace.ensures c.in_ok-public_values.ensures (λ b. IfErr c.prove_airs.result (Tells (plain_prover_backend tool_scheme) b)) c.prove_airs.ensures.refusal

pub returns-clause-accepted : goal.returns-clause-accepted
returns-clause-accepted c =
    let b = fib_batch c.args.start c.args.number c.args.log_rows in
    let then : (q : AirsProof) → (AreMet b → DrawsOutside b q → Accepted (tool_setting V2) tool_backend b.statement q)
    → c.args.number ≡ fib baby_bear_ring c.args.start (2 ^ c.args.log_rows) → DrawsOutside b q → Accepted (tool_setting V2) tool_backend b.statement q =
    λ q h is outside. h (met c.args.start c.args.number c.args.log_rows c.requires c.baby_bear_has_laws.ensures c.fib_rows_mean.ensures.meets is) outside in
    IfOk-weaker _ _ _ then
    (carried c.args.start c.args.number c.args.log_rows _ _ c.in_ok-trace.ensures c.in_ok-public_values.ensures
    (λ b. IfOk c.prove_airs.result (λ q. AreMet b → DrawsOutside b q → Accepted (tool_setting V2) tool_backend b.statement q)) c.prove_airs.ensures.accepted)
