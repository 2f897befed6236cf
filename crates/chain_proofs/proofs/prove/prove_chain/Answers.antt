use Rattle.std.proofs.Common.{◌≡◌, ◌∙◌, ap, refl, false, true, arith}
use Rattle.p3_field.specs.BabyBear.{baby_bear_ring}
use Rattle.chain_air.specs.Generated.{publics_between}
use Rattle.law_honest.specs.HonestProof.{IsBuilt}
use Rattle.prover_answer.specs.PlainBackend.{plain_prover_backend}
use Rattle.prover_answer.specs.Telling.{Tells}
use Rattle.tool_airs.specs.Airs.{AreMet, DrawsOutside, drawn_point}
use Rattle.transcript_version.specs.declared.TranscriptVersion.TheVariants.{V2}
use Rattle.tool_statement.specs.Config.{tool_backend, tool_scheme, tool_setting}
use Rattle.verifier_batch.specs.BatchChecks.{Accepted}
use Rattle.chain_proofs.specs.Laws.Outcome.{carried, handed, inside, log_few, made_shaped, outside, rows_of_trace, told, words_of_end}
use Rattle.chain_proofs.specs.Laws.Table.{met}
use Rattle.chain_proofs.specs.Statement.{IsChainRefusal, chain_batch}
use Rattle.chain_proofs.proofs.prove.prove_chain.Goals as goal

pub prove_airs_with_point-requires-clause-shaped : goal.prove_airs_with_point-requires-clause-shaped
prove_airs_with_point-requires-clause-shaped c =
    made_shaped c.args.start.now c.args.blocks.now _ _ c.in_ok-trace.ensures.trace (c.in_ok-public_values.ensures.values ∙ ap (publics_between baby_bear_ring c.args.start.now) c.chain_end-end.ensures) c.requires.power c.requires.few

pub avoids_subgroup-requires : goal.avoids_subgroup-requires
avoids_subgroup-requires c = let low = log_few _ c.log2_strict_usize.result c.requires.power c.requires.few c.log2_strict_usize.ensures in omega (arith, low)

pub returns-in_err-proof-clause-refusal : goal.returns-in_err-proof-clause-refusal
returns-in_err-proof-clause-refusal c =
    let start = c.args.start.now in
    let blocks = c.args.blocks.now in
    let values = c.in_ok-public_values.ensures.values ∙ ap (publics_between baby_bear_ring start) c.chain_end-end.ensures in
    let M = met start blocks c.requires.power c.requires.few c.baby_bear_has_laws.ensures c.committed_tables_are_chains.ensures c.chaining_fits.ensures
    (words_of_end start _ blocks c.chain_end-end.ensures c.chaining_fits-2.ensures) (rows_of_trace start blocks _ c.in_ok-trace.ensures.trace c.in_ok-trace.ensures.chain) in
    handed (IsChainRefusal start blocks) _ c.in_err-proof.field-0.0 c.from_residual-in_err-proof.ensures.1
    (told start blocks c.requires.power c.requires.few c.baby_bear_has_laws.ensures M c.in_err-proof.field-0.0
    (carried start blocks _ _ c.in_ok-trace.ensures.trace values (λ b. Tells (plain_prover_backend tool_scheme) b c.in_err-proof.field-0.0) c.in_err-proof.ensures.refusal))

pub returns-then-not-avoids_subgroup-clause-outcome : goal.returns-then-not-avoids_subgroup-clause-outcome
returns-then-not-avoids_subgroup-clause-outcome c =
    let start = c.args.start.now in
    let blocks = c.args.blocks.now in
    let values = c.in_ok-public_values.ensures.values ∙ ap (publics_between baby_bear_ring start) c.chain_end-end.ensures in
    let trace = c.in_ok-trace.ensures.trace in
    let q = c.in_ok-proof.proof in
    inside start blocks c.requires.power c.requires.few c.baby_bear_has_laws.ensures q c.in_ok-proof.point c.log2_strict_usize.result
    (carried start blocks _ _ trace values (λ b. IsBuilt b.setting b.prover b.statement b.traces b.degree_bits q) c.in_ok-proof.ensures.proved)
    (carried start blocks _ _ trace values (λ b. c.in_ok-proof.point ≡ drawn_point b q) c.in_ok-proof.ensures.point) c.log2_strict_usize.ensures
    (λ avoids. let g : false ≡ true = c.if-not-avoids_subgroup.ensures.1 avoids in cc)

pub returns-clause-outcome : goal.returns-clause-outcome
returns-clause-outcome c =
    let start = c.args.start.now in
    let blocks = c.args.blocks.now in
    let values = c.in_ok-public_values.ensures.values ∙ ap (publics_between baby_bear_ring start) c.chain_end-end.ensures in
    let trace = c.in_ok-trace.ensures.trace in
    let q = c.in_ok-proof.proof in
    let M = met start blocks c.requires.power c.requires.few c.baby_bear_has_laws.ensures c.committed_tables_are_chains.ensures c.chaining_fits.ensures
    (words_of_end start _ blocks c.chain_end-end.ensures c.chaining_fits-2.ensures) (rows_of_trace start blocks _ trace c.in_ok-trace.ensures.chain) in
    outside start blocks c.requires.power c.requires.few c.baby_bear_has_laws.ensures q c.in_ok-proof.point c.log2_strict_usize.result
    (carried start blocks _ _ trace values (λ b. IsBuilt b.setting b.prover b.statement b.traces b.degree_bits q) c.in_ok-proof.ensures.proved)
    (carried start blocks _ _ trace values (λ b. c.in_ok-proof.point ≡ drawn_point b q) c.in_ok-proof.ensures.point) c.log2_strict_usize.ensures
    (c.if-not-avoids_subgroup.ensures.0 refl)
    (carried start blocks _ _ trace values (λ b. AreMet b → DrawsOutside b q → Accepted (tool_setting V2) tool_backend b.statement q) c.in_ok-proof.ensures.accepted M)
