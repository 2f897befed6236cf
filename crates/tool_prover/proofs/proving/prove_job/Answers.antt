use Rattle.std.proofs.Common.{List, length, map, Vec, Global, sym, ◌∙◌, ap, subst}
use Rattle.p3_field.specs.BabyBear.{baby_bear_ring}
use Rattle.p3_field.specs.declared.baby_bear.BabyBear.{BabyBear}
use Rattle.batch_setup.specs.Setup.{instances_of}
use Rattle.batch_statement.specs.Statement.{WellFormed, read_common}
use Rattle.std.proofs.lemmas.List.{length-map}
use Rattle.tool_jobs.specs.Jobs.{read_tables}
use Rattle.tool_jobs.specs.Laws.Statements.{statements-within}
use Rattle.tool_statement.specs.StatedTables.{TableWithin, publics_lists, sources_of}
use Rattle.tool_tables.specs.Tool.{tool_declaration}
use Rattle.tool_tables.specs.declared.tool.ToolAir.{ToolAir}
use Rattle.std.specs.Prelude.{All}
use Rattle.tool_prover.proofs.Outcome.{IsSetUp, accepted_for, batch_kept, batch_traced, formed_there, inside_there, outcome_there, outside_there, refusal_there}
use Rattle.tool_prover.proofs.Setup.{airs_count, publics_count, traces_count}
use Rattle.tool_prover.proofs.proving.prove_job.Goals as goal

abbrev items : Vec BabyBear Global → List BabyBear
items v = v.items

pub airs_of-requires : goal.airs_of-requires
airs_of-requires c = subst (All TableWithin) (sym c.requires.tables) (statements-within (read_tables c.args.job.now) c.requires.within.1)

pub prover_data-requires-clause-within : goal.prover_data-requires-clause-within
prover_data-requires-clause-within c = subst (All TableWithin) (sym c.requires.tables) (statements-within (read_tables c.args.job.now) c.requires.within.1)

pub is_outside-requires : goal.is_outside-requires
is_outside-requires c = subst (All TableWithin) (sym c.requires.tables) (statements-within (read_tables c.args.job.now) c.requires.within.1)

pub instances_of-requires-clause-traces : goal.instances_of-requires-clause-traces
instances_of-requires-clause-traces c =
    let job = read_tables c.args.job.now in
    ap length c.deref-3.ensures.value ∙ (traces_count job c.in_ok-traces.traces.items c.in_ok-traces.ensures
    ∙ sym (ap length c.deref-2.ensures.value ∙ airs_count job c.in_ok-airs.airs.items (c.in_ok-airs.ensures ∙ ap sources_of c.requires.tables)))

pub instances_of-requires-clause-public_values : goal.instances_of-requires-clause-public_values
instances_of-requires-clause-public_values c =
    let job = read_tables c.args.job.now in
    let values = c.in_ok-public_values.public_values.items in
    ap length c.deref-4.ensures.value ∙ (sym (length-map values items) ∙ (publics_count job (map items values) (c.in_ok-public_values.ensures ∙ ap publics_lists c.requires.tables)
    ∙ sym (ap length c.deref-2.ensures.value ∙ airs_count job c.in_ok-airs.airs.items (c.in_ok-airs.ensures ∙ ap sources_of c.requires.tables))))

pub prove_batch_with_point-requires-clause-traced : goal.prove_batch_with_point-requires-clause-traced
prove_batch_with_point-requires-clause-traced c =
    let U : IsSetUp c.args.version (read_tables c.args.job.now) c.args.tables.now _ c.tool_config-config.result.pcs c.in_ok-airs.airs.items c.in_ok-traces.traces.items (map items c.in_ok-public_values.public_values.items) c.in_ok-data.data.common
    c.in_ok-data.data.prover_only.preprocessed_prover_data c.deref-5.result.now = record {
      within = c.requires.within;
      balanced = c.requires.balanced;
      tables_are = c.requires.tables;
      setting_is = c.tool_config-config.ensures.setting;
      scheme_is = c.tool_config-config.ensures.scheme;
      airs_are = c.in_ok-airs.ensures;
      traces_are = c.in_ok-traces.ensures;
      publics_are = c.in_ok-public_values.ensures;
      common_is = c.in_ok-data.ensures.common;
      formed = subst (λ (xs : List (ToolAir BabyBear)). WellFormed (map (tool_declaration baby_bear_ring) xs) (read_common c.in_ok-data.data.common)) c.deref.ensures.value c.in_ok-data.ensures.formed;
      prepared = c.in_ok-data.ensures.prover_data;
      instances_are = c.deref-5.ensures.value ∙ (c.in_ok-instances.ensures ∙ (λ i. instances_of (c.deref-2.ensures.value i) (c.deref-3.ensures.value i) (map items (c.deref-4.ensures.value i))));
    } in
    batch_traced _ _ _ _ _ _ _ _ _ _ _ U

pub prove_batch_with_point-requires-clause-prover_data : goal.prove_batch_with_point-requires-clause-prover_data
prove_batch_with_point-requires-clause-prover_data c =
    let U : IsSetUp c.args.version (read_tables c.args.job.now) c.args.tables.now _ c.tool_config-config.result.pcs c.in_ok-airs.airs.items c.in_ok-traces.traces.items (map items c.in_ok-public_values.public_values.items) c.in_ok-data.data.common
    c.in_ok-data.data.prover_only.preprocessed_prover_data c.deref-5.result.now = record {
      within = c.requires.within;
      balanced = c.requires.balanced;
      tables_are = c.requires.tables;
      setting_is = c.tool_config-config.ensures.setting;
      scheme_is = c.tool_config-config.ensures.scheme;
      airs_are = c.in_ok-airs.ensures;
      traces_are = c.in_ok-traces.ensures;
      publics_are = c.in_ok-public_values.ensures;
      common_is = c.in_ok-data.ensures.common;
      formed = subst (λ (xs : List (ToolAir BabyBear)). WellFormed (map (tool_declaration baby_bear_ring) xs) (read_common c.in_ok-data.data.common)) c.deref.ensures.value c.in_ok-data.ensures.formed;
      prepared = c.in_ok-data.ensures.prover_data;
      instances_are = c.deref-5.ensures.value ∙ (c.in_ok-instances.ensures ∙ (λ i. instances_of (c.deref-2.ensures.value i) (c.deref-3.ensures.value i) (map items (c.deref-4.ensures.value i))));
    } in
    batch_kept _ _ _ _ _ _ _ _ _ _ _ U

pub returns-in_err-proof-clause-refusal : goal.returns-in_err-proof-clause-refusal
returns-in_err-proof-clause-refusal c =
    let U : IsSetUp c.args.version (read_tables c.args.job.now) c.args.tables.now _ c.tool_config-config.result.pcs c.in_ok-airs.airs.items c.in_ok-traces.traces.items (map items c.in_ok-public_values.public_values.items) c.in_ok-data.data.common
    c.in_ok-data.data.prover_only.preprocessed_prover_data c.deref-5.result.now = record {
      within = c.requires.within;
      balanced = c.requires.balanced;
      tables_are = c.requires.tables;
      setting_is = c.tool_config-config.ensures.setting;
      scheme_is = c.tool_config-config.ensures.scheme;
      airs_are = c.in_ok-airs.ensures;
      traces_are = c.in_ok-traces.ensures;
      publics_are = c.in_ok-public_values.ensures;
      common_is = c.in_ok-data.ensures.common;
      formed = subst (λ (xs : List (ToolAir BabyBear)). WellFormed (map (tool_declaration baby_bear_ring) xs) (read_common c.in_ok-data.data.common)) c.deref.ensures.value c.in_ok-data.ensures.formed;
      prepared = c.in_ok-data.ensures.prover_data;
      instances_are = c.deref-5.ensures.value ∙ (c.in_ok-instances.ensures ∙ (λ i. instances_of (c.deref-2.ensures.value i) (c.deref-3.ensures.value i) (map items (c.deref-4.ensures.value i))));
    } in
    refusal_there _ _ _ _ _ _ _ _ _ _ _ U c.from_residual-in_err-proof.result c.in_err-proof.field-0.0 c.from_residual-in_err-proof.ensures.1 c.in_err-proof.ensures.verdict

pub returns-then-not-is_outside-clause-outcome : goal.returns-then-not-is_outside-clause-outcome
returns-then-not-is_outside-clause-outcome c =
    let U : IsSetUp c.args.version (read_tables c.args.job.now) c.args.tables.now _ c.tool_config-config.result.pcs c.in_ok-airs.airs.items c.in_ok-traces.traces.items (map items c.in_ok-public_values.public_values.items) c.in_ok-data.data.common
    c.in_ok-data.data.prover_only.preprocessed_prover_data c.deref-5.result.now = record {
      within = c.requires.within;
      balanced = c.requires.balanced;
      tables_are = c.requires.tables;
      setting_is = c.tool_config-config.ensures.setting;
      scheme_is = c.tool_config-config.ensures.scheme;
      airs_are = c.in_ok-airs.ensures;
      traces_are = c.in_ok-traces.ensures;
      publics_are = c.in_ok-public_values.ensures;
      common_is = c.in_ok-data.ensures.common;
      formed = subst (λ (xs : List (ToolAir BabyBear)). WellFormed (map (tool_declaration baby_bear_ring) xs) (read_common c.in_ok-data.data.common)) c.deref.ensures.value c.in_ok-data.ensures.formed;
      prepared = c.in_ok-data.ensures.prover_data;
      instances_are = c.deref-5.ensures.value ∙ (c.in_ok-instances.ensures ∙ (λ i. instances_of (c.deref-2.ensures.value i) (c.deref-3.ensures.value i) (map items (c.deref-4.ensures.value i))));
    } in
    inside_there _ _ _ _ _ _ _ _ _ _ _ U c.in_ok-proof.proof c.in_ok-proof.point c.in_ok-proof.ensures.proved c.in_ok-proof.ensures.point c.if-not-is_outside.ensures

pub accepted_means-requires-clause-accepted : goal.accepted_means-requires-clause-accepted
accepted_means-requires-clause-accepted c =
    let U : IsSetUp c.args.version (read_tables c.args.job.now) c.args.tables.now _ c.tool_config-config.result.pcs c.in_ok-airs.airs.items c.in_ok-traces.traces.items (map items c.in_ok-public_values.public_values.items) c.in_ok-data.data.common
    c.in_ok-data.data.prover_only.preprocessed_prover_data c.deref-5.result.now = record {
      within = c.requires.within;
      balanced = c.requires.balanced;
      tables_are = c.requires.tables;
      setting_is = c.tool_config-config.ensures.setting;
      scheme_is = c.tool_config-config.ensures.scheme;
      airs_are = c.in_ok-airs.ensures;
      traces_are = c.in_ok-traces.ensures;
      publics_are = c.in_ok-public_values.ensures;
      common_is = c.in_ok-data.ensures.common;
      formed = subst (λ (xs : List (ToolAir BabyBear)). WellFormed (map (tool_declaration baby_bear_ring) xs) (read_common c.in_ok-data.data.common)) c.deref.ensures.value c.in_ok-data.ensures.formed;
      prepared = c.in_ok-data.ensures.prover_data;
      instances_are = c.deref-5.ensures.value ∙ (c.in_ok-instances.ensures ∙ (λ i. instances_of (c.deref-2.ensures.value i) (c.deref-3.ensures.value i) (map items (c.deref-4.ensures.value i))));
    } in
    accepted_for _ _ _ _ _ _ _ _ _ _ _ U c.in_ok-proof.proof c.in_ok-proof.ensures.accepted
    (outside_there _ _ _ _ _ _ _ _ _ _ _ U c.in_ok-proof.proof c.in_ok-proof.point c.in_ok-proof.ensures.point c.if-not-is_outside.ensures)

pub accepted_means-requires-clause-formed : goal.accepted_means-requires-clause-formed
accepted_means-requires-clause-formed c =
    let U : IsSetUp c.args.version (read_tables c.args.job.now) c.args.tables.now _ c.tool_config-config.result.pcs c.in_ok-airs.airs.items c.in_ok-traces.traces.items (map items c.in_ok-public_values.public_values.items) c.in_ok-data.data.common
    c.in_ok-data.data.prover_only.preprocessed_prover_data c.deref-5.result.now = record {
      within = c.requires.within;
      balanced = c.requires.balanced;
      tables_are = c.requires.tables;
      setting_is = c.tool_config-config.ensures.setting;
      scheme_is = c.tool_config-config.ensures.scheme;
      airs_are = c.in_ok-airs.ensures;
      traces_are = c.in_ok-traces.ensures;
      publics_are = c.in_ok-public_values.ensures;
      common_is = c.in_ok-data.ensures.common;
      formed = subst (λ (xs : List (ToolAir BabyBear)). WellFormed (map (tool_declaration baby_bear_ring) xs) (read_common c.in_ok-data.data.common)) c.deref.ensures.value c.in_ok-data.ensures.formed;
      prepared = c.in_ok-data.ensures.prover_data;
      instances_are = c.deref-5.ensures.value ∙ (c.in_ok-instances.ensures ∙ (λ i. instances_of (c.deref-2.ensures.value i) (c.deref-3.ensures.value i) (map items (c.deref-4.ensures.value i))));
    } in
    formed_there _ _ _ _ _ _ _ _ _ _ _ U

pub returns-clause-outcome : goal.returns-clause-outcome
returns-clause-outcome c =
    let U : IsSetUp c.args.version (read_tables c.args.job.now) c.args.tables.now _ c.tool_config-config.result.pcs c.in_ok-airs.airs.items c.in_ok-traces.traces.items (map items c.in_ok-public_values.public_values.items) c.in_ok-data.data.common
    c.in_ok-data.data.prover_only.preprocessed_prover_data c.deref-5.result.now = record {
      within = c.requires.within;
      balanced = c.requires.balanced;
      tables_are = c.requires.tables;
      setting_is = c.tool_config-config.ensures.setting;
      scheme_is = c.tool_config-config.ensures.scheme;
      airs_are = c.in_ok-airs.ensures;
      traces_are = c.in_ok-traces.ensures;
      publics_are = c.in_ok-public_values.ensures;
      common_is = c.in_ok-data.ensures.common;
      formed = subst (λ (xs : List (ToolAir BabyBear)). WellFormed (map (tool_declaration baby_bear_ring) xs) (read_common c.in_ok-data.data.common)) c.deref.ensures.value c.in_ok-data.ensures.formed;
      prepared = c.in_ok-data.ensures.prover_data;
      instances_are = c.deref-5.ensures.value ∙ (c.in_ok-instances.ensures ∙ (λ i. instances_of (c.deref-2.ensures.value i) (c.deref-3.ensures.value i) (map items (c.deref-4.ensures.value i))));
    } in
    outcome_there _ _ _ _ _ _ _ _ _ _ _ U c.in_ok-proof.proof c.in_ok-proof.ensures.proved
    (outside_there _ _ _ _ _ _ _ _ _ _ _ U c.in_ok-proof.proof c.in_ok-proof.point c.in_ok-proof.ensures.point c.if-not-is_outside.ensures) c.in_ok-proof.ensures.accepted
    c.accepted_means.ensures.holds c.accepted_means.ensures.swaps c.accepted_means.ensures.hashes c.accepted_means.ensures.few c.accepted_means.ensures.balance
