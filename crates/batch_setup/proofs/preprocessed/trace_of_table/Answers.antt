use Rattle.std.proofs.Common.{◌≡◌, get_or, sym, subst}
use Rattle.std.specs.Prelude.{IfOk}
use Rattle.batch_setup.specs.Packed.{Source, source_of, no_source}
use Rattle.batch_setup.specs.Preprocessed.{height_checks}
use Rattle.batch_setup.specs.Verdict.{IsSetUp}
use Rattle.batch_setup.proofs.Items.{item_of_map}
use Rattle.batch_setup.proofs.preprocessed.trace_of_table.Goals as goal

pub returns-clause-verdict : goal.returns-clause-verdict
returns-clause-verdict g c =
    let a = c.args in
    let make : g.row.A.Denot → Source g.row.F.Denot = source_of g.A.BaseAir.declaration g.A.Air.trees g.A.Air.interactions in
    subst (λ (s : Source g.row.F.Denot). IsSetUp (height_checks {E = g.row.E.Denot} a.masks a.instance (get_or a.degree_bits.now a.instance 0) s.declaration.preprocessed) c.table_trace.result)
    (sym (item_of_map make a.airs.now a.instance c.index-airs-instance.result no_source c.requires.airs c.index-airs-instance.is)) c.table_trace.ensures.verdict

pub returns-clause-trace : goal.returns-clause-trace
returns-clause-trace g c =
    let a = c.args in
    let make : g.row.A.Denot → Source g.row.F.Denot = source_of g.A.BaseAir.declaration g.A.Air.trees g.A.Air.interactions in
    subst (λ (s : Source g.row.F.Denot). IfOk c.table_trace.result (λ t. t ≡ s.declaration.preprocessed))
    (sym (item_of_map make a.airs.now a.instance c.index-airs-instance.result no_source c.requires.airs c.index-airs-instance.is)) c.table_trace.ensures.trace
