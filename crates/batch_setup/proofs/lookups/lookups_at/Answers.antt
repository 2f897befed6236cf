use Rattle.std.proofs.Common.{◌≡◌, get_or, sym, subst}
use Rattle.std.specs.Prelude.{IfOk}
use Rattle.p3_lookup.specs.Written.{read_all}
use Rattle.batch_setup.specs.Packed.{Source, source_of, no_source, budget_checks, packed_lookups}
use Rattle.batch_setup.specs.Verdict.{IsSetUp}
use Rattle.batch_setup.proofs.Items.{item_of_map}
use Rattle.batch_setup.proofs.lookups.lookups_at.Goals as goal

pub returns-clause-verdict : goal.returns-clause-verdict
returns-clause-verdict g c =
    let a = c.args in
    let make : g.row.A.Denot → Source g.row.F.Denot = source_of g.A.BaseAir.declaration g.A.Air.trees g.A.Air.interactions in
    subst (λ s. IsSetUp (budget_checks {E = g.row.E.Denot} g.F.RingCore.ring a.masks a.log_blowup a.instance (get_or a.degree_bits.now a.instance 0) (get_or a.budgets.now a.instance 0) s) c.table_lookups.result)
    (sym (item_of_map make a.airs.now a.instance c.index-airs-instance.result no_source c.requires.airs c.index-airs-instance.is)) c.table_lookups.ensures.verdict

pub returns-clause-lookups : goal.returns-clause-lookups
returns-clause-lookups g c =
    let a = c.args in
    let make : g.row.A.Denot → Source g.row.F.Denot = source_of g.A.BaseAir.declaration g.A.Air.trees g.A.Air.interactions in
    subst (λ s. IfOk c.table_lookups.result (λ l. read_all l ≡ packed_lookups g.F.RingCore.ring a.masks (get_or a.degree_bits.now a.instance 0) (get_or a.budgets.now a.instance 0) s))
    (sym (item_of_map make a.airs.now a.instance c.index-airs-instance.result no_source c.requires.airs c.index-airs-instance.is)) c.table_lookups.ensures.lookups
