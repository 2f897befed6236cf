use Rattle.std.proofs.Common.{ℕ, ◌∙◌, ap}
use Rattle.p3_lookup.specs.Written.{read_all}
use Rattle.batch_constraints.specs.BatchTrees.{table_trees}
use Rattle.batch_constraints.specs.Sizing.{with_hint, log_chunks}
use Rattle.batch_constraints.specs.Laws.Fits.{table_fits_chunks}
use Rattle.batch_constraints.proofs.sizing.get_log_num_quotient_chunks.Goals as goal

pub returns-clause-fits : goal.returns-clause-fits
returns-clause-fits g c none =
    let d = g.A.BaseAir.declaration c.args.air.now in
    let ts = table_trees g.F.RingCore.ring (g.A.Air.trees c.args.air.now) (read_all c.args.contexts.now) in
    let degree = c.hinted.ensures ∙ ap (λ (k : ℕ). with_hint d k) c.in_ok-degree.ensures in
    table_fits_chunks d ts c.args.trace_len c.args.is_zk c.chunks_of.result none (c.chunks_of.ensures ∙ ap (λ (k : ℕ). log_chunks c.args.is_zk k) degree)
