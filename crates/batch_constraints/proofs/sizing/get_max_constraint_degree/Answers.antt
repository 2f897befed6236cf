use Rattle.std.proofs.Common.{List, ◌≡◌, ◌<◌, length, ◌∙◌, ap, sym, arith}
use Rattle.std.proofs.lemmas.List.{length-map}
use Rattle.air_core.specs.declared.layout.AirLayout.{AirLayout}
use Rattle.p3_lookup.specs.Written.{read_all}
use Rattle.batch_constraints.specs.BatchTrees.{table_trees}
use Rattle.batch_constraints.specs.Sizing.{periods_of}
use Rattle.std.specs.Int.{div_ceil}
use Rattle.batch_constraints.specs.Laws.Degrees.{degree_with, is_div_ceil}
use Rattle.batch_constraints.proofs.sizing.get_max_constraint_degree.Goals as goal

pub returns : goal.returns
returns g c =
    let d = g.A.BaseAir.declaration c.args.air.now in
    let ts = table_trees g.F.RingCore.ring (g.A.Air.trees c.args.air.now) (read_all c.args.contexts.now) in
    let long = length-map d.periodic (λ (l : List g.row.F.Denot). length l) in
    let layout : c.args.layout.num_periodic_columns ≡ length d.periodic = ap (λ (l : AirLayout). l.num_periodic_columns) c.requires.layout in
    let some : 0 < length (periods_of d) = omega (arith, long, layout, c.if-layout-eq0.false) in
    let k = c.constraint_degree_from_poly_degree in
    is_div_ceil _ c.args.trace_len k.result c.requires.rows k.ensures.enough k.ensures.least
    ∙ ap (λ n. div_ceil n c.args.trace_len) c.in_ok-degree.ensures
    ∙ sym (degree_with c.args.trace_len (periods_of d) ts some)
