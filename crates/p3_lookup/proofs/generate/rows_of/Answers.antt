use Rattle.std.proofs.Common.{◌≡◌, List, sym, ◌∙◌, subst}
use Rattle.p3_lookup.specs.Written.{read_all}
use Rattle.p3_lookup.specs.RowTerms.{sizes}
use Rattle.p3_lookup.proofs.Groups.{AreRowsAt, rows_start, rows_place, rows_more}
use Rattle.p3_lookup.proofs.generate.rows_of.Goals as goal

pub loop-row-init : goal.loop-row-init
loop-row-init g c =
    let r = g.EF.RingCore.ring in
    let zero : c.ZERO-running.result ≡ r.zero = c.ZERO-running.ensures ∙ g.met.EF.RingCore.zero_is in
    subst (λ (l : List g.row.EF.Denot). AreRowsAt r (sizes (read_all c.args.lookups.now)) c.args.quotients.now l 0 0 c.ZERO-running.result) (sym c.new-values.ensures.items)
    (rows_start r (sizes (read_all c.args.lookups.now)) c.args.quotients.now c.ZERO-running.result zero)

pub push_row-requires : goal.push_row-requires
push_row-requires g c =
    rows_place g.EF.RingCore.ring (sizes (read_all c.args.lookups.now)) c.args.quotients.now c.loop-row.values.items c.loop-row._row c.loop-row.place c.loop-row.running c.loop-row.invariant c.args.height c.loop-row-test.true c.requires

pub loop-row-preserved : goal.loop-row-preserved
loop-row-preserved g c =
    rows_more g.EF.RingCore.ring (sizes (read_all c.args.lookups.now)) c.args.quotients.now c.loop-row.values.items c.loop-row._row c.loop-row.place c.loop-row.running c.loop-row.invariant
    g.met.EF.RingCore.ring_laws c.push_row.new.values.items c.in_ok-next.next.0 c.in_ok-next.next.1 c.in_ok-next.ensures.0 c.in_ok-next.ensures.1
