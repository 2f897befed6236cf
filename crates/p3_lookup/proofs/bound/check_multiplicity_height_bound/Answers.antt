use Rattle.std.proofs.Common.{◌≡◌, ℕ, ◌+◌, ◌<◌, [], length, get_or, map, sym, ◌∙◌, ap, subst, arith}
use Rattle.std.proofs.lemmas.List.{length-map, get_or-map}
use Rattle.p3_lookup.specs.Bus.{batch_buses, lookups_before}
use Rattle.p3_lookup.specs.Written.{read, read_all}
use Rattle.p3_lookup.specs.Loads.{AreBoundedBelow}
use Rattle.p3_lookup.specs.Laws.Places.{length_buses, before_more}
use Rattle.p3_lookup.specs.Laws.Bound.{bounded_start, bounded_end}
use Rattle.p3_lookup.proofs.bound.check_multiplicity_height_bound.Goals as goal

pub loop-table-init : goal.loop-table-init
loop-table-init g c = bounded_start g.F.PrimeCore64.ORDER_U64 (map (read_all {F = g.row.F.Denot}) c.args.lookups.now) c.args.heights.now

pub loop-table-preserved : goal.loop-table-preserved
loop-table-preserved g c =
    let ws = c.args.lookups.now in
    let hs = c.args.heights.now in
    let tables = map (read_all {F = g.row.F.Denot}) ws in
    let t = c.loop-table.table in
    let within : t < length ws = omega arith in
    let in-tables : t < length tables = omega (arith, within, length-map ws (read_all {F = g.row.F.Denot})) in
    let own : length (get_or tables t []) ≡ length (get_or ws t []) =
    ap length (get_or-map (read_all {F = g.row.F.Denot}) ws t [] [] within) ∙ length-map (get_or ws t []) (read {F = g.row.F.Denot}) in
    let next : lookups_before tables t + length (get_or ws t []) ≡ lookups_before tables (t + 1) = omega (arith, before_more tables t in-tables, own) in
    let here = subst (λ (order : ℕ). AreBoundedBelow order tables hs (lookups_before tables t + length (get_or ws t [])) c.in-Ok.n) c.ORDER_U64.ensures c.in-Ok.ensures in
    subst (λ (m : ℕ). AreBoundedBelow g.F.PrimeCore64.ORDER_U64 tables hs m c.in-Ok.n) next here

pub returns : goal.returns
returns g c =
    let ws = c.args.lookups.now in
    let tables = map (read_all {F = g.row.F.Denot}) ws in
    let t = c.loop-table.table in
    let end : t ≡ length tables = omega (arith, length-map ws (read_all {F = g.row.F.Denot})) in
    let all : lookups_before tables t ≡ length (batch_buses tables) = ap (lookups_before tables) end ∙ sym (length_buses tables) in
    bounded_end g.F.PrimeCore64.ORDER_U64 tables c.args.heights.now (lookups_before tables t) c.loop-table.opened all c.loop-table.invariant
