use Rattle.std.proofs.Common.{◌≡◌, ◌+◌, ◌<◌, min, [], length, get_or, map, drop, sym, ◌∙◌, ap, arith}
use Rattle.std.proofs.lemmas.List.{length-map, get_or-map}
use Rattle.p3_lookup.specs.Written.{bus_of_kind, read_all}
use Rattle.p3_lookup.specs.Loads.{named_load, named_loads}
use Rattle.p3_lookup.proofs.Bounded.{limited, tables_turn}
use Rattle.p3_lookup.proofs.bound.load_of_name.Goals as goal

pub loop-table-preserved : goal.loop-table-preserved
loop-table-preserved g c =
    let ws = c.args.lookups.now in
    let hs = c.args.heights.now in
    let tables = map (read_all {F = g.row.F.Denot}) ws in
    let b = bus_of_kind c.args.kind.now in
    let i = c.loop-table.table in
    let own = c.as_slice.result.now in
    let within : i < length ws = omega arith in
    let in-hs : i < length hs = omega (arith, within, c.requires) in
    let in-tables : i < length tables = omega (arith, within, length-map ws (read_all {F = g.row.F.Denot})) in
    let at : get_or tables i [] ≡ read_all own =
    get_or-map (read_all {F = g.row.F.Denot}) ws i c.index-lookups-table.result [] within ∙ ap (read_all {F = g.row.F.Denot}) (sym c.index-lookups-table.is ∙ sym c.as_slice.ensures) in
    let more = named_load b (get_or hs i 0) (read_all own) in
    let rest = named_loads b (drop (i + 1) tables) (drop (i + 1) hs) in
    let whole = min c.args.limit (named_loads b tables hs) in
    let next : c.with_lookups-load.result ≡ min c.args.limit (c.loop-table.load + more) = c.with_lookups-load.ensures in
    let all : min c.args.limit (c.loop-table.load + (more + rest)) ≡ whole =
    ap (λ n. min c.args.limit (c.loop-table.load + n)) (sym (tables_turn b tables hs i (read_all own) in-tables in-hs at)) ∙ c.loop-table.invariant.rest in
    record { limited = omega (arith, next); rest = limited c.args.limit c.loop-table.load more rest c.with_lookups-load.result whole next all }
