use Rattle.std.proofs.Common.{◌≡◌, ◌<◌, ◌≤◌, true, false, not, [], length, get_or, map, take, sym, ◌∙◌, ap, arith}
use Rattle.std.specs.List.{list_any}
use Rattle.std.proofs.lemmas.Bool.{or_left, or_right, or_from}
use Rattle.std.proofs.lemmas.List.{length-map, get_or-map, get_or_default, take_all}
use Rattle.p3_lookup.specs.Written.{Written, bus_of_kind, read, read_all}
use Rattle.p3_lookup.specs.Loads.{is_named_among}
use Rattle.p3_lookup.proofs.Bounded.{any_found, any_more, opens_is}
use Rattle.p3_lookup.proofs.bound.opens_bus.Goals as goal

pub returns-then-is_named_in : goal.returns-then-is_named_in
returns-then-is_named_in g c =
    let ws = c.args.lookups.now in
    let tables = map (read_all {F = g.row.F.Denot}) ws in
    let t = c.args.table in
    let k = c.args.index in
    let own = c.as_slice-own.result.now in
    let x = c.index-own-index.result in
    let b = bus_of_kind c.lookup.inside.kind in
    let at-own : own ≡ get_or ws t own =
    c.as_slice-own.ensures ∙ c.index-lookups-table.is ∙ get_or_default ws t c.index-lookups-table.result own c.requires.table in
    let lt : k < length own = omega (arith, c.requires.index, ap length (at-own ∙ get_or_default ws t own [] c.requires.table)) in
    let kind : x.bus ≡ b = sym (ap (λ (w : Written g.row.F.Denot). w.bus) c.lookup.view_is) in
    let opens = opens_is ws t k own x c.requires.table at-own lt c.index-own-index.is in
    let before = list_any (is_named_among x.bus) (take t tables) in
    let beside = is_named_among x.bus (take k (read_all own)) in
    let beside-is : beside ≡ c.is_named_in.result = ap (λ n. is_named_among n (take k (read_all own))) kind ∙ sym c.is_named_in.ensures in
    sym (opens ∙ ap not (or_right before beside (beside-is ∙ c.if-is_named_in.true)))

pub returns-then-is_named_in-2 : goal.returns-then-is_named_in-2
returns-then-is_named_in-2 g c =
    let ws = c.args.lookups.now in
    let tables = map (read_all {F = g.row.F.Denot}) ws in
    let t = c.args.table in
    let k = c.args.index in
    let own = c.as_slice-own.result.now in
    let x = c.index-own-index.result in
    let b = bus_of_kind c.lookup.inside.kind in
    let at-own : own ≡ get_or ws t own =
    c.as_slice-own.ensures ∙ c.index-lookups-table.is ∙ get_or_default ws t c.index-lookups-table.result own c.requires.table in
    let lt : k < length own = omega (arith, c.requires.index, ap length (at-own ∙ get_or_default ws t own [] c.requires.table)) in
    let kind : x.bus ≡ b = sym (ap (λ (w : Written g.row.F.Denot). w.bus) c.lookup.view_is) in
    let opens = opens_is ws t k own x c.requires.table at-own lt c.index-own-index.is in
    let before = list_any (is_named_among x.bus) (take t tables) in
    let beside = is_named_among x.bus (take k (read_all own)) in
    let beside-is : beside ≡ c.is_named_in.result = ap (λ n. is_named_among n (take k (read_all own))) kind ∙ sym c.is_named_in.ensures in
    let e = c.loop-earlier.earlier in
    let others = c.as_slice-others.result.now in
    let within : e < length ws = omega (arith, c.requires.table) in
    let at : get_or tables e (read_all others) ≡ read_all others =
    get_or-map (read_all {F = g.row.F.Denot}) ws e c.index-lookups-earlier.result (read_all others) within
    ∙ ap (read_all {F = g.row.F.Denot}) (sym c.index-lookups-earlier.is ∙ sym c.as_slice-others.ensures) in
    let long : length (read_all others) ≤ length others = omega (arith, length-map others (read {F = g.row.F.Denot})) in
    let there : is_named_among b (read_all others) ≡ c.is_named_in-in-loop-earlier.result =
    sym (ap (is_named_among b) (take_all (length others) (read_all others) long)) ∙ sym c.is_named_in-in-loop-earlier.ensures in
    let all : t ≤ length tables = omega (arith, c.requires.table, length-map ws (read_all {F = g.row.F.Denot})) in
    let found : before ≡ true =
    ap (λ n. list_any (is_named_among n) (take t tables)) kind ∙ any_found (is_named_among b) tables t e (read_all others) (omega arith) all at (there ∙ c.if-is_named_in-2.true) in
    sym (opens ∙ ap not (or_left before beside found))

pub loop-earlier-preserved : goal.loop-earlier-preserved
loop-earlier-preserved g c =
    let ws = c.args.lookups.now in
    let tables = map (read_all {F = g.row.F.Denot}) ws in
    let t = c.args.table in
    let k = c.args.index in
    let own = c.as_slice-own.result.now in
    let x = c.index-own-index.result in
    let b = bus_of_kind c.lookup.inside.kind in
    let e = c.loop-earlier.earlier in
    let others = c.as_slice-others.result.now in
    let within : e < length ws = omega (arith, c.requires.table) in
    let at : get_or tables e (read_all others) ≡ read_all others =
    get_or-map (read_all {F = g.row.F.Denot}) ws e c.index-lookups-earlier.result (read_all others) within
    ∙ ap (read_all {F = g.row.F.Denot}) (sym c.index-lookups-earlier.is ∙ sym c.as_slice-others.ensures) in
    let long : length (read_all others) ≤ length others = omega (arith, length-map others (read {F = g.row.F.Denot})) in
    let there : is_named_among b (read_all others) ≡ c.is_named_in-in-loop-earlier.result =
    sym (ap (is_named_among b) (take_all (length others) (read_all others) long)) ∙ sym c.is_named_in-in-loop-earlier.ensures in
    any_more (is_named_among b) tables e (read_all others) (omega (arith, within, length-map ws (read_all {F = g.row.F.Denot}))) at (there ∙ c.if-is_named_in-2.false) c.loop-earlier.invariant

pub returns : goal.returns
returns g c =
    let ws = c.args.lookups.now in
    let tables = map (read_all {F = g.row.F.Denot}) ws in
    let t = c.args.table in
    let k = c.args.index in
    let own = c.as_slice-own.result.now in
    let x = c.index-own-index.result in
    let b = bus_of_kind c.lookup.inside.kind in
    let at-own : own ≡ get_or ws t own =
    c.as_slice-own.ensures ∙ c.index-lookups-table.is ∙ get_or_default ws t c.index-lookups-table.result own c.requires.table in
    let lt : k < length own = omega (arith, c.requires.index, ap length (at-own ∙ get_or_default ws t own [] c.requires.table)) in
    let kind : x.bus ≡ b = sym (ap (λ (w : Written g.row.F.Denot). w.bus) c.lookup.view_is) in
    let opens = opens_is ws t k own x c.requires.table at-own lt c.index-own-index.is in
    let before = list_any (is_named_among x.bus) (take t tables) in
    let beside = is_named_among x.bus (take k (read_all own)) in
    let beside-is : beside ≡ c.is_named_in.result = ap (λ n. is_named_among n (take k (read_all own))) kind ∙ sym c.is_named_in.ensures in
    let end : c.loop-earlier.earlier ≡ t = omega (arith, c.requires.table) in
    let none : before ≡ false = ap (λ n. list_any (is_named_among n) (take t tables)) kind ∙ ap (λ n. list_any (is_named_among b) (take n tables)) (sym end) ∙ c.loop-earlier.invariant in
    sym (opens ∙ ap not (or_from before beside none (beside-is ∙ c.if-is_named_in.false)))
