use Rattle.std.proofs.Common.{◌≡◌, ℕ, ◌+◌, ◌*◌, ◌<◌, min, [], length, get_or, map, sym, ◌∙◌, ap, arith}
use Rattle.std.specs.Prelude.{string_bytes}
use Rattle.std.proofs.lemmas.List.{length-map, get_or_default}
use Rattle.air_core.specs.Tree.{local, global}
use Rattle.p3_lookup.specs.Bus.{batch_buses, lookups_before, sum_of_bounds}
use Rattle.p3_lookup.specs.Written.{Written, bus_of_kind, read_all}
use Rattle.p3_lookup.specs.Loads.{named_loads}
use Rattle.p3_lookup.specs.Laws.Bound.{load_of_named, load_of_local}
use Rattle.p3_lookup.proofs.Bounded.{place_in, bus_is, load_is}
use Rattle.p3_lookup.proofs.bound.load_at.Goals as goal

pub returns-in-Local : goal.returns-in-Local
returns-in-Local g c =
    let ws = c.args.lookups.now in
    let hs = c.args.heights.now in
    let tables = map (read_all {F = g.row.F.Denot}) ws in
    let t = c.args.table in
    let k = c.args.index in
    let own = c.as_slice-own.result.now in
    let x = c.index-own-index.result in
    let n = lookups_before tables t + k in
    let at-own : own ≡ get_or ws t own =
    c.as_slice-own.ensures ∙ c.index-lookups-table.is ∙ get_or_default ws t c.index-lookups-table.result own c.requires.table in
    let lt : k < length own = omega (arith, c.requires.index, ap length (at-own ∙ get_or_default ws t own [] c.requires.table)) in
    let long : length hs ≡ length tables = omega (arith, c.requires.heights, length-map ws (read_all {F = g.row.F.Denot})) in
    let within : n < length (batch_buses tables) = place_in ws t k own x c.requires.table at-own lt c.index-own-index.is in
    let bus = bus_is ws t k own x c.requires.table at-own lt c.index-own-index.is in
    let kind : x.bus ≡ bus_of_kind c.lookup.inside.kind = sym (ap (λ (w : Written g.row.F.Denot). w.bus) c.lookup.view_is) in
    let here : get_or (batch_buses tables) n local ≡ local = bus ∙ kind ∙ ap bus_of_kind c.in-Local.is in
    let counts : sum_of_bounds c.deref.result.now ≡ sum_of_bounds x.multiplicities = ap sum_of_bounds (c.deref.ensures.value ∙ ap (λ (w : Written g.row.F.Denot). w.multiplicities) c.lookup.view_is) in
    let load = load_of_local tables hs long n within here ∙ load_is ws t k own x c.requires.table at-own lt c.index-own-index.is hs c.requires.heights in
    c.with_bounds.ensures ∙ ap (λ m. min c.args.limit (0 + m * get_or hs t 0)) counts ∙ ap (min c.args.limit) (nothing (sum_of_bounds x.multiplicities * get_or hs t 0) ∙ sym load)
  where
    nothing : (m : ℕ) → 0 + m ≡ m
    nothing m = omega arith

pub returns-in-Global : goal.returns-in-Global
returns-in-Global g c =
    let ws = c.args.lookups.now in
    let hs = c.args.heights.now in
    let tables = map (read_all {F = g.row.F.Denot}) ws in
    let t = c.args.table in
    let k = c.args.index in
    let own = c.as_slice-own.result.now in
    let x = c.index-own-index.result in
    let n = lookups_before tables t + k in
    let at-own : own ≡ get_or ws t own =
    c.as_slice-own.ensures ∙ c.index-lookups-table.is ∙ get_or_default ws t c.index-lookups-table.result own c.requires.table in
    let lt : k < length own = omega (arith, c.requires.index, ap length (at-own ∙ get_or_default ws t own [] c.requires.table)) in
    let long : length hs ≡ length tables = omega (arith, c.requires.heights, length-map ws (read_all {F = g.row.F.Denot})) in
    let within : n < length (batch_buses tables) = place_in ws t k own x c.requires.table at-own lt c.index-own-index.is in
    let bus = bus_is ws t k own x c.requires.table at-own lt c.index-own-index.is in
    let kind : x.bus ≡ bus_of_kind c.lookup.inside.kind = sym (ap (λ (w : Written g.row.F.Denot). w.bus) c.lookup.view_is) in
    let name = string_bytes c.in-Global.field-0 in
    let same : bus_of_kind c.lookup.inside.kind ≡ global name = ap bus_of_kind c.in-Global.is in
    let load = load_of_named tables hs long n within name (bus ∙ kind ∙ same) in
    c.load_of_name.ensures ∙ ap (λ b. min c.args.limit (named_loads b tables hs)) same ∙ ap (min c.args.limit) (sym load)
