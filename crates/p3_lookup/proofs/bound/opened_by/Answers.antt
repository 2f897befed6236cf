use Rattle.std.proofs.Common.{◌≡◌, ℕ, ◌+◌, ◌<◌, ◌≤◌, true, false, [], length, get_or, map, sym, ◌∙◌, ap, subst, arith}
use Rattle.std.specs.Prelude.{◌==◌}
use Rattle.std.proofs.lemmas.List.{length-map, get_or-map}
use Rattle.p3_lookup.specs.Bus.{opener, batch_buses, lookups_before, bus_in}
use Rattle.p3_lookup.specs.Written.{read, read_all}
use Rattle.p3_lookup.specs.Bound.{bus_load}
use Rattle.p3_lookup.specs.Loads.{AreBoundedBelow}
use Rattle.p3_lookup.specs.Laws.Places.{place_within}
use Rattle.p3_lookup.specs.Laws.Bound.{bounded_same, bounded_more, bounded_ends}
use Rattle.p3_lookup.proofs.bound.opened_by.Goals as goal
use Rattle.p3_lookup.proofs.bound.opened_by.Goals.{then-opens_bus+else-load_at-limit, else-opens_bus}

pub returns-then-load_at-limit : goal.returns-then-load_at-limit
returns-then-load_at-limit g c =
    let ws = c.args.lookups.now in
    let hs = c.args.heights.now in
    let tables = map (read_all {F = g.row.F.Denot}) ws in
    let t = c.args.table in
    let i = c.loop-index.index in
    let n = lookups_before tables t + i in
    let s = c.loop-index.invariant in
    let own : get_or tables t [] ≡ read_all c.as_slice-index-end.result.now =
    get_or-map (read_all {F = g.row.F.Denot}) ws t c.index-lookups-table.result [] c.requires.table
    ∙ ap (read_all {F = g.row.F.Denot}) (sym c.index-lookups-table.is ∙ sym c.as_slice-index-end.ensures) in
    let lt : i < length (get_or tables t []) = omega (arith, c.loop-index-test.true, ap length own, length-map c.as_slice-index-end.result.now (read {F = g.row.F.Denot})) in
    let in-tables : t < length tables = omega (arith, c.requires.table, length-map ws (read_all {F = g.row.F.Denot})) in
    let opens : (opener (batch_buses tables) n == n) ≡ true = sym c.opens_bus.ensures ∙ c.if-opens_bus.true in
    let load : c.args.limit ≤ bus_load tables hs (bus_in tables t i) = omega (arith, c.load_at.ensures, c.if-load_at-limit.true) in
    bounded_ends c.args.limit tables hs n c.loop-index.opened s (place_within tables t i in-tables lt) opens load

pub loop-index-preserved : goal.loop-index-preserved
loop-index-preserved g c =
    let ws = c.args.lookups.now in
    let hs = c.args.heights.now in
    let tables = map (read_all {F = g.row.F.Denot}) ws in
    let t = c.args.table in
    let i = c.loop-index.index in
    let n = lookups_before tables t + i in
    let s = c.loop-index.invariant in
    let next : n + 1 ≡ lookups_before tables t + (i + 1) = omega arith in
    subst (λ (m : ℕ). AreBoundedBelow c.args.limit tables hs m c.if-opens_bus.opened) next (elim c.if-opens_bus.branch [
      | then-opens_bus+else-load_at-limit w ↦
          let opens : (opener (batch_buses tables) n == n) ≡ true = sym c.opens_bus.ensures ∙ w.if-opens_bus.true in
          let load : bus_load tables hs (bus_in tables t i) < c.args.limit = omega (arith, w.load_at.ensures, w.if-load_at-limit.false) in
          bounded_more c.args.limit tables hs n c.loop-index.opened s c.if-opens_bus.opened opens load (w.opened-is ∙ w.saturating_add-opened.ensures)
      | else-opens_bus w ↦
          let none : (opener (batch_buses tables) n == n) ≡ false = sym c.opens_bus.ensures ∙ w.if-opens_bus.false in
          subst (λ (m : ℕ). AreBoundedBelow c.args.limit tables hs (n + 1) m) (sym w.opened-is) (bounded_same c.args.limit tables hs n c.loop-index.opened s none)
    ])
