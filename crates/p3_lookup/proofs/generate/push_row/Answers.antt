use Rattle.std.proofs.Common.{◌≡◌, ◌+◌, ◌<◌, ◌≤◌, refl, length, get_or, map, sym, ◌∙◌, ap, arith}
use Rattle.std.proofs.lemmas.List.{length-map, get_or-map}
use Rattle.air_core.specs.Symbolic.{tree_of}
use Rattle.p3_lookup.specs.Lookup.{LookupData}
use Rattle.p3_lookup.specs.Written.{Written, read, read_all}
use Rattle.p3_lookup.specs.RowTerms.{sizes}
use Rattle.p3_lookup.proofs.Turns.{mapped_item}
use Rattle.p3_lookup.proofs.Groups.{row_at_start, row_place, row_at_more, row_at_end}
use Rattle.p3_lookup.proofs.generate.push_row.Goals as goal

pub loop-i-init : goal.loop-i-init
loop-i-init g c =
    row_at_start g.EF.RingCore.ring g.met.EF.RingCore.ring_laws (sizes (read_all c.args.lookups.now)) c.args.quotients.now c.args.running c.args.values.now.items c.args.start c.push.new.self.items c.in_ok-push.ensures.items

pub overflow_sub-quotients : goal.overflow_sub-quotients
overflow_sub-quotients g c =
    omega (arith, c.loop-i.invariant.places, c.requires)

pub prove-unreachable-requires : goal.prove-unreachable-requires
prove-unreachable-requires g c =
    let ws = c.args.lookups.now in
    let ls = read_all ws in
    let ns = sizes ls in
    let i = c.loop-i.i in
    let x = c.index-lookups-i.result in
    let n = c.len-count.result in
    let within : i < length ws = omega arith in
    let within-2 : i < length ls = omega (arith, within, length-map ws (read {F = g.row.F.Denot})) in
    let within-3 : i < length ns = omega (arith, within-2, length-map ls (λ (l : LookupData g.row.F.Denot). length l.tuples)) in
    let elements = ap (λ (w : Written g.row.F.Denot). length w.elements) c.lookup.view_is in
    let wide : n ≡ length (read x).tuples =
    omega (arith, c.len-count.ensures, elements, length-map c.lookup.inside.elements.items (λ v. v.items), length-map x.elements (map (tree_of {F = g.row.F.Denot}))) in
    let at : n ≡ get_or ns i n =
    wide ∙ sym (get_or-map (λ (l : LookupData g.row.F.Denot). length l.tuples) ls i (read x) n within-2
    ∙ ap (λ (l : LookupData g.row.F.Denot). length l.tuples) (mapped_item read ws i x (read x) within c.index-lookups-i.is)) in
    let r = g.EF.RingCore.ring in
    let L = g.met.EF.RingCore.ring_laws in
    let s = c.loop-i.invariant in
    let room = row_place r L ns c.args.quotients.now c.args.running c.args.values.now.items c.args.start i c.loop-i.place n c.loop-i.values.items c.loop-i.running within-3 at s in
    omega (arith, room, c.requires, c.if-prove.true)

pub slice_bounds-total-end : goal.slice_bounds-total-end
slice_bounds-total-end g c =
    let ws = c.args.lookups.now in
    let ls = read_all ws in
    let ns = sizes ls in
    let i = c.loop-i.i in
    let x = c.index-lookups-i.result in
    let n = c.len-count.result in
    let within : i < length ws = omega arith in
    let within-2 : i < length ls = omega (arith, within, length-map ws (read {F = g.row.F.Denot})) in
    let within-3 : i < length ns = omega (arith, within-2, length-map ls (λ (l : LookupData g.row.F.Denot). length l.tuples)) in
    let elements = ap (λ (w : Written g.row.F.Denot). length w.elements) c.lookup.view_is in
    let wide : n ≡ length (read x).tuples =
    omega (arith, c.len-count.ensures, elements, length-map c.lookup.inside.elements.items (λ v. v.items), length-map x.elements (map (tree_of {F = g.row.F.Denot}))) in
    let at : n ≡ get_or ns i n =
    wide ∙ sym (get_or-map (λ (l : LookupData g.row.F.Denot). length l.tuples) ls i (read x) n within-2
    ∙ ap (λ (l : LookupData g.row.F.Denot). length l.tuples) (mapped_item read ws i x (read x) within c.index-lookups-i.is)) in
    let r = g.EF.RingCore.ring in
    let L = g.met.EF.RingCore.ring_laws in
    let s = c.loop-i.invariant in
    let room = row_place r L ns c.args.quotients.now c.args.running c.args.values.now.items c.args.start i c.loop-i.place n c.loop-i.values.items c.loop-i.running within-3 at s in
    omega (arith, room, c.requires)

pub loop-i-preserved : goal.loop-i-preserved
loop-i-preserved g c =
    let ws = c.args.lookups.now in
    let ls = read_all ws in
    let ns = sizes ls in
    let i = c.loop-i.i in
    let x = c.index-lookups-i.result in
    let n = c.len-count.result in
    let within : i < length ws = omega arith in
    let within-2 : i < length ls = omega (arith, within, length-map ws (read {F = g.row.F.Denot})) in
    let within-3 : i < length ns = omega (arith, within-2, length-map ls (λ (l : LookupData g.row.F.Denot). length l.tuples)) in
    let elements = ap (λ (w : Written g.row.F.Denot). length w.elements) c.lookup.view_is in
    let wide : n ≡ length (read x).tuples =
    omega (arith, c.len-count.ensures, elements, length-map c.lookup.inside.elements.items (λ v. v.items), length-map x.elements (map (tree_of {F = g.row.F.Denot}))) in
    let at : n ≡ get_or ns i n =
    wide ∙ sym (get_or-map (λ (l : LookupData g.row.F.Denot). length l.tuples) ls i (read x) n within-2
    ∙ ap (λ (l : LookupData g.row.F.Denot). length l.tuples) (mapped_item read ws i x (read x) within c.index-lookups-i.is)) in
    let r = g.EF.RingCore.ring in
    let L = g.met.EF.RingCore.ring_laws in
    let s = c.loop-i.invariant in
    let room = row_place r L ns c.args.quotients.now c.args.running c.args.values.now.items c.args.start i c.loop-i.place n c.loop-i.values.items c.loop-i.running within-3 at s in
    row_at_more r L ns c.args.quotients.now c.args.running c.args.values.now.items c.args.start i c.loop-i.place n c.loop-i.values.items c.loop-i.running within-3 at s
    c.push-in-loop-i.new.self.items c.total-fraction.result c.add-running.result (c.loop-i.place + n) refl c.total-fraction.ensures c.in_ok-push-2.ensures.items (g.met.EF.PrimeCharacteristicRing.adds _ _ _ c.add-running.ensures)

pub returns : goal.returns
returns g c =
    let ns = sizes (read_all c.args.lookups.now) in
    let over : length ns ≤ c.loop-i.i =
    omega (arith, length-map (read_all c.args.lookups.now) (λ (l : LookupData g.row.F.Denot). length l.tuples), length-map c.args.lookups.now (read {F = g.row.F.Denot})) in
    row_at_end g.EF.RingCore.ring g.met.EF.RingCore.ring_laws ns c.args.quotients.now c.args.running c.args.values.now.items c.args.start c.loop-i.i c.loop-i.place c.loop-i.values.items c.loop-i.running over c.loop-i.invariant
