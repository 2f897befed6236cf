use Rattle.std.proofs.Common.{◌≡◌, ◌<◌, length, take, sym, ◌∙◌, ap, arith}
use Rattle.std.proofs.lemmas.List.{length-map}
use Rattle.p3_lookup.specs.Lookup.{LookupData}
use Rattle.p3_lookup.specs.Written.{Written, bus_of_kind, read, read_all}
use Rattle.p3_lookup.specs.Packing.{same_name}
use Rattle.p3_lookup.specs.Loads.{is_named_among}
use Rattle.p3_lookup.proofs.Turns.{mapped_item}
use Rattle.p3_lookup.proofs.Bounded.{any_found, any_more}
use Rattle.p3_lookup.proofs.bound.is_named_in.Goals as goal

pub returns-then-have_one_name : goal.returns-then-have_one_name
returns-then-have_one_name g c =
    let ws = c.args.lookups.now in
    let b = bus_of_kind c.args.kind.now in
    let i = c.loop-i.i in
    let x = c.index-lookups-i.result in
    let within : i < length ws = omega arith in
    let own = ap (λ (w : Written g.row.F.Denot). w.bus) c.lookup.view_is in
    sym (any_found (λ (l : LookupData g.row.F.Denot). same_name b l.bus) (read_all ws) c.args.count i (read x) (omega arith) (omega (arith, length-map ws read))
    (mapped_item read ws i x (read x) within c.index-lookups-i.is) (ap (same_name b) (sym own) ∙ sym c.if-have_one_name.ensures))

pub loop-i-preserved : goal.loop-i-preserved
loop-i-preserved g c =
    let ws = c.args.lookups.now in
    let b = bus_of_kind c.args.kind.now in
    let i = c.loop-i.i in
    let x = c.index-lookups-i.result in
    let within : i < length ws = omega arith in
    let own = ap (λ (w : Written g.row.F.Denot). w.bus) c.lookup.view_is in
    any_more (λ (l : LookupData g.row.F.Denot). same_name b l.bus) (read_all ws) i (read x) (omega (arith, within, length-map ws read))
    (mapped_item read ws i x (read x) within c.index-lookups-i.is) (ap (same_name b) (sym own) ∙ sym c.if-have_one_name.ensures) c.loop-i.invariant

pub returns : goal.returns
returns g c =
    let e : c.loop-i.i ≡ c.args.count = omega arith in
    sym c.loop-i.invariant ∙ ap (λ k. is_named_among (bus_of_kind c.args.kind.now) (take k (read_all c.args.lookups.now))) e
