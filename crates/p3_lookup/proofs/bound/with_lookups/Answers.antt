use Rattle.std.proofs.Common.{◌≡◌, ◌+◌, ◌*◌, ◌<◌, min, cond, length, drop, sym, ◌∙◌, ap, arith}
use Rattle.std.proofs.lemmas.Bool.{cond-true, cond-false}
use Rattle.std.proofs.lemmas.List.{length-map}
use Rattle.p3_lookup.specs.Bus.{sum_of_bounds}
use Rattle.p3_lookup.specs.Written.{Written, bus_of_kind, read, read_all}
use Rattle.p3_lookup.specs.Packing.{same_name}
use Rattle.p3_lookup.specs.Loads.{named_load}
use Rattle.p3_lookup.proofs.Turns.{mapped_item}
use Rattle.p3_lookup.proofs.Bounded.{limited, bounds_read, loads_turn}
use Rattle.p3_lookup.proofs.bound.with_lookups.Goals as goal
use Rattle.p3_lookup.proofs.bound.with_lookups.Goals.{then-have_one_name, else-have_one_name}

pub loop-i-preserved : goal.loop-i-preserved
loop-i-preserved g c =
    let ws = c.args.lookups.now in
    let ls = read_all ws in
    let b = bus_of_kind c.args.kind.now in
    let i = c.loop-i.i in
    let x = c.index-lookups-i.result in
    let own-load = sum_of_bounds (read x).counts * c.args.height in
    let more = cond (same_name b x.bus) own-load 0 in
    let rest = named_load b c.args.height (drop (i + 1) ls) in
    let whole = min c.args.limit (c.args.load + named_load b c.args.height ls) in
    let within : i < length ws = omega arith in
    let within-2 : i < length ls = omega (arith, within, length-map ws (read {F = g.row.F.Denot})) in
    let bus : bus_of_kind c.lookup.inside.kind ≡ x.bus = ap (λ (w : Written g.row.F.Denot). w.bus) c.lookup.view_is in
    let test : c.have_one_name.result ≡ same_name b x.bus = c.have_one_name.ensures ∙ ap (same_name b) bus in
    let counts : c.lookup.inside.multiplicities.items ≡ x.multiplicities = ap (λ (w : Written g.row.F.Denot). w.multiplicities) c.lookup.view_is in
    let next : c.if-have_one_name.load ≡ min c.args.limit (c.loop-i.load + more) = elim c.if-have_one_name.branch [
      | then-have_one_name w ↦
          let yes : more ≡ own-load = cond-true (same_name b x.bus) own-load 0 (sym test ∙ w.if-have_one_name.true) in
          let bounds : sum_of_bounds w.deref.result.now ≡ sum_of_bounds (read x).counts = ap sum_of_bounds (w.deref.ensures.value ∙ counts) ∙ sym (bounds_read x.multiplicities) in
          w.load-is ∙ w.with_bounds-load.ensures ∙ ap (λ n. min c.args.limit (c.loop-i.load + n * c.args.height)) bounds ∙ ap (λ n. min c.args.limit (c.loop-i.load + n)) (sym yes)
      | else-have_one_name w ↦
          let no : more ≡ 0 = cond-false (same_name b x.bus) own-load 0 (sym test ∙ w.if-have_one_name.false) in
          omega (arith, w.load-is, no, c.loop-i.invariant.limited)
    ] in
    let turn = loads_turn b c.args.height ls i (read x) within-2 (mapped_item read ws i x (read x) within c.index-lookups-i.is) in
    let all : min c.args.limit (c.loop-i.load + (more + rest)) ≡ whole = ap (λ n. min c.args.limit (c.loop-i.load + n)) (sym turn) ∙ c.loop-i.invariant.rest in
    record { limited = omega (arith, next); rest = limited c.args.limit c.loop-i.load more rest c.if-have_one_name.load whole next all }
