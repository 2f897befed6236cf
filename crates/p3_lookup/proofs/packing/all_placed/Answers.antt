use Rattle.std.proofs.Common.{◌≡◌, ◌+◌, ◌<◌, ◌≤◌, true, suc, List, ◌∷◌, length, drop, sym, ◌∙◌, ap, subst, arith}
use Rattle.std.specs.Prelude.{All}
use Rattle.std.proofs.lemmas.List.{length-map, drop_all}
use Rattle.air_core.specs.Tree.{local}
use Rattle.p3_lookup.specs.Lookup.{LookupData, HasCountForEach}
use Rattle.p3_lookup.specs.Written.{read, read_all}
use Rattle.p3_lookup.specs.Packing.{packed_onto}
use Rattle.p3_lookup.specs.Laws.Packing.{with_counted}
use Rattle.p3_lookup.proofs.Turns.{at_item, dropped}
use Rattle.p3_lookup.proofs.packing.all_placed.Goals as goal

pub placed-requires-clause-lookup : goal.placed-requires-clause-lookup
placed-requires-clause-lookup g c =
    let within : c.loop-i.i < length c.args.lookups.now = omega arith in
    at_item HasCountForEach read c.args.lookups.now c.loop-i.i c.index-lookups-i.result within c.index-lookups-i.is c.requires

pub loop-i-preserved : goal.loop-i-preserved
loop-i-preserved g c =
    let f = g.F.RingCore.ring in
    let ws = c.args.lookups.now in
    let x = c.index-lookups-i.result in
    let i = c.loop-i.i in
    let within : i < length ws = omega arith in
    let next : suc i ≡ i + 1 = omega arith in
    let own : HasCountForEach (read x) = at_item HasCountForEach read ws i x within c.index-lookups-i.is c.requires in
    let d : drop i (read_all ws) ≡ read x ∷ drop (i + 1) (read_all ws) = dropped read ws (i + 1) i x next within c.index-lookups-i.is in
    let e = c.in_ok-kept.ensures in
    record {
      counted = subst (λ (ks : List (LookupData g.row.F.Denot)). All HasCountForEach ks) (sym e)
          (with_counted (λ _. true) local f c.args.t c.args.budget (read_all c.loop-i.kept.items) (read x) own c.loop-i.invariant.counted);
      onto = ap (λ (ks : List (LookupData g.row.F.Denot)). packed_onto f c.args.t c.args.budget ks (drop (i + 1) (read_all ws))) e
          ∙ sym (ap (packed_onto f c.args.t c.args.budget (read_all c.loop-i.kept.items)) d) ∙ c.loop-i.invariant.onto;
    }

pub returns : goal.returns
returns g c =
    let ws = c.args.lookups.now in
    let over : length (read_all ws) ≤ c.loop-i.i = omega (arith, length-map ws read) in
    sym (ap (packed_onto g.F.RingCore.ring c.args.t c.args.budget (read_all c.loop-i.kept.items)) (drop_all c.loop-i.i (read_all ws) over)) ∙ c.loop-i.invariant.onto
