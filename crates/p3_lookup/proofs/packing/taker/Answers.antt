use Rattle.std.proofs.Common.{◌<◌, length, ◌∙◌, ap, arith}
use Rattle.std.proofs.lemmas.List.{length-map}
use Rattle.std.proofs.Math.ListN.{set}
use Rattle.p3_lookup.specs.Lookup.{LookupData, HasCountForEach}
use Rattle.p3_lookup.specs.Written.{read, read_all}
use Rattle.p3_lookup.proofs.Turns.{at_item, mapped_item}
use Rattle.p3_lookup.proofs.Packed.{pass_next, pass_taken}
use Rattle.p3_lookup.proofs.packing.taker.Goals as goal

pub taken_in-requires-clause-first : goal.taken_in-requires-clause-first
taken_in-requires-clause-first g c =
    let within : c.loop-i.i < length c.args.kept.now = omega arith in
    at_item HasCountForEach read c.args.kept.now c.loop-i.i c.index-kept-i.result within c.index-kept-i.is c.requires.kept

pub returns-in-Some-clause-placed : goal.returns-in-Some-clause-placed
returns-in-Some-clause-placed g c =
    let ws = c.args.kept.now in
    let x = c.index-kept-i.result in
    let i = c.loop-i.i in
    let within : i < length ws = omega arith in
    let within-2 : i < length (read_all ws) = omega (arith, within, length-map ws read) in
    let told = rw c.in-Some.is at c.in_ok-both.ensures in
    ap (λ (m : LookupData g.row.F.Denot). set (read_all ws) i m) told.0
    ∙ pass_taken g.F.RingCore.ring c.args.t c.args.budget (read_all ws) (read c.args.lookup.now) i (read x) within-2 (mapped_item read ws i x (read x) within c.index-kept-i.is) told.1 c.loop-i.invariant

pub loop-i-preserved : goal.loop-i-preserved
loop-i-preserved g c =
    let ws = c.args.kept.now in
    let x = c.index-kept-i.result in
    let i = c.loop-i.i in
    let within : i < length ws = omega arith in
    let within-2 : i < length (read_all ws) = omega (arith, within, length-map ws read) in
    let told = rw c.in_default.is at c.in_ok-both.ensures in
    pass_next g.F.RingCore.ring c.args.t c.args.budget (read_all ws) (read c.args.lookup.now) i (read x) within-2 (mapped_item read ws i x (read x) within c.index-kept-i.is) told c.loop-i.invariant
