use Rattle.std.proofs.Common.{List, [], map, ap, sym, ◌∙◌}
use Rattle.std.proofs.lemmas.List.{take_all}
use Rattle.std.proofs.lemmas.Simd.{map-map}
use Rattle.p3_lookup.specs.Lookup.{LookupData}
use Rattle.p3_lookup.specs.Written.{Written, read_all}
use Rattle.batch_transcript.proofs.buses.empty_layout.Goals as goal

pub returns : goal.returns
returns g c =
    let none : List (LookupData g.row.F.Denot) → List g.row.EF.Denot = λ x. [] in
    let unread : List (Written g.row.F.Denot) → List g.row.EF.Denot = λ x. [] in
    c.loop-instance.invariant ∙ ap (map unread) (take_all _ c.args.lookups.now c.loop-instance-test.false) ∙ sym (map-map none read_all c.args.lookups.now)
