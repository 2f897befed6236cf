use Rattle.std.proofs.Common.{◌≡◌, List, ◌∙◌, subst}
use Rattle.std.specs.Prelude.{slice_set}
use Rattle.std.proofs.lemmas.List.{map-set}
use Rattle.p3_lookup.specs.Written.{Written, read, read_all}
use Rattle.p3_lookup.specs.Packing.{with_lookup}
use Rattle.p3_lookup.proofs.packing.placed.Goals as goal

pub returns-in-Some : goal.returns-in-Some
returns-in-Some g c =
    let told = rw c.in-Some.is at c.in_ok-i.ensures.placed in
    map-set read c.args.kept.items c.in-Some.i c.in-Some.both
    ∙ subst (λ (ws : List (Written g.row.F.Denot)). slice_set (read_all ws) c.in-Some.i (read c.in-Some.both) ≡ with_lookup g.F.RingCore.ring c.args.t c.args.budget (read_all ws) (read c.args.lookup.now)) c.deref.ensures.value told
