use Rattle.std.proofs.Common.{length, arith, ◌≡◌}
use Rattle.std.specs.Prelude.{string_bytes}
use Rattle.std.specs.Option.{option_map}
use Rattle.air_core.specs.Recording.{Recording}
use Rattle.air_core.specs.Laws.Recording.{recording-send, placed-known-at}
use Rattle.air_core.proofs.recorder.InteractionSymbolicBuilder.keep.Goals as goal

pub invariant_of-self-2 : goal.invariant_of-self-2
invariant_of-self-2 g c =
    let s = c.self.inside in
    let r : Recording g.row.F.Denot = record { layout = s.layout; nodes = s.nodes.items; asserted = s.asserted.items; interactions = s.interactions.items } in
    let first : c.len.result ≡ length s.nodes.items = omega (arith, s.nodes.ok.0, c.len.ensures) in
    let second : c.len-2.result ≡ length s.nodes.items = omega (arith, s.nodes.ok.0, c.len-2.ensures) in
    rw c.in_ok-push.ensures.items
    (recording-send r _ c.self.invariant
    (placed-known-at (length s.nodes.items) c.len.result c.len-2.result (option_map string_bytes c.args.bus) c.args.fields.now c.args.counts.now
    c.in_ok-fields.fields.items c.in_ok-counts.counts.items first second c.in_ok-fields.ensures c.in_ok-counts.ensures
    c.self.invariant.rooted c.requires.counted c.requires.whole))
