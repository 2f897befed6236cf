use Rattle.std.proofs.Common.{map, ap, ◌∙◌}
use Rattle.std.specs.Prelude.{flat_map}
use Rattle.std.proofs.lemmas.List.{take_all}
use Rattle.batch_transcript.proofs.Laid.{kinds-buses}
use Rattle.batch_transcript.proofs.buses.batch_kinds.Goals as goal

pub returns : goal.returns
returns g c =
    c.loop-instance.invariant ∙ ap (flat_map (map (λ w. w.bus))) (take_all _ c.args.lookups.now c.loop-instance-test.false) ∙ kinds-buses c.args.lookups.now
