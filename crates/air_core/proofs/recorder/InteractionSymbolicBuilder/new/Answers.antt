use Rattle.air_core.specs.Laws.Recording.{recording-first}
use Rattle.air_core.proofs.recorder.InteractionSymbolicBuilder.new.Goals as goal

pub invariant_of-result : goal.invariant_of-result
invariant_of-result g c =
    rw (c.in_ok-push.ensures.items, c.new-nodes.ensures.items, c.new.ensures.items, c.new-2.ensures.items)
    (recording-first c.args.layout _)
