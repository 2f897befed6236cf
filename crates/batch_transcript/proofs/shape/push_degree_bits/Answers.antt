use Rattle.batch_transcript.specs.BatchScript.{degree_bits_step}
use Rattle.batch_transcript.specs.Laws.Phases.{map-const-more}
use Rattle.batch_transcript.proofs.shape.push_degree_bits.Goals as goal

pub loop-width-preserved : goal.loop-width-preserved
loop-width-preserved c =
    map-const-more (degree_bits_step c.args.dimension) c.args.widths.now c.loop-width._width-index c.args.steps.now.items c.loop-width.steps.items c.push_message.new.steps.items
    c.loop-width-test.true c.loop-width.invariant c.in_ok-push_message.ensures
