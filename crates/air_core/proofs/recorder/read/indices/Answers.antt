use Rattle.std.proofs.Common.{sym, refl}
use Rattle.air_core.specs.Laws.Recording.{indices-none, indices-step}
use Rattle.air_core.proofs.recorder.read.indices.Goals as goal

pub loop-place-init : goal.loop-place-init
loop-place-init c = rw (c.new-indices.ensures.items, indices-none c.args.in_extension) refl

pub loop-place-preserved : goal.loop-place-preserved
loop-place-preserved c =
    rw (c.in_ok-push_if.ensures, c.loop-place.invariant, c.is_asked-asked.ensures)
    (sym (indices-step c.args.in_extension c.args.asserted.now c.loop-place.place _ c.loop-place-test.true))
