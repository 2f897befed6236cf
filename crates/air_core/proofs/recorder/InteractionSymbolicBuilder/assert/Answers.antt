use Rattle.std.proofs.Common.{rules}
use Rattle.air_core.specs.Laws.Recording.{appends-none}
use Rattle.air_core.proofs.recorder.InteractionSymbolicBuilder.assert.Goals as goal

pub returns-in_err-push-clause-on_error : goal.returns-in_err-push-clause-on_error
returns-in_err-push-clause-on_error g c =
    let same = appends-none c.args.self.now in
    rw (c.in_err-push.ensures.items, ← c.self.view_is) (search rules)
