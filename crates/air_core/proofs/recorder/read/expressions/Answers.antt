use Rattle.std.proofs.Common.{sym, ◌∙◌}
use Rattle.air_core.specs.Recording.{is_in}
use Rattle.air_core.proofs.Chosen.{none_chosen}
use Rattle.air_core.proofs.recorder.read.expressions.Goals as goal

pub returns-in_err-expression_at-clause-none : goal.returns-in_err-expression_at-clause-none
returns-in_err-expression_at-clause-none g c e =
    absurd (none_chosen (is_in c.args.in_extension) c.args.asserted.now c.loop-assertion.assertion-index _ e c.loop-assertion-test.true (sym c.is_asked.ensures ∙ c.if-is_asked.true))

pub returns-in_err-push-clause-none : goal.returns-in_err-push-clause-none
returns-in_err-push-clause-none g c e =
    absurd (none_chosen (is_in c.args.in_extension) c.args.asserted.now c.loop-assertion.assertion-index _ e c.loop-assertion-test.true (sym c.is_asked.ensures ∙ c.if-is_asked.true))
