use Rattle.tool_lines.specs.Texts.{Unlimited}
use Rattle.tool_lines.specs.Fixed.{fixed_numbers}
use Rattle.tool_lines.specs.Laws.Stops.{known-handed-on}
use Rattle.tool_lines.proofs.FixedStops.{fixed-stops, fixed-grows}
use Rattle.tool_lines.proofs.fixed.read_fixed.Goals as goal

pub returns-in_err-number : goal.returns-in_err-number
returns-in_err-number c = known-handed-on {A = Unit {0}} Unlimited (fixed_numbers c.args.numbers.now) _ _ _ c.in_err-number.field-0.0 c.from_residual.ensures.1
    c.in_err-number.ensures.0 (fixed-stops c.args.numbers.now c.loop-number.number-index _ _ _ c.loop-number-test.true c.loop-number.invariant c.in_err-number.ensures.1)

pub loop-number-preserved : goal.loop-number-preserved
loop-number-preserved c =
    fixed-grows c.args.numbers.now c.loop-number.number-index c.in_ok-number.field-0 _ _ _ c.loop-number-test.true c.loop-number.invariant c.in_ok-number.ensures
