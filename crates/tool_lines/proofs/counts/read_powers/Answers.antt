use Rattle.std.proofs.Common.{arith}
use Rattle.std.specs.Prelude.{map}
use Rattle.tool_lines.specs.Texts.{list_numbers}
use Rattle.tool_lines.specs.Laws.Stops.{handed-on}
use Rattle.tool_lines.specs.Counts.{PowersWithin}
use Rattle.tool_lines.proofs.Counted.{powers-after, powers-count}
use Rattle.tool_lines.proofs.counts.read_powers.Goals as goal

pub returns-in_err-count : goal.returns-in_err-count
returns-in_err-count g c = handed-on (λ v. map g.T.Form.data_of v.items) (PowersWithin c.args.most g.T.Form.within) (list_numbers g.T.Form.numbers) _ _ _ c.in_err-count.field-0.0 c.from_residual.ensures.1
    (λ m. powers-count c.args.most g.met.T.Form.grammar c.in_err-count.ensures.1)

pub returns : goal.returns
returns g c =
    let small = c.ranges.most in
    powers-after c.args.most c.requires (omega (arith, small)) (λ v. map g.T.Form.data_of v.items) g.T.Form.within g.T.Form.numbers _ _ _ c.in_ok-count.count c.read_items.result c.in_ok-count.ensures c.read_items.ensures
