use Rattle.std.proofs.Common.{arith}
use Rattle.std.specs.Prelude.{map}
use Rattle.std.proofs.lemmas.Grind.{common_steps}
use Rattle.std.proofs.lemmas.List.Elements.{All-push}
use Rattle.tool_lines.specs.Texts.{ItemsWithin, items_numbers}
use Rattle.tool_lines.specs.Laws.Stops.{handed-on}
use Rattle.tool_lines.proofs.Stops.{item-stops, items-grow, map-pushed}
use Rattle.tool_lines.proofs.lists.read_items.Goals as goal

pub returns-in_err-read : goal.returns-in_err-read
returns-in_err-read g c = handed-on (λ v. map g.T.Form.data_of v.items) (ItemsWithin c.args.count g.T.Form.within) (items_numbers g.T.Form.numbers) _ _ _ c.in_err-read.field-0.0 c.from_residual.ensures.1
    (λ m. item-stops g.met.T.Form.grammar c.args.count (map g.T.Form.data_of c.loop.items.items) _ c.loop.invariant.fits (omega (arith, c.loop.invariant.counted))
    c.loop.invariant.text (c.in_err-read.ensures m))

pub loop-preserved : goal.loop-preserved
loop-preserved g c =
    let done = map g.T.Form.data_of c.loop.items.items in
    let item = g.T.Form.data_of c.in_ok-read.field-0 in
    let more = map-pushed g.T.Form.data_of c.loop.items.items c.push.new.self.items c.in_ok-read.field-0 c.in_ok-push.ensures.items in
    record {
      text = rw more (items-grow g.T.Form.numbers done item _ _ _ c.loop.invariant.text c.in_ok-read.ensures.text);
      fits = rw more (All-push g.T.Form.within done item c.loop.invariant.fits c.in_ok-read.ensures.fits);
      counted = rw more (grind (arith, common_steps, c.loop.invariant.counted));
    }
