use Rattle.std.proofs.Common.{arith}
use Rattle.tool_lines.proofs.Prints.{prints-more, prints-all}
use Rattle.tool_lines.proofs.lists.print_items.Goals as goal

pub loop-item-preserved : goal.loop-item-preserved
loop-item-preserved g c = prints-more (λ v. g.T.Form.numbers (g.T.Form.data_of v)) c.args.items.now c.loop-item.item-index c.item-item.result c.args.out.now.items c.loop-item.out.items c.print.new.out.items
    c.loop-item-test.true c.item-item.is c.loop-item.invariant c.in_ok-print.ensures

pub returns : goal.returns
returns g c = prints-all g.T.Form.data_of g.T.Form.numbers c.args.items.now c.loop-item.item-index c.args.out.now.items c.loop-item.out.items (omega arith) c.loop-item.invariant
