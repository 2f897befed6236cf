use Rattle.std.proofs.Common.{◌<◌, ◌^◌, arith}
use Rattle.std.specs.Prelude.{map}
use Rattle.std.proofs.lemmas.List.Elements.{All-from_get_or}
use Rattle.tool_lines.specs.Texts.{Small, ItemsWithin}
use Rattle.tool_lines.specs.Fixed.{headed_numbers}
use Rattle.tool_lines.specs.Laws.Grammars.{items-grammar}
use Rattle.tool_lines.specs.Laws.FixedParts.{same-headed}
use Rattle.tool_lines.specs.Laws.Stops.{handed-on, same-stops, then-first}
use Rattle.tool_lines.proofs.FixedStops.{headed-read}
use Rattle.tool_lines.proofs.fixed.read_headed.Goals as goal

pub returns-in_err-read_fixed : goal.returns-in_err-read_fixed
returns-in_err-read_fixed g c = handed-on (λ v. map g.T.Form.data_of v.items) (ItemsWithin c.args.count g.T.Form.within) (headed_numbers c.args.head.now g.T.Form.numbers) _ _ _ c.in_err-read_fixed.field-0.0 c.from_residual.ensures.1
    (λ m. same-stops (same-headed c.args.head.now c.args.count g.T.Form.within g.T.Form.numbers)
    (then-first (items-grammar c.args.count g.met.T.Form.grammar) c.in_err-read_fixed.ensures.1))

pub returns : goal.returns
returns g c =
    let small : Small c.args.head.now = All-from_get_or (λ n. n < 2 ^ 64) c.args.head.now 0 (λ k q. let fits = c.type_inv.head k in omega (arith, fits)) in
    headed-read (λ v. map g.T.Form.data_of v.items) g.T.Form.within g.T.Form.numbers c.args.head.now c.args.count _ _ _ _ small c.in_ok-read_fixed.ensures c.read_items.ensures
