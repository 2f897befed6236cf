use Rattle.std.proofs.Common.{◌≡◌, ◌≤◌, ◌++◌, List, ℕ, length, ◌∙◌, ap, arith}
use Rattle.std.specs.Prelude.{decimal}
use Rattle.p3_field.specs.declared.baby_bear.BabyBear.{BabyBear}
use Rattle.p3_lookup.specs.Messages.{Message}
use Rattle.tool_balance.proofs.Lines.{line_made}
use Rattle.tool_balance.proofs.nets.push_unbalanced.Goals as goal

pub returns : goal.returns
returns c =
    let m = c.args.net.now in
    let tuple : c.net.inside.tuple.items ≡ m.tuple = ap (λ (w : Message BabyBear). w.tuple) c.net.view_is in
    let all : length m.tuple ≤ c.loop-i.i = omega (arith, ap length tuple) in
    line_made m c.args.text.now.items c.extend_from_slice.new.self.items c.extend_from_slice-2.new.self.items c.loop-i.text.items c.push-2.new.self.items c.loop-i.i
    c.in_ok-extend_from_slice.ensures.items
    (c.in_ok-extend_from_slice-2.ensures.items
    ∙ ap (λ (t : List ℕ). c.extend_from_slice.new.self.items ++ t) (c.as_bytes.ensures.value ∙ (c.format.ensures.text ∙ ap (λ (w : Message BabyBear). decimal w.bus) c.net.view_is)))
    c.loop-i.invariant all c.in_ok-push-2.ensures.items
