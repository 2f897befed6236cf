use Rattle.std.proofs.Common.{◌≡◌, ◌≤◌, ◌<◌, ◌++◌, List, ℕ, OnOk, length, sym, ◌∙◌, ap, subst, arith}
use Rattle.p3_field.specs.BabyBear.{baby_bear_ring}
use Rattle.p3_lookup.specs.Messages.{Message}
use Rattle.p3_field.specs.declared.baby_bear.BabyBear.{BabyBear}
use Rattle.tool_balance.proofs.Lines.{left_here, left_later, none_is_left}
use Rattle.tool_balance.specs.Nets.{balanced_line, line_with, nets_line, unbalanced_line}
use Rattle.tool_balance.proofs.nets.push_nets_line.Goals as goal

pub returns-then-not-is_zero : goal.returns-then-not-is_zero
returns-then-not-is_zero c =
    let nets = c.args.nets.now in
    let m = c.index-nets-i.result in
    let old = c.args.text.now.items in
    let within : c.loop-i.i < length nets = omega arith in
    let count : c.net.inside.count ≡ m.count = ap (λ (w : Message BabyBear). w.count) c.net.view_is in
    let other : m.count ≡ baby_bear_ring.zero → ⊥ = λ z. let e = sym c.if-not-is_zero.true ∙ c.is_zero.ensures.1 (count ∙ z) in cc in
    let first = left_here nets c.loop-i.i c.loop-i.invariant.1 m within c.index-nets-i.is other in
    let line : c.loop-i.text.items ++ unbalanced_line m ≡ old ++ nets_line nets = ap (λ (t : List ℕ). t ++ unbalanced_line m) c.loop-i.invariant.0 ∙ ap (λ o. old ++ line_with (length nets) o) (sym first) in
    subst (λ (t : List ℕ). OnOk c.push_unbalanced.result (c.push_unbalanced.new.text.items ≡ t)) line c.push_unbalanced.ensures

pub loop-i-preserved : goal.loop-i-preserved
loop-i-preserved c =
    let nets = c.args.nets.now in
    let m = c.index-nets-i.result in
    let within : c.loop-i.i < length nets = omega arith in
    let count : c.net.inside.count ≡ m.count = ap (λ (w : Message BabyBear). w.count) c.net.view_is in
    let zero : m.count ≡ baby_bear_ring.zero = sym count ∙ c.is_zero.ensures.0 c.if-not-is_zero.false in
    (c.loop-i.invariant.0, left_later nets c.loop-i.i c.loop-i.invariant.1 m within c.index-nets-i.is zero)

pub returns : goal.returns
returns c =
    let nets = c.args.nets.now in
    let old = c.args.text.now.items in
    let over : length nets ≤ c.loop-i.i = omega arith in
    let none = none_is_left nets c.loop-i.i c.loop-i.invariant.1 over in
    let line : c.loop-i.text.items ++ balanced_line (length nets) ≡ old ++ nets_line nets = ap (λ (t : List ℕ). t ++ balanced_line (length nets)) c.loop-i.invariant.0 ∙ ap (λ o. old ++ line_with (length nets) o) (sym none) in
    subst (λ (t : List ℕ). OnOk c.push_balanced.result (c.push_balanced.new.text.items ≡ t)) line c.push_balanced.ensures
