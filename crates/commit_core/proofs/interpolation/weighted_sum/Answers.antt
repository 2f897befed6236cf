use Rattle.std.proofs.Common.{◌≡◌, ℕ, ◌<◌, ◌∙◌, ap, arith, get_or, length}
use Rattle.std.proofs.lemmas.List.{get_or_read}
use Rattle.p3_field.specs.Poly.{total}
use Rattle.p3_field.specs.Laws.Tabulate.{total_more}
use Rattle.commit_core.proofs.interpolation.weighted_sum.Goals as goal

pub loop-i-init : goal.loop-i-init
loop-i-init g c = c.ZERO-sum.ensures ∙ g.met.EF.RingCore.zero_is

pub loop-i-preserved : goal.loop-i-preserved
loop-i-preserved g c =
    let s = g.EF.RingCore.ring in
    let P = g.met.EF.PrimeCharacteristicRing in
    let i = c.loop-i.i in
    let v = c.args.values.now in
    let ws = c.args.weights.now in
    let within : i < length v = omega arith in
    let inside : i < length ws = omega (arith, c.requires) in
    let item = get_or_read v i c.index-values-i.result within c.index-values-i.is g.F.RingCore.ring.zero in
    let weight = get_or_read ws i c.index-weights-i.result inside c.index-weights-i.is s.zero in
    let t = λ (k : ℕ). s.mul (g.EF.ExtensionField.embed (get_or v k g.F.RingCore.ring.zero)) (get_or ws k s.zero) in
    cc (P.adds _ _ _ c.add-sum.ensures, P.muls _ _ _ c.mul.ensures, c.from_base.ensures, item, weight, c.loop-i.invariant, total_more s g.met.EF.RingCore.ring_laws i t)

pub returns : goal.returns
returns g c =
    let s = g.EF.RingCore.ring in
    let t = λ (k : ℕ). s.mul (g.EF.ExtensionField.embed (get_or c.args.values.now k g.F.RingCore.ring.zero)) (get_or c.args.weights.now k s.zero) in
    let n : c.loop-i.i ≡ length c.args.values.now = omega arith in
    c.loop-i.invariant ∙ ap (λ k. total s k t) n
