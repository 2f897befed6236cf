use Rattle.std.proofs.Common.{◌≡◌, ◌∙◌, ◌+◌, ◌*◌, ◌^◌, length, get_or, ap, arith}
use Rattle.p3_field.specs.Poly.{tabulate}
use Rattle.p3_field.specs.Laws.Tabulate.{tabulate_push, length-tabulate}
use Rattle.plain_pcs.specs.Laws.Multilinear.{between, first_variable}
use Rattle.plain_pcs.proofs.Folding.{between_read}
use Rattle.plain_pcs.proofs.evaluations.first_set.Goals as goal

pub loop-i-preserved : goal.loop-i-preserved
loop-i-preserved g c =
    let r = g.E.RingCore.ring in
    let P = g.met.E.PrimeCharacteristicRing in
    let v = c.args.values.now in
    c.in_ok-push.ensures.items ∙ tabulate_push c.loop-i.i (λ i. between r c.args.x (get_or v (2 * i) r.zero) (get_or v (2 * i + 1) r.zero)) c.loop-i.set.items c.add.result c.loop-i.invariant
    (between_read r g.met.E.RingCore.ring_laws v c.loop-i.i c.args.x c.index-values-i.result c.index-values-i-in-loop-i.result c.sub.result c.mul.result c.add.result
    (omega (arith, c.loop-i-test.true)) c.index-values-i.is c.index-values-i-in-loop-i.is (P.subs _ _ _ c.sub.ensures) (P.muls _ _ _ c.mul.ensures) (P.adds _ _ _ c.add.ensures))

pub returns-clause-count : goal.returns-clause-count
returns-clause-count g c =
    let r = g.E.RingCore.ring in
    let v = c.args.values.now in
    omega (arith, ap length c.loop-i.invariant, length-tabulate c.loop-i.i (λ i. between r c.args.x (get_or v (2 * i) r.zero) (get_or v (2 * i + 1) r.zero)), c.loop-i-test.false, c.loop-i.auto.i-end)

pub returns-clause-value : goal.returns-clause-value
returns-clause-value g c = λ xs h.
    let r = g.E.RingCore.ring in
    let v = c.args.values.now in
    let all : c.loop-i.i ≡ 2 ^ length xs = omega (arith, h, c.loop-i-test.false, c.loop-i.auto.i-end) in
    first_variable r g.met.E.RingCore.ring_laws v c.loop-i.set.items c.args.x xs
    (c.loop-i.invariant ∙ ap (λ k. tabulate k (λ i. between r c.args.x (get_or v (2 * i) r.zero) (get_or v (2 * i + 1) r.zero))) all)
