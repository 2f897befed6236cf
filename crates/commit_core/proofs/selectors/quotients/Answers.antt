use Rattle.std.proofs.Common.{◌≡◌, ℕ, ◌<◌, ◌∙◌, ap, arith, length, get_or, map}
use Rattle.std.proofs.lemmas.List.{get_or_read, get_or-map, length-map}
use Rattle.p3_field.specs.Poly.{tabulate}
use Rattle.p3_field.specs.Laws.Tabulate.{tabulate_push, tabulate_same}
use Rattle.commit_core.proofs.selectors.quotients.Goals as goal

pub index-requires : goal.index-requires
index-requires g c =
    let inv = g.F.FieldCore.inv in
    let b = c.args.divisors.now in
    let items : c.in_ok-inverses.inverses.items ≡ map inv b = c.in_ok-inverses.ensures in
    omega (arith, ap length items, length-map b inv, c.requires.same, c.in_ok-inverses.inverses.ok.0)

pub loop-i-preserved : goal.loop-i-preserved
loop-i-preserved g c =
    let r = g.F.RingCore.ring in
    let inv = g.F.FieldCore.inv in
    let i = c.loop-i.i in
    let a = c.args.dividends.now in
    let b = c.args.divisors.now in
    let xs = c.in_ok-inverses.inverses.items in
    let items : xs ≡ map inv b = c.in_ok-inverses.ensures in
    let inside : i < length xs = omega (arith, ap length items, length-map b inv, c.requires.same) in
    let dividend = get_or_read a i c.index-dividends-i.result (omega arith) c.index-dividends-i.is r.zero in
    let inverse = get_or_read xs i c.index.result.now inside c.index.ensures r.zero in
    let t = λ (k : ℕ). r.mul (get_or a k r.zero) (get_or xs k r.zero) in
    c.in_ok-push.ensures.items ∙ tabulate_push i t _ _ c.loop-i.invariant (g.met.F.PrimeCharacteristicRing.muls _ _ _ c.mul.ensures ∙ cc (dividend, inverse))

pub returns : goal.returns
returns g c =
    let r = g.F.RingCore.ring in
    let inv = g.F.FieldCore.inv in
    let a = c.args.dividends.now in
    let b = c.args.divisors.now in
    let xs = c.in_ok-inverses.inverses.items in
    let items : xs ≡ map inv b = c.in_ok-inverses.ensures in
    let n : c.loop-i.i ≡ length a = omega arith in
    c.loop-i.invariant ∙ (ap (λ k. tabulate k (λ i. r.mul (get_or a i r.zero) (get_or xs i r.zero))) n
    ∙ tabulate_same (length a) (λ i. r.mul (get_or a i r.zero) (get_or xs i r.zero)) (λ i. r.mul (get_or a i r.zero) (inv (get_or b i r.zero)))
    (λ i h. let k : i < length b = omega (arith, c.requires.same) in
    ap (r.mul (get_or a i r.zero)) (ap (λ l. get_or l i r.zero) items ∙ get_or-map inv b i r.zero r.zero k)))
