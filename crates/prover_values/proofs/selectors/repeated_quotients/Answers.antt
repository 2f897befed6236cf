use Rattle.std.proofs.Common.{◌≡◌, List, ℕ, ◌%◌, ◌<◌, ◌∙◌, ap, arith, length, get_or, map}
use Rattle.std.proofs.lemmas.Nat.{mod_below}
use Rattle.std.proofs.lemmas.List.{get_or_read, get_or-map, length-map}
use Rattle.p3_field.specs.Poly.{tabulate}
use Rattle.p3_field.specs.Laws.Tabulate.{tabulate_push}
use Rattle.prover_values.proofs.selectors.repeated_quotients.Goals as goal

pub loop-i-preserved : goal.loop-i-preserved
loop-i-preserved g c =
    let r = g.F.RingCore.ring in
    let inv = g.F.FieldCore.inv in
    let i = c.loop-i.i in
    let a = c.args.dividends.now in
    let b = c.args.divisors.now in
    let xs = c.deref-inverse-items.result.now in
    let items : xs ≡ map inv b = c.deref-inverse-items.ensures.value ∙ c.in_ok-inverses.ensures in
    let inside : i < length xs = omega arith in
    let divisor : i < length b = omega (arith, inside, ap length items, length-map b inv) in
    let place : i % length a < length a = mod_below i (length a) c.requires.some in
    let dividend = get_or_read a (i % length a) c.index-dividends-i.result place c.index-dividends-i.is r.zero in
    let inverse : c.inverse-item.result ≡ inv (get_or b i r.zero) =
    get_or_read xs i c.inverse-item.result inside c.inverse-item.is r.zero ∙ (ap (λ (l : List g.row.F.Denot). get_or l i r.zero) items ∙ get_or-map inv b i r.zero r.zero divisor) in
    let t = λ (k : ℕ). r.mul (get_or a (k % length a) r.zero) (inv (get_or b k r.zero)) in
    c.in_ok-push.ensures.items ∙ tabulate_push i t _ _ c.loop-i.invariant (g.met.F.PrimeCharacteristicRing.muls _ _ _ c.mul.ensures ∙ cc (dividend, inverse))

pub returns : goal.returns
returns g c =
    let r = g.F.RingCore.ring in
    let inv = g.F.FieldCore.inv in
    let a = c.args.dividends.now in
    let b = c.args.divisors.now in
    let xs = c.deref-inverse-items.result.now in
    let items : xs ≡ map inv b = c.deref-inverse-items.ensures.value ∙ c.in_ok-inverses.ensures in
    let n : c.loop-i.i ≡ length b = omega (arith, ap length items, length-map b inv) in
    c.loop-i.invariant ∙ ap (λ k. tabulate k (λ i. r.mul (get_or a (i % length a) r.zero) (inv (get_or b i r.zero)))) n
