use Rattle.std.proofs.Common.{◌≡◌, ◌<◌, length, map, ◌∙◌, ap, arith}
use Rattle.p3_lookup.specs.Term.{Term, term_value}
use Rattle.p3_lookup.proofs.Groups.{scaled_start, scaled_read, scaled_more, scaled_end, ready}
use Rattle.p3_lookup.proofs.generate.quotients_of.Goals as goal

pub batch_multiplicative_inverse-requires : goal.batch_multiplicative_inverse-requires
batch_multiplicative_inverse-requires g c =
    ready g.EF.RingCore.ring g.EF.FieldCore.inv c.args.terms.now c.deref.result.now (c.deref.ensures.value ∙ c.in_ok-denominators.ensures) c.requires

pub loop-i-init : goal.loop-i-init
loop-i-init g c =
    scaled_start g.EF.RingCore.ring g.EF.FieldCore.inv c.args.terms.now c.in_ok-quotients.quotients.items
    (c.in_ok-quotients.ensures ∙ ap (map g.EF.FieldCore.inv) (c.deref.ensures.value ∙ c.in_ok-denominators.ensures))

pub loop-i-preserved : goal.loop-i-preserved
loop-i-preserved g c =
    let r = g.EF.RingCore.ring in
    let inv = g.EF.FieldCore.inv in
    let ts = c.args.terms.now in
    let i = c.loop-i.i in
    let t = c.index-terms-i.result in
    let xs = c.loop-i.quotients.items in
    let within : i < length ts = omega arith in
    let count : c.term.inside.count ≡ t.count = ap (λ (u : Term g.row.EF.Denot). u.count) c.term.view_is in
    let read : c.index.result.now ≡ inv t.denominator = c.index.ensures ∙ scaled_read r inv ts i t within c.index-terms-i.is xs c.index.result.now c.loop-i.invariant in
    let value : c.mul.result ≡ term_value r inv t = cc (g.met.EF.PrimeCharacteristicRing.muls _ _ _ c.mul.ensures, count, read) in
    scaled_more r inv ts i t within c.index-terms-i.is xs c.mul.result value c.loop-i.invariant

pub returns : goal.returns
returns g c = scaled_end g.EF.RingCore.ring g.EF.FieldCore.inv c.args.terms.now c.loop-i.quotients.items c.loop-i.i (omega arith) c.loop-i.invariant
