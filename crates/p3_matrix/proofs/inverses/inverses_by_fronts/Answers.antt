use Rattle.std.proofs.Common.{◌≡◌, ◌+◌, ◌-◌, ◌<◌, ◌∙◌, inl, inr, refl, sym, ap, arith, length, get_or, set, map, length-set, get_or-set_same, get_or-set_other}
use Rattle.std.proofs.lemmas.Bool.{cases_eq}
use Rattle.std.proofs.lemmas.List.{get_or_read, ext_get_or, get_or-map, length-map}
use Rattle.p3_field.specs.Laws.Tabulate.{length-tabulate, get_or-tabulate}
use Rattle.p3_matrix.specs.Products.{product_below}
use Rattle.p3_matrix.proofs.ProductLaws.{next_product, quotient_of_last, quotient_of_front}
use Rattle.p3_matrix.proofs.inverses.inverses_by_fronts.Goals as goal

pub loop-i-init : goal.loop-i-init
loop-i-init g c =
    let r = g.F.RingCore.ring in
    let v = c.args.values.now in
    let n = length v in
    record {
      count = ap length c.requires.fronts ∙ length-tabulate n (product_below r v);
      quotient_is = refl;
      before = λ k b. ap (λ l. get_or l k r.zero) c.requires.fronts ∙ get_or-tabulate n (product_below r v) k r.zero b;
      done = λ k a b. absurd (omega arith);
    }

pub loop-i-preserved : goal.loop-i-preserved
loop-i-preserved g c =
    let r = g.F.RingCore.ring in
    let L = g.met.F.RingCore.ring_laws in
    let M = g.met.F.PrimeCharacteristicRing.muls in
    let v = c.args.values.now in
    let xs = c.loop-i.inverses.items in
    let i = c.loop-i.i - 1 in
    let y = c.mul.result in
    let x = get_or v i r.zero in
    let P = product_below r v i in
    let all = r.mul c.args.quotient_of_all (product_below r v (length v)) in
    let next : c.loop-i.i ≡ i + 1 = omega arith in
    let long : i < length v = omega arith in
    let inside : i < length xs = omega (arith, c.loop-i.invariant.count) in
    let value = get_or_read v i c.index-values-i.result long c.index-values-i.is r.zero in
    let front = get_or_read xs i c.index.result.now inside c.index.ensures r.zero in
    let whole : r.mul c.loop-i.quotient (r.mul P x) ≡ all = ap (r.mul c.loop-i.quotient) (sym (ap (product_below r v) next ∙ next_product r v i)) ∙ c.loop-i.invariant.quotient_is in
    let product : y ≡ r.mul c.loop-i.quotient P = M _ _ _ c.mul.ensures ∙ ap (r.mul c.loop-i.quotient) (front ∙ c.loop-i.invariant.before i (omega arith)) in
    let last : y ≡ r.mul all (g.F.FieldCore.inv x) = product ∙ quotient_of_last r L g.F.FieldCore.inv g.met.F.FieldCore.field_laws c.loop-i.quotient P x all whole (c.requires.nonzero i long) in
    record {
      count = length-set xs i y ∙ c.loop-i.invariant.count;
      quotient_is = ap (λ z. r.mul z P) (M _ _ _ c.mul-quotient.ensures ∙ ap (r.mul c.loop-i.quotient) value) ∙ quotient_of_front r L c.loop-i.quotient P x all whole;
      before = λ k b. get_or-set_other xs i k y r.zero (omega arith) ∙ c.loop-i.invariant.before k (omega arith);
      done = λ k a b. elim (cases_eq k i) [
        | inl e ↦ ap (λ j. get_or (set xs i y) j r.zero) e ∙ (get_or-set_same xs i y r.zero inside ∙ (last ∙ ap (λ j. r.mul all (g.F.FieldCore.inv (get_or v j r.zero))) (sym e)))
        | inr d ↦ get_or-set_other xs i k y r.zero d ∙ c.loop-i.invariant.done k (omega arith) b
      ];
    }

pub returns : goal.returns
returns g c =
    let r = g.F.RingCore.ring in
    let v = c.args.values.now in
    let xs = c.loop-i.inverses.items in
    let f = λ (x : g.row.F.Denot). r.mul (r.mul c.args.quotient_of_all (product_below r v (length v))) (g.F.FieldCore.inv x) in
    ext_get_or r.zero xs (map f v) (c.loop-i.invariant.count ∙ sym (length-map v f))
    (λ k b. let below : k < length v = omega (arith, c.loop-i.invariant.count) in
    c.loop-i.invariant.done k (omega arith) below ∙ sym (get_or-map f v k r.zero r.zero below))
