use Rattle.std.proofs.Common.{◌∙◌, sym, arith}
use Rattle.std.proofs.lemmas.List.{get_or_read}
use Rattle.p3_field.specs.Laws.Tabulate.{tabulate_push}
use Rattle.p3_matrix.specs.Products.{product_below}
use Rattle.p3_matrix.proofs.ProductLaws.{no_product, next_product}
use Rattle.p3_matrix.proofs.inverses.products_of_fronts.Goals as goal

pub loop-value-init : goal.loop-value-init
loop-value-init g c = record {
  fronts_so_far = c.in_ok-fronts.ensures.items;
  product_is = c.ONE-product.ensures ∙ (g.met.F.RingCore.one_is ∙ sym (no_product g.F.RingCore.ring c.args.values.now));
}

pub loop-value-preserved : goal.loop-value-preserved
loop-value-preserved g c =
    let r = g.F.RingCore.ring in
    let v = c.args.values.now in
    let i = c.loop-value.value-index in
    let item = get_or_read v i c.value-item.result (omega arith) c.value-item.is r.zero in
    record {
      fronts_so_far = c.in_ok-push.ensures.items ∙ tabulate_push i (product_below r v) _ _ c.loop-value.invariant.fronts_so_far c.loop-value.invariant.product_is;
      product_is = cc (g.met.F.PrimeCharacteristicRing.muls _ _ _ c.mul-product.ensures, c.loop-value.invariant.product_is, item, next_product r v i);
    }
