use Rattle.std.proofs.Common.{◌≡◌, ℕ, ◌+◌, ◌*◌, ◌/◌, ◌<◌, ◌∙◌, refl, sym, ap, subst, arith, length}
use Rattle.std.proofs.lemmas.List.{get_or_read}
use Rattle.p3_field.specs.Laws.Tabulate.{first_coset_point, next_coset_point}
use Rattle.p3_matrix.specs.Matrix.{Rows, height}
use Rattle.p3_dft.proofs.Combined.{place_below, row_of_place}
use Rattle.p3_dft.proofs.Weighed.{IsWeighed, none_weighed, one_more_weighed, same_weighed, weighed_column}
use Rattle.p3_dft.proofs.rows.weighed_rows.Goals as goal

pub loop-row-init : goal.loop-row-init
loop-row-init g c =
    let r = g.F.RingCore.ring in
    let w = c.width-width.result in
    let items : c.args.m.values ≡ c.m.inside.values.items = ap (λ (v : Rows g.row.F.Denot). v.values) (sym c.m.view_is) in
    record {
      weighed = same_weighed r w w c.args.weight c.args.step c.args.m.values c.args.m.values c.m.inside.values.items (0 * w) (0 * w) refl items refl
          (none_weighed r w c.args.weight c.args.step c.args.m.values (0 * w) (omega arith));
      factor_is = sym (first_coset_point r g.met.F.RingCore.ring_laws c.args.weight c.args.step);
    }

pub loop-at-preserved : goal.loop-at-preserved
loop-at-preserved g c =
    let r = g.F.RingCore.ring in
    let P = g.met.F.PrimeCharacteristicRing in
    let n = c.loop-at.at in
    let i = c.loop-row.row in
    let w = c.width-width.result in
    let old = c.args.m.values in
    let fills : length old / w * w ≡ length old = ap (λ v. length old / v * v) c.width-width.ensures ∙ c.height-rows.ensures.fills in
    let rows : c.height-rows.result ≡ length old / w = c.height-rows.ensures.result ∙ ap (λ v. length old / v) (sym c.width-width.ensures) in
    let below : n < length old = place_below (length old) w i n fills (omega arith) (omega arith) (omega arith) in
    let inside : n < length c.loop-at.values.items = omega (arith, c.loop-at.invariant.count) in
    let item = get_or_read c.loop-at.values.items n c.index.result.now inside c.index.ensures r.zero in
    one_more_weighed r w c.args.weight c.args.step old c.loop-at.values.items n i c.loop-row.factor c.mul.result c.loop-at.invariant below
    (row_of_place w i n (omega arith) (omega arith)) c.loop-row.invariant.factor_is (P.muls _ _ _ c.mul.ensures ∙ ap (λ z. r.mul z c.loop-row.factor) item)

pub loop-row-preserved : goal.loop-row-preserved
loop-row-preserved g c =
    let r = g.F.RingCore.ring in
    let end : c.loop-at.at ≡ (c.loop-row.row + 1) * c.width-width.result = omega arith in
    record {
      weighed = subst (λ (n : ℕ). IsWeighed r c.width-width.result c.args.weight c.args.step c.args.m.values c.loop-at.values.items n) end c.loop-at.invariant;
      factor_is = cc (g.met.F.PrimeCharacteristicRing.muls _ _ _ c.mul-factor.ensures, c.loop-row.invariant.factor_is, next_coset_point r g.met.F.RingCore.ring_laws c.args.weight c.args.step c.loop-row.row);
    }

pub returns-clause-columns : goal.returns-clause-columns
returns-clause-columns g c = λ j b.
    let r = g.F.RingCore.ring in
    let m = c.args.m in
    let w = c.width-width.result in
    let W = c.loop-row.invariant.weighed in
    let rows : c.loop-row.row ≡ height m = omega (arith, c.height-rows.ensures.result) in
    let end : c.loop-row.row * w ≡ length m.values = ap (λ n. n * w) rows ∙ (ap (λ v. height m * v) c.width-width.ensures ∙ c.height-rows.ensures.fills) in
    let values : c.new.result.values ≡ c.loop-row.values.items = ap (λ (v : Rows g.row.F.Denot). v.values) c.new.ensures in
    let wide : c.new.result.width ≡ m.width = ap (λ (v : Rows g.row.F.Denot). v.width) c.new.ensures ∙ c.width-width.ensures in
    let tall : height c.new.result ≡ height m = ap (λ n. length c.new.result.values / n) wide ∙ ap (λ n. n / m.width) (ap length values ∙ W.count) in
    weighed_column r c.args.weight c.args.step m c.new.result j c.height-rows.ensures.fills wide tall
    (same_weighed r w m.width c.args.weight c.args.step m.values c.loop-row.values.items c.new.result.values (c.loop-row.row * w) (length m.values) c.width-width.ensures (sym values) end W) b
