use Rattle.std.proofs.Common.{◌≡◌, ℕ, ◌+◌, ◌*◌, ◌<◌, ◌∙◌, sym, ap, subst, arith, length, rules}
use Rattle.std.proofs.lemmas.List.{get_or_read}
use Rattle.p3_field.specs.Ring.{sub}
use Rattle.p3_field.specs.Laws.Tabulate.{first_coset_point, next_coset_point}
use Rattle.p3_dft.proofs.Combined.{IsCombined, none_combined, one_more_combined, place_below, row_of_place}
use Rattle.p3_dft.proofs.radix2.combine_rows.Goals as goal

pub loop-row-init : goal.loop-row-init
loop-row-init g c = record {
  combined = none_combined g.F.RingCore.ring c.args.width c.args.shift c.args.generator c.args.first.now c.args.second.now (0 * c.args.width) (omega arith);
  point_is = sym (first_coset_point g.F.RingCore.ring g.met.F.RingCore.ring_laws c.args.shift c.args.generator);
}

pub offset_bounds-second-at : goal.offset_bounds-second-at
offset_bounds-second-at g c =
    let below : c.loop-at.at < length c.args.first.now = place_below (length c.args.first.now) c.args.width c.loop-row.row c.loop-at.at c.requires.filled (omega arith) (omega arith) (omega arith) in
    let inside : c.loop-at.at < length c.loop-at.second = omega (arith, c.requires.same) in
    search rules

pub loop-at-preserved : goal.loop-at-preserved
loop-at-preserved g c =
    let r = g.F.RingCore.ring in
    let P = g.met.F.PrimeCharacteristicRing in
    let n = c.loop-at.at in
    let i = c.loop-row.row in
    let w = c.args.width in
    let below : n < length c.args.first.now = place_below (length c.args.first.now) w i n c.requires.filled (omega arith) (omega arith) (omega arith) in
    let a : n < length c.loop-at.first = omega arith in
    let b : n < length c.loop-at.second = omega (arith, c.requires.same) in
    let even = get_or_read c.loop-at.first n c.index-first-at.result a c.index-first-at.is r.zero in
    let odd = get_or_read c.loop-at.second n c.index-second-at.result b c.index-second-at.is r.zero in
    one_more_combined r w c.args.shift c.args.generator c.args.first.now c.args.second.now c.loop-at.first c.loop-at.second n i c.loop-row.point c.mul-turned.result c.add.result c.sub.result c.loop-at.invariant a b
    (row_of_place w i n (omega arith) (omega arith)) c.loop-row.invariant.point_is
    (P.muls _ _ _ c.mul-turned.ensures ∙ ap (r.mul c.loop-row.point) odd)
    (P.adds _ _ _ c.add.ensures ∙ ap (λ z. r.add z c.mul-turned.result) even)
    (P.subs _ _ _ c.sub.ensures ∙ ap (λ z. sub r z c.mul-turned.result) even)

pub loop-row-preserved : goal.loop-row-preserved
loop-row-preserved g c =
    let r = g.F.RingCore.ring in
    let end : c.loop-at.at ≡ (c.loop-row.row + 1) * c.args.width = omega arith in
    record {
      combined = subst (λ (n : ℕ). IsCombined r c.args.width c.args.shift c.args.generator c.args.first.now c.args.second.now c.loop-at.first c.loop-at.second n) end c.loop-at.invariant;
      point_is = cc (g.met.F.PrimeCharacteristicRing.muls _ _ _ c.mul-point.ensures, c.loop-row.invariant.point_is, next_coset_point r g.met.F.RingCore.ring_laws c.args.shift c.args.generator c.loop-row.row);
    }
