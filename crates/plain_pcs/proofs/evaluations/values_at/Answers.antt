use Rattle.std.proofs.Common.{◌≡◌, ◌∙◌, ◌^◌, [], length, sym, ap, arith}
use Rattle.std.proofs.lemmas.List.{length-map}
use Rattle.plain_pcs.proofs.Places.{read_list}
use Rattle.plain_pcs.proofs.evaluations.values_at.Goals as goal

pub value_at-requires : goal.value_at-requires
value_at-requires g c =
    let points = c.args.points.now in
    let i = c.loop-point.point-index in
    let read = read_list points i c.point-item.result [] c.loop-point-test.true c.point-item.is in
    let n : length c.deref.result.now ≡ c.requires.0 =
    ap length (c.deref.ensures.value ∙ sym read) ∙ c.requires.1.1 i [] (omega (arith, c.loop-point-test.true, length-map points (λ v. v.items))) in
    c.requires.1.0 ∙ ap (λ k. 2 ^ k) (sym n)
