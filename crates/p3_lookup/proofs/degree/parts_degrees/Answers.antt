use Rattle.std.proofs.Common.{◌≡◌, ℕ, ◌-◌, ◌<◌, suc, max, List, ◌∷◌, length, map, drop, get_or, sym, ◌∙◌, ap, subst, arith}
use Rattle.air_core.specs.Degree.{capped_sum}
use Rattle.air_core.specs.Tree.{Tree}
use Rattle.air_core.specs.Symbolic.{tree_of}
use Rattle.p3_lookup.specs.Lookup.{Sent, pair_up}
use Rattle.p3_lookup.specs.Written.{tree_count}
use Rattle.p3_lookup.specs.Emission.{AreDegreesOf}
use Rattle.p3_lookup.proofs.Turns.{dropped, dropped_twice, pairs_turn}
use Rattle.p3_lookup.proofs.Degrees.{term_degrees}
use Rattle.p3_lookup.proofs.degree.parts_degrees.Goals as goal

pub loop-i-preserved : goal.loop-i-preserved
loop-i-preserved g c a b ha hb =
    let f = g.F.RingCore.ring in
    let xs = c.args.elements.now in
    let ms = c.args.multiplicities.now in
    let T = map (map tree_of) (map (λ v. v.items) xs) in
    let C = map tree_count ms in
    let i = c.loop-i.i in
    let j = c.loop-i.i - 1 in
    let x = c.index-elements-i.result in
    let m = get_or ms j c.index-multiplicities-i.result in
    let t = map tree_of c.deref.result.now in
    let k = tree_count m in
    let next : suc j ≡ i = omega arith in
    let within : j < length xs = omega arith in
    let within-2 : j < length ms = omega (arith, c.requires.counted) in
    let same : map tree_of x.items ≡ t = ap (map tree_of) (sym c.deref.ensures.value) in
    let tuple : drop j T ≡ t ∷ drop i T = dropped_twice (map tree_of) (λ v. v.items) xs i j x next within c.index-elements-i.is ∙ ap (λ l. l ∷ drop i T) same in
    let count : drop j C ≡ k ∷ drop i C = dropped tree_count ms i j m next within-2 (ap (λ d. get_or ms j d) c.index-multiplicities-i.is) in
    let s : Sent (Tree g.row.F.Denot) = record { tuple = t; count = k.value } in
    let d = c.tuple_degree-denominator.result in
    let n = c.degree_multiple_with_transition-count.result in
    let told = term_degrees f c.args.t a b s (pair_up (drop i T) (drop i C)) n d c.loop-i.common c.loop-i.numerator ha
    c.degree_multiple_with_transition-count.ensures (c.tuple_degree-denominator.ensures b hb) (c.loop-i.invariant a b ha hb) in
    let common : c.saturating_add-common.result ≡ capped_sum d c.loop-i.common = c.saturating_add-common.ensures in
    let numerator : c.max-numerator.result ≡ max (capped_sum n c.loop-i.common) (capped_sum d c.loop-i.numerator) = cc (c.max-numerator.ensures, c.saturating_add-own.ensures, c.saturating_add.ensures) in
    subst (λ (ss : List (Sent (Tree g.row.F.Denot))). AreDegreesOf f c.args.t a b (c.saturating_add-common.result, c.max-numerator.result) ss)
    (pairs_turn T C i j t k tuple count) (common ∙ told.0, numerator ∙ told.1)

pub returns : goal.returns
returns g c a b ha hb =
    let T = map (map tree_of) (map (λ v. v.items) c.args.elements.now) in
    let C = map tree_count c.args.multiplicities.now in
    let e : c.loop-i.i ≡ 0 = omega arith in
    subst (λ (k : ℕ). AreDegreesOf g.F.RingCore.ring c.args.t a b (c.loop-i.common, c.loop-i.numerator) (pair_up (drop k T) (drop k C))) e (c.loop-i.invariant a b ha hb)
