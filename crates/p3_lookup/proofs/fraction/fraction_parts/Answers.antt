use Rattle.std.proofs.Common.{◌≡◌, ◌-◌, ◌<◌, ◌≤◌, suc, List, [], ◌∷◌, length, map, drop, get_or, sym, ◌∙◌, ap, subst, arith}
use Rattle.std.specs.Prelude.{All}
use Rattle.std.proofs.lemmas.List.{drop_all, length-map}
use Rattle.air_core.specs.declared.node.Node.{Node}
use Rattle.air_core.specs.Tree.{Tree, constant}
use Rattle.air_core.specs.Shape.{Shape, ReadsSendable}
use Rattle.air_core.specs.Symbolic.{tree_of}
use Rattle.p3_lookup.specs.Lookup.{Sent, pair_up}
use Rattle.p3_lookup.specs.Written.{tree_count}
use Rattle.p3_lookup.specs.Emission.{ArePartsOf}
use Rattle.p3_lookup.proofs.Turns.{at_item, mapped_item, dropped, dropped_twice, pairs_turn}
use Rattle.p3_lookup.proofs.fraction.fraction_parts.Goals as goal

pub returns-in_err-numerator-clause-appends : goal.returns-in_err-numerator-clause-appends
returns-in_err-numerator-clause-appends g c = g.met.AB.AirBuilder.appends_along _ _ _ [] [] [] [] c.constant_ext.ensures.appends c.constant_ext-2.ensures.appends

pub loop-i-init : goal.loop-i-init
loop-i-init g c =
    let B = g.met.AB.AirBuilder in
    let r = g.AB.F.RingCore.ring in
    let T = map (map tree_of) (map (λ v. v.items) c.args.elements.now) in
    let C = map tree_count c.args.multiplicities.now in
    let n = length c.args.elements.now in
    let long : length T ≤ n = omega (arith, length-map (map (λ v. v.items) c.args.elements.now) (map tree_of), length-map c.args.elements.now (λ v. v.items)) in
    let none : drop n T ≡ [] = drop_all n T long in
    record {
      keeps_shape = c.constant_ext-2.ensures.keeps_shape ∙ c.constant_ext.ensures.keeps_shape;
      appends = B.appends_along _ _ _ [] [] [] [] c.constant_ext.ensures.appends c.constant_ext-2.ensures.appends;
      so_far = λ a b ha hb.
          let X = g.AB.ExtensionBuilder in
          let is-one : c.ONE.result ≡ r.one = c.ONE.ensures ∙ g.met.AB.F.RingCore.one_is in
          let is-zero : c.ZERO.result ≡ r.zero = c.ZERO.ensures ∙ g.met.AB.F.RingCore.zero_is in
          let one = subst (λ (x : g.row.AB-F.Denot). X.represents_ext c.constant_ext-2.new.builder c.in_ok-common.common (constant x)) is-one
          (g.met.AB.ExtensionBuilder.persists_ext _ _ (B.appends_later _ _ _ _ c.constant_ext-2.ensures.appends) _ _ c.in_ok-common.ensures.represents) in
          let none-yet = subst (λ (x : g.row.AB-F.Denot). X.represents_ext c.constant_ext-2.new.builder c.in_ok-numerator.numerator (constant x)) is-zero c.in_ok-numerator.ensures.represents in
          let P : List (List (Tree g.row.AB-F.Denot)) → Type 0 =
          λ l. ArePartsOf (g.AB.ExtensionBuilder.represents_ext c.constant_ext-2.new.builder) r a b (c.in_ok-common.common, c.in_ok-numerator.numerator) (pair_up l (drop n C)) in
          subst P (sym none) (one, none-yet);
    }

pub with_tuple-requires-clause-tuple : goal.with_tuple-requires-clause-tuple
with_tuple-requires-clause-tuple g c =
    let j = c.loop-i.i - 1 in
    let xs = c.args.elements.now in
    let x = c.index-elements-i.result in
    let within : j < length xs = omega arith in
    let within-2 : j < length (map (λ v. v.items) xs) = omega (arith, length-map xs (λ v. v.items)) in
    let s = g.AB.AirBuilder.shape c.args.builder.now in
    let here = at_item (All (ReadsSendable s)) (map tree_of) (map (λ v. v.items) xs) j x.items within-2 (sym (mapped_item (λ v. v.items) xs j x x.items within c.index-elements-i.is)) c.requires.tuples in
    let P : Shape → Type 0 = λ q. All (ReadsSendable q) (map tree_of x.items) in
    let there = subst P (sym c.loop-i.invariant.keeps_shape) here in
    let Q : List (List (Node g.row.AB-F.Denot)) → Type 0 = λ l. All (ReadsSendable (g.AB.AirBuilder.shape c.loop-i.builder)) (map tree_of l) in
    subst Q (sym c.deref.ensures.value) there

pub with_tuple-requires-clause-count : goal.with_tuple-requires-clause-count
with_tuple-requires-clause-count g c =
    let j = c.loop-i.i - 1 in
    let xs = c.args.multiplicities.now in
    let x = get_or xs j c.index-multiplicities-i.result in
    let within : j < length xs = omega (arith, c.requires.counted) in
    let s = g.AB.AirBuilder.shape c.args.builder.now in
    let here = at_item (λ k. ReadsSendable s k.value) tree_count xs j x within (ap (λ d. get_or xs j d) c.index-multiplicities-i.is) c.requires.counts in
    let P : Shape → Type 0 = λ q. ReadsSendable q (tree_of x.value) in
    subst P (sym c.loop-i.invariant.keeps_shape) here

pub returns-in_err-next-clause-appends : goal.returns-in_err-next-clause-appends
returns-in_err-next-clause-appends g c = g.met.AB.AirBuilder.appends_along _ _ _ [] [] [] [] c.loop-i.invariant.appends c.with_tuple.ensures.appends

pub loop-i-preserved : goal.loop-i-preserved
loop-i-preserved g c =
    let B = g.met.AB.AirBuilder in
    let past = g.met.AB.ExtensionBuilder.persists_ext _ _ (B.appends_later _ _ _ _ c.loop-i.invariant.appends) in
    let r = g.AB.F.RingCore.ring in
    let T = map (map tree_of) (map (λ v. v.items) c.args.elements.now) in
    let C = map tree_count c.args.multiplicities.now in
    let i = c.loop-i.i in
    let j = c.loop-i.i - 1 in
    let ms = c.args.multiplicities.now in
    let x = c.index-elements-i.result in
    let m = get_or ms j c.index-multiplicities-i.result in
    let t = map tree_of c.deref.result.now in
    let k = tree_count m in
    let next : suc j ≡ i = omega arith in
    let within : j < length c.args.elements.now = omega arith in
    let within-2 : j < length ms = omega (arith, c.requires.counted) in
    let same : map tree_of x.items ≡ t = ap (map tree_of) (sym c.deref.ensures.value) in
    let tuple : drop j T ≡ t ∷ drop i T =
    dropped_twice (map tree_of) (λ v. v.items) c.args.elements.now i j x next within c.index-elements-i.is ∙ ap (λ l. l ∷ drop i T) same in
    let count : drop j C ≡ k ∷ drop i C = dropped tree_count ms i j m next within-2 (ap (λ d. get_or ms j d) c.index-multiplicities-i.is) in
    record {
      keeps_shape = c.with_tuple.ensures.keeps_shape ∙ c.loop-i.invariant.keeps_shape;
      appends = B.appends_along _ _ _ [] [] [] [] c.loop-i.invariant.appends c.with_tuple.ensures.appends;
      so_far = λ a b ha hb.
          let before = c.loop-i.invariant.so_far a b ha hb in
          let now = c.in_ok-next.ensures.represents a b _ _ (past _ _ ha) (past _ _ hb) before.0 before.1 in
          subst (λ (ss : List (Sent (Tree g.row.AB-F.Denot))). ArePartsOf (g.AB.ExtensionBuilder.represents_ext c.with_tuple.new.builder) r a b c.in_ok-next.next ss)
          (pairs_turn T C i j t k tuple count) now;
    }
