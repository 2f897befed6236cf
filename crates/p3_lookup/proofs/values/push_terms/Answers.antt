use Rattle.std.proofs.Common.{◌≡◌, ◌<◌, ◌≤◌, true, false, refl, List, length, map, get_or, sym, ◌∙◌, ap, subst, arith}
use Rattle.std.specs.Prelude.{All}
use Rattle.std.proofs.lemmas.List.{length-map}
use Rattle.air_core.specs.declared.node.Node.{Node}
use Rattle.air_core.specs.Shape.{ReadsSendable}
use Rattle.air_core.specs.Symbolic.{tree_of}
use Rattle.air_core.specs.RowCheck.{row_shape}
use Rattle.p3_lookup.specs.Lookup.{map_sent, pair_up}
use Rattle.p3_lookup.specs.Term.{term, Term}
use Rattle.p3_lookup.specs.Written.{tree_count}
use Rattle.p3_lookup.specs.Generated.{embedded_at}
use Rattle.p3_lookup.proofs.Turns.{at_item, mapped_item}
use Rattle.p3_lookup.specs.Honest.{terms_of}
use Rattle.p3_lookup.proofs.Pairs.{pair_length, term_item}
use Rattle.p3_lookup.proofs.Added.{terms_more, terms_zero, terms_end}
use Rattle.p3_lookup.proofs.values.push_terms.Goals as goal

pub term_value-term-requires-clause-tuple : goal.term_value-term-requires-clause-tuple
term_value-term-requires-clause-tuple g c =
    let i = c.loop-i.i in
    let xs = c.args.elements.now in
    let x = c.index-elements-i.result in
    let within : i < length xs = omega arith in
    let within-2 : i < length (map (λ v. v.items) xs) = omega (arith, length-map xs (λ v. v.items)) in
    let s = row_shape c.args.row.now in
    let here = at_item (All (ReadsSendable s)) (map tree_of) (map (λ v. v.items) xs) i x.items within-2 (sym (mapped_item (λ v. v.items) xs i x x.items within c.index-elements-i.is)) c.requires.tuples in
    let Q : List (List (Node g.row.F.Denot)) → Type 0 = λ l. All (ReadsSendable s) (map tree_of l) in
    subst Q (sym c.deref.ensures.value) here

pub term_value-term-requires-clause-count : goal.term_value-term-requires-clause-count
term_value-term-requires-clause-count g c =
    let i = c.loop-i.i in
    let ms = c.args.multiplicities.now in
    let m = get_or ms i c.index-multiplicities-i.result in
    let within : i < length ms = omega (arith, c.requires.counted) in
    at_item (λ k. ReadsSendable (row_shape c.args.row.now) k.value) tree_count ms i m within (ap (λ d. get_or ms i d) c.index-multiplicities-i.is) c.requires.counts

pub returns-then-is_zero : goal.returns-then-is_zero
returns-then-is_zero g c =
    let xs = c.args.elements.now in
    let ms = c.args.multiplicities.now in
    let T = map (map tree_of) (map (λ v. v.items) xs) in
    let C = map tree_count ms in
    let i = c.loop-i.i in
    let x = c.index-elements-i.result in
    let m = get_or ms i c.index-multiplicities-i.result in
    let t = map tree_of c.deref.result.now in
    let k = tree_count m in
    let within : i < length xs = omega arith in
    let within-2 : i < length (map (λ v. v.items) xs) = omega (arith, within, length-map xs (λ v. v.items)) in
    let within-3 : i < length ms = omega (arith, within, c.requires.counted) in
    let within-4 : i < length T = omega (arith, within-2, length-map (map (λ v. v.items) xs) (map tree_of)) in
    let long : length C ≡ length T = omega (arith, c.requires.counted, length-map ms tree_count, length-map xs (λ v. v.items), length-map (map (λ v. v.items) xs) (map tree_of)) in
    let p : get_or T i t ≡ t =
    mapped_item (map tree_of) (map (λ v. v.items) xs) i x.items t within-2 (sym (mapped_item (λ v. v.items) xs i x x.items within c.index-elements-i.is))
    ∙ ap (map tree_of) (sym c.deref.ensures.value) in
    let q : get_or C i k ≡ k = mapped_item tree_count ms i m k within-3 (ap (λ d. get_or ms i d) c.index-multiplicities-i.is) in
    let r = g.EF.RingCore.ring in
    let v = embedded_at g.F.RingCore.ring g.EF.ExtensionField.embed c.args.row.now in
    let ts = terms_of r c.args.challenges.0 c.args.challenges.1 v (pair_up T C) in
    let inside : i < length ts = omega (arith, within-4, pair_length T C long, length-map (pair_up T C) (λ u. term r c.args.challenges.0 c.args.challenges.1 (map_sent v u))) in
    let at = λ (d : Term g.row.EF.Denot). term_item r c.args.challenges.0 c.args.challenges.1 v T C i t k d long within-4 p q ∙ sym c.term_value-term.ensures in
    terms_zero r ts c.args.terms.now.items i c.term_value-term.result inside at c.loop-i.terms.items c.loop-i.invariant c.args.place.0 c.args.place.1 (sym (ap (λ (u : Term g.row.EF.Denot). u.denominator) c.term.view_is) ∙ c.if-is_zero.ensures.0 refl)

pub loop-i-preserved : goal.loop-i-preserved
loop-i-preserved g c =
    let xs = c.args.elements.now in
    let ms = c.args.multiplicities.now in
    let T = map (map tree_of) (map (λ v. v.items) xs) in
    let C = map tree_count ms in
    let i = c.loop-i.i in
    let x = c.index-elements-i.result in
    let m = get_or ms i c.index-multiplicities-i.result in
    let t = map tree_of c.deref.result.now in
    let k = tree_count m in
    let within : i < length xs = omega arith in
    let within-2 : i < length (map (λ v. v.items) xs) = omega (arith, within, length-map xs (λ v. v.items)) in
    let within-3 : i < length ms = omega (arith, within, c.requires.counted) in
    let within-4 : i < length T = omega (arith, within-2, length-map (map (λ v. v.items) xs) (map tree_of)) in
    let long : length C ≡ length T = omega (arith, c.requires.counted, length-map ms tree_count, length-map xs (λ v. v.items), length-map (map (λ v. v.items) xs) (map tree_of)) in
    let p : get_or T i t ≡ t =
    mapped_item (map tree_of) (map (λ v. v.items) xs) i x.items t within-2 (sym (mapped_item (λ v. v.items) xs i x x.items within c.index-elements-i.is))
    ∙ ap (map tree_of) (sym c.deref.ensures.value) in
    let q : get_or C i k ≡ k = mapped_item tree_count ms i m k within-3 (ap (λ d. get_or ms i d) c.index-multiplicities-i.is) in
    let r = g.EF.RingCore.ring in
    let v = embedded_at g.F.RingCore.ring g.EF.ExtensionField.embed c.args.row.now in
    let ts = terms_of r c.args.challenges.0 c.args.challenges.1 v (pair_up T C) in
    let inside : i < length ts = omega (arith, within-4, pair_length T C long, length-map (pair_up T C) (λ u. term r c.args.challenges.0 c.args.challenges.1 (map_sent v u))) in
    let at = λ (d : Term g.row.EF.Denot). term_item r c.args.challenges.0 c.args.challenges.1 v T C i t k d long within-4 p q ∙ sym c.term_value-term.ensures in
    terms_more r ts c.args.terms.now.items i c.term_value-term.result inside at c.loop-i.terms.items c.loop-i.invariant c.push.new.self.items (cc (c.in_ok-push.ensures.items, c.term.view_is))
    (λ z. let e : false ≡ true = c.if-is_zero.ensures.1 (ap (λ (u : Term g.row.EF.Denot). u.denominator) c.term.view_is ∙ z) in absurd (cc e))

pub returns : goal.returns
returns g c =
    let xs = c.args.elements.now in
    let ms = c.args.multiplicities.now in
    let T = map (map tree_of) (map (λ v. v.items) xs) in
    let C = map tree_count ms in
    let i = c.loop-i.i in
    let long : length C ≡ length T = omega (arith, c.requires.counted, length-map ms tree_count, length-map xs (λ v. v.items), length-map (map (λ v. v.items) xs) (map tree_of)) in
    let r = g.EF.RingCore.ring in
    let v = embedded_at g.F.RingCore.ring g.EF.ExtensionField.embed c.args.row.now in
    let ts = terms_of r c.args.challenges.0 c.args.challenges.1 v (pair_up T C) in
    let over : length ts ≤ i = omega (
      arith,
      length-map xs (λ v. v.items),
      length-map (map (λ v. v.items) xs) (map tree_of),
      pair_length T C long,
      length-map (pair_up T C) (λ u. term r c.args.challenges.0 c.args.challenges.1 (map_sent v u)),
    ) in
    terms_end r ts c.args.terms.now.items i c.loop-i.terms.items over c.loop-i.invariant
