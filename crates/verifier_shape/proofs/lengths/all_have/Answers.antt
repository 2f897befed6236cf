use Rattle.std.proofs.Common.{◌≡◌, ℕ, ◌+◌, ◌<◌, length, map, [], List, get_or, refl, sym, ◌∙◌, ap, subst, arith, All, IsTrue, false, true}
use borrow.Author.Count.{below_more}
use Rattle.std.proofs.lemmas.List.Elements.{All-from_get_or}
use Rattle.std.proofs.lemmas.List.{length-map}
use Rattle.verifier_shape.specs.Laws.Items.{item_of_map}
use Rattle.verifier_shape.proofs.Items.{not_all}
use Rattle.verifier_shape.proofs.lengths.all_have.Goals as goal

pub returns-then-len-values : goal.returns-then-len-values
returns-then-len-values g c =
    let v = c.list-item.result in
    let n : c.len.result ≡ length v.items = omega (arith, v.ok.0) in (
      λ t. cc,
      λ a. absurd (not_all (λ x. length x ≡ c.args.values) (map (λ w. w.items) c.args.lists.now) c.loop-list.list-index [] v.items
          (omega (arith, length-map c.args.lists.now (λ w. w.items)))
          (item_of_map (λ w. w.items) c.args.lists.now c.loop-list.list-index v [] (omega arith) c.list-item.is) (λ e. c.if-len-values.true (n ∙ e)) a),
    )

pub loop-list-preserved : goal.loop-list-preserved
loop-list-preserved g c =
    let v = c.list-item.result in
    let n : c.len.result ≡ length v.items = omega (arith, v.ok.0) in
    below_more (λ k. length (get_or (map (λ w. w.items) c.args.lists.now) k []) ≡ c.args.values) c.loop-list.list-index c.loop-list.invariant
    (ap length (item_of_map (λ w. w.items) c.args.lists.now c.loop-list.list-index v [] (omega arith) c.list-item.is) ∙ sym n ∙ c.if-len-values.false)

pub returns : goal.returns
returns g c = (
  λ t. All-from_get_or (λ x. length x ≡ c.args.values) (map (λ w. w.items) c.args.lists.now) []
      (λ k b. c.loop-list.invariant k (omega (arith, length-map c.args.lists.now (λ w. w.items)))),
  λ a. refl,
)
