use Rattle.std.proofs.Common.{List, [], ◌∷◌, length, map, Vec, Global, sym, ◌∙◌, ap, subst, arith, length-append}
use Rattle.std.specs.Prelude.{All}
use Rattle.std.proofs.lemmas.List.{length-map}
use Rattle.std.proofs.lemmas.List.Elements.{All-append, All-map}
use Rattle.p3_field.specs.declared.baby_bear.BabyBear.{BabyBear}
use Rattle.air_core.specs.declared.cells.Count.{Count}
use Rattle.air_core.specs.declared.node.Node.{Node}
use Rattle.air_core.specs.declared.symbolic.SymbolicExpression.{SymbolicExpression}
use Rattle.p3_lookup.specs.Written.{Written}
use Rattle.cases_air.specs.Taken.{IsSendableByColumn, IsTakenLookup}
use Rattle.cases_air.proofs.Taken.{none_of, one_of, taken_of}
use Rattle.cases_air.proofs.lookups.lookup_of.Goals as goal

IsTupleSendable : Vec (SymbolicExpression BabyBear) Global → Type 0
IsTupleSendable v = All IsSendableByColumn v.items

IsCountSendable : Count (SymbolicExpression BabyBear) → Type 0
IsCountSendable k = IsSendableByColumn k.value

pub loop-i-init : goal.loop-i-init
unfolding IsTupleSendable IsCountSendable
loop-i-init c = record {
  counted = ap length c.new-multiplicities.ensures.items ∙ sym (ap length c.new-elements.ensures.items);
  tuples = subst (λ (vs : List (Vec (SymbolicExpression BabyBear) Global)). All IsTupleSendable vs) (sym c.new-elements.ensures.items) (none_of IsTupleSendable);
  counts = subst (λ (ks : List (Count (SymbolicExpression BabyBear))). All IsCountSendable ks) (sym c.new-multiplicities.ensures.items) (none_of IsCountSendable);
}

pub loop-i-preserved : goal.loop-i-preserved
unfolding IsTupleSendable IsCountSendable
loop-i-preserved c =
    let e = c.in_ok-push.ensures.items in
    let m = c.in_ok-push-2.ensures.items in record {
      counted = omega (
        arith,
        ap length e,
        ap length m,
        c.loop-i.invariant.counted,
        length-append c.loop-i.elements.items (c.in_ok-tuple_of.field-0 ∷ []),
        length-append c.loop-i.multiplicities.items (c.in_ok-count_of.field-0 ∷ []),
      );
      tuples = subst (λ (vs : List (Vec (SymbolicExpression BabyBear) Global)). All IsTupleSendable vs) (sym e)
          (All-append IsTupleSendable _ _ c.loop-i.invariant.tuples (one_of IsTupleSendable _ c.in_ok-tuple_of.ensures));
      counts = subst (λ (ks : List (Count (SymbolicExpression BabyBear))). All IsCountSendable ks) (sym m)
          (All-append IsCountSendable _ _ c.loop-i.invariant.counts (one_of IsCountSendable _ c.in_ok-count_of.ensures));
    }

pub returns : goal.returns
returns c =
    let P : Written BabyBear → Type 0 = λ l. IsTakenLookup l in
    let items : Vec (SymbolicExpression BabyBear) Global → List (List (Node BabyBear)) = λ v. v.items in
    subst P (sym c.new.ensures)
    (taken_of _ (map items c.loop-i.elements.items) c.loop-i.multiplicities.items
    (omega (arith, length-map c.loop-i.elements.items items, c.loop-i.invariant.counted))
    (All-map (All IsSendableByColumn) items c.loop-i.elements.items c.loop-i.invariant.tuples) c.loop-i.invariant.counts)
