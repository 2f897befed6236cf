use Rattle.std.proofs.Common.{◌≡◌, ℕ, ◌^◌, ◌<◌, ◌∙◌, List, Some, length, get_or, map, refl, subst, sym, ap, arith}
use Rattle.std.specs.Prelude.{slice_get}
use Rattle.std.specs.List.{All}
use Rattle.std.proofs.lemmas.List.{get_or-map, length-map}
use Rattle.std.proofs.lemmas.Option.{get_or_from_slice_get}
use Rattle.p3_field.specs.Domain.{point}
use Rattle.commit_core.specs.Space.{EachOf}
use Rattle.commit_core.specs.Periodic.{IsPeriod, IsPeriodicAt, EachFrom}
use Rattle.std.specs.Ordering.{nat_cmp}
use Rattle.std.specs.BTreeMap.{get}
use Rattle.commit_core.specs.Laws.Each.{none_yet, one_more}
use Rattle.commit_core.proofs.PeriodWeights.{none_known}
use Rattle.commit_core.proofs.periodic_values.periodic_values.Goals as goal

fits_here : {V X : Type 0} (f : V → List X) (height n : ℕ) (columns items : List V) (index : ℕ) (v : V) (xs : List X) → All (λ c. IsPeriod height (length (f c))) columns
    → items ≡ columns → height ≡ n → index < length items → v ≡ get_or items index v → xs ≡ f v → IsPeriod n (length xs)
fits_here f height n columns items index v xs all same rows within at e =
    let here : IsPeriod height (length (f (get_or columns index v))) = all index v (omega (arith, ap length same)) in
    let item : length (f (get_or columns index v)) ≡ length xs = ap length (ap f (ap (λ l. get_or l index v) (sym same) ∙ sym at) ∙ sym e) in
    subst (λ k. IsPeriod k (length xs)) rows (subst (IsPeriod height) item here)

column_here : {V X : Type 0} (f : V → List X) (items : List V) (index : ℕ) (v : V) (xs x : List X) → index < length items → v ≡ get_or items index v → xs ≡ f v → slice_get (map f items) index ≡ Some x → xs ≡ x
column_here f items index v xs x within at e q =
    e ∙ (ap f at ∙ (sym (get_or-map f items index v x within) ∙ get_or_from_slice_get (map f items) index x x q))

all_values : {V X Y : Type 0} (f : V → List X) (columns items : List V) (index : ℕ) (ys : List Y) (R : List X → Y → Type 0) → items ≡ columns → index ≡ length items
    → EachOf index ys (λ i y. (x : List X) → slice_get (map f items) i ≡ Some x → R x y) → EachFrom (map f columns) ys R
all_values f columns items index ys R same last E = record {
  count = E.count ∙ (last ∙ (ap length same ∙ sym (length-map columns f)));
  each = λ i y q x h. E.each i y q x (ap (λ l. slice_get (map f l) i) same ∙ h);
}

pub value_by_weights-requires-clause-period : goal.value_by_weights-requires-clause-period
value_by_weights-requires-clause-period g c =
    fits_here (λ v. v.items) c.args.columns.height (2 ^ c.args.domain.now.log_size) c.args.columns.columns.now c.as_slice-column-items.result.now c.loop-column.column-index c.column-item.result c.deref.result.now
    c.args.columns.fit c.as_slice-column-items.ensures c.requires c.loop-column-test.true c.column-item.is c.deref.ensures.value

pub loop-column-init : goal.loop-column-init
loop-column-init g c = record {
  known = none_known g.F.RingCore.ring g.EF.RingCore.ring g.EF.ExtensionField.embed (2 ^ c.args.domain.now.log_size) (point g.F.RingCore.ring g.F.TwoAdicCore.root c.args.domain.now) c.args.x
      (get nat_cmp c.new-weights.result) (λ v. v.items) (λ i. rw c.new-weights.ensures.empty refl);
  values_so_far = none_yet c.in_ok-values.values.items _ c.in_ok-values.ensures.items;
}

pub loop-column-preserved : goal.loop-column-preserved
loop-column-preserved g c =
    let items = c.as_slice-column-items.result.now in
    let R = IsPeriodicAt g.F.RingCore.ring g.EF.RingCore.ring g.EF.ExtensionField.embed (2 ^ c.args.domain.now.log_size) (point g.F.RingCore.ring g.F.TwoAdicCore.root c.args.domain.now) c.args.x in
    record {
      known = c.in_ok-value.ensures.known;
      values_so_far = one_more c.loop-column.column-index c.loop-column.values.items c.push.new.self.items c.in_ok-value.value
          (λ i y. (x : List g.row.F.Denot) → slice_get (map (λ v. v.items) items) i ≡ Some x → R x y)
          c.loop-column.invariant.values_so_far
          (λ x q. subst (λ l. R l c.in_ok-value.value) (column_here (λ v. v.items) items c.loop-column.column-index c.column-item.result c.deref.result.now x c.loop-column-test.true c.column-item.is c.deref.ensures.value q) c.in_ok-value.ensures.value)
          c.in_ok-push.ensures.items;
    }

pub returns : goal.returns
returns g c =
    all_values (λ v. v.items) c.args.columns.columns.now c.as_slice-column-items.result.now c.loop-column.column-index c.loop-column.values.items
    (IsPeriodicAt g.F.RingCore.ring g.EF.RingCore.ring g.EF.ExtensionField.embed (2 ^ c.args.domain.now.log_size) (point g.F.RingCore.ring g.F.TwoAdicCore.root c.args.domain.now) c.args.x)
    c.as_slice-column-items.ensures (omega arith) c.loop-column.invariant.values_so_far
