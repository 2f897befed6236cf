use Rattle.std.proofs.Common.{◌≡◌, ◌+◌, ◌<◌, ◌≤◌, List, ◌∷◌, length, drop, sym, ◌∙◌, ap, subst, arith}
use Rattle.std.specs.BTreeMap.{values}
use Rattle.std.specs.Prelude.{IfOk}
use Rattle.std.proofs.lemmas.Iterator.{items_from_collect}
use Rattle.std.proofs.lemmas.Iterator.Consumers.{YieldsList-from_rest}
use Rattle.std.proofs.lemmas.List.{drop_all, drop_more}
use Rattle.std.proofs.lemmas.Result.{IfOk-weaker}
use Rattle.p3_lookup.specs.Messages.{Message}
use Rattle.stark_balance.specs.Nets.{AreAscending, AreNets, by_key, net_counts, nets_onto}
use Rattle.stark_balance.specs.Laws.NetCounts.{counts_are_nets, counts_ascend}
use Rattle.stark_balance.proofs.counts.net_counts.Given as given
use Rattle.stark_balance.proofs.counts.net_counts.Goals as goal

pub loop-i-preserved : goal.loop-i-preserved
loop-i-preserved g c =
    let onto = nets_onto g.F.RingCore.ring (by_key g.F.PrimeCore64.canonical) in
    let ms = c.args.messages.now in
    let i = c.loop-i.i in
    let x = c.index-messages-i.result in
    let within : i < length ms = omega arith in
    let next : drop i ms ≡ x ∷ drop (i + 1) ms = drop_more ms i x within ∙ ap (λ (y : Message g.row.F.Denot). y ∷ drop (i + 1) ms) (sym c.index-messages-i.is) in (
      c.in_ok-add_message.ensures.keyed,
      ap (λ (ns : List (Message g.row.F.Denot)). onto ns (drop (i + 1) ms)) c.in_ok-add_message.ensures.added ∙ sym (ap (onto (values c.loop-i.entries)) next) ∙ c.loop-i.invariant.1,
    )

module _ (g : given.Over) (c : goal.After-collect g) where
  -- the values are the nets
  counted : values c.loop-i.entries ≡ net_counts g.F.RingCore.ring g.F.PrimeCore64.canonical c.args.messages.now
  counted =
      let over : length c.args.messages.now ≤ c.loop-i.i = omega arith in
      sym (ap (nets_onto g.F.RingCore.ring (by_key g.F.PrimeCore64.canonical) (values c.loop-i.entries)) (drop_all c.loop-i.i c.args.messages.now over)) ∙ c.loop-i.invariant.1

  collected : IfOk c.collect.result (λ v. v.items ≡ net_counts g.F.RingCore.ring g.F.PrimeCore64.canonical c.args.messages.now)
  collected = items_from_collect c.collect.result c.collect.ensures.ran (YieldsList-from_rest (net_counts g.F.RingCore.ring g.F.PrimeCore64.canonical c.args.messages.now) (c.into_values.ensures.rest ∙ counted))

pub returns-clause-value : goal.returns-clause-value
returns-clause-value g c = collected g c

pub returns-clause-nets : goal.returns-clause-nets
returns-clause-nets g c =
    let f = g.F.RingCore.ring in
    let ms = c.args.messages.now in
    IfOk-weaker c.collect.result _ _ (λ v e. subst (λ (ns : List (Message g.row.F.Denot)). AreNets f g.F.PartialEq.eq ms ns) (sym e)
    (counts_are_nets f g.F.PrimeCore64.canonical g.met.F.PrimeCore64.of_canonical g.F.PartialEq.eq g.met.F.FieldCore.eq_same g.met.F.FieldCore.same_eq g.met.F.RingCore.ring_laws ms)) (collected g c)

pub returns-clause-ordered : goal.returns-clause-ordered
returns-clause-ordered g c =
    let f = g.F.RingCore.ring in
    IfOk-weaker c.collect.result _ _ (λ v e. subst (λ (ns : List (Message g.row.F.Denot)). AreAscending (by_key g.F.PrimeCore64.canonical) ns) (sym e)
    (counts_ascend f g.F.PrimeCore64.canonical g.met.F.PrimeCore64.of_canonical c.args.messages.now)) (collected g c)
