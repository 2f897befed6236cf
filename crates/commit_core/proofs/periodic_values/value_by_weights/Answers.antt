use Rattle.std.proofs.Common.{◌^◌, ◌∙◌, length, refl, sym, ap}
use Rattle.std.specs.Ordering.{nat_cmp}
use Rattle.std.specs.BTreeMap.{get}
use Rattle.p3_field.specs.Domain.{point}
use Rattle.commit_core.proofs.PeriodWeights.{more_known, value_is}
use Rattle.commit_core.proofs.periodic_values.value_by_weights.Goals as goal

pub weighted_sum-found-requires : goal.weighted_sum-found-requires
weighted_sum-found-requires g c =
    ap length c.as_slice-ready.ensures.value ∙ ((c.requires.known.each (length c.args.column.now) c.in-Some.known.now (sym c.in-Some.ensures.value)).count)

pub weighted_sum-value-requires : goal.weighted_sum-value-requires
weighted_sum-value-requires g c = ap length c.as_slice-fresh.ensures.value ∙ (c.in_ok-made.ensures.count)

pub returns-in-Some-clause-value : goal.returns-in-Some-clause-value
returns-in-Some-clause-value g c =
    value_is g.F.RingCore.ring g.EF.RingCore.ring g.EF.ExtensionField.embed (2 ^ c.args.domain.now.log_size) (point g.F.RingCore.ring g.F.TwoAdicCore.root c.args.domain.now) c.args.x (length c.args.column.now)
    c.in-Some.known.now.items c.as_slice-ready.result.now c.args.column.now c.weighted_sum-found.result
    (c.requires.known.each (length c.args.column.now) c.in-Some.known.now (sym c.in-Some.ensures.value)) refl c.as_slice-ready.ensures.value c.weighted_sum-found.ensures

pub returns-clause-value : goal.returns-clause-value
returns-clause-value g c =
    value_is g.F.RingCore.ring g.EF.RingCore.ring g.EF.ExtensionField.embed (2 ^ c.args.domain.now.log_size) (point g.F.RingCore.ring g.F.TwoAdicCore.root c.args.domain.now) c.args.x (length c.args.column.now)
    c.in_ok-made.made.items c.as_slice-fresh.result.now c.args.column.now c.weighted_sum-value.result c.in_ok-made.ensures refl c.as_slice-fresh.ensures.value c.weighted_sum-value.ensures

pub returns-clause-known : goal.returns-clause-known
returns-clause-known g c =
    more_known g.F.RingCore.ring g.EF.RingCore.ring g.EF.ExtensionField.embed (2 ^ c.args.domain.now.log_size) (point g.F.RingCore.ring g.F.TwoAdicCore.root c.args.domain.now) c.args.x
    (get nat_cmp c.args.weights.now) (get nat_cmp c.add_weights.new.weights) (λ v. v.items) (length c.args.column.now) c.in_ok-made.made c.requires.known c.in_ok-made.ensures c.in_ok-add_weights.ensures.here c.in_ok-add_weights.ensures.others
