use Rattle.std.proofs.Common.{◌<◌, length, arith}
use Rattle.p3_field.specs.Laws.Checks.{none_until}
use Rattle.prover_answer.specs.Laws.Verdicts.{exits, refusal_in_turn}
use Rattle.prover_quotients.proofs.Extended.{all_extended, more_extended, none_extended}
use Rattle.prover_quotients.proofs.Items.{lookups_long, place_at, place_inside}
use Rattle.prover_quotients.proofs.batch.all_extensions.Goals as goal

pub loop-index-init : goal.loop-index-init
loop-index-init g c = none_extended _ _ _ _ _ c.new-ldes.result.items c.new-ldes.ensures.items

pub index-requires : goal.index-requires
index-requires g c =
    let long = lookups_long g.A.BaseAir.declaration g.A.Air.trees c.args.instances.now c.args.common.now.lookups c.requires.traced.lists.lookups_long in
    let places = c.in_ok-places.places in
    let inside : c.loop-index.index < length places.items =
    place_inside _ c.args.common.now c.common.view_is c.deref.result.now c.deref.ensures.value places.items c.in_ok-places.ensures c.loop-index.index _ long c.loop-index-test.true in
    omega (arith, inside, places.ok.0)

pub extensions_at-requires-clause-place : goal.extensions_at-requires-clause-place
extensions_at-requires-clause-place g c =
    let long = lookups_long g.A.BaseAir.declaration g.A.Air.trees c.args.instances.now c.args.common.now.lookups c.requires.traced.lists.lookups_long in
    let places = c.in_ok-places.places in
    place_at _ c.args.common.now c.common.view_is c.deref.result.now c.deref.ensures.value places.items c.in_ok-places.ensures c.loop-index.index _ c.index.result.now c.index.ensures long c.loop-index-test.true

pub returns-in_err-own-clause-verdict : goal.returns-in_err-own-clause-verdict
returns-in_err-own-clause-verdict g c =
    exits _ _ _ c.from_residual-in_err-own.ensures.1 (refusal_in_turn _ c.loop-index.index _ _ c.loop-index-test.true c.loop-index.invariant.none c.in_err-own.ensures.verdict)

pub loop-index-preserved : goal.loop-index-preserved
loop-index-preserved g c =
    more_extended _ _ _ _ _ c.loop-index.index c.loop-index.ldes.items c.in_ok-own.own.items c.append.new.self.items c.loop-index.invariant c.in_ok-own.ensures.verdict c.in_ok-own.ensures.extensions c.in_ok-append.ensures.items

pub returns-clause-verdict : goal.returns-clause-verdict
returns-clause-verdict g c = none_until _ c.loop-index.index _ (omega arith) c.loop-index.invariant.none

pub returns-clause-extensions : goal.returns-clause-extensions
returns-clause-extensions g c = all_extended _ _ _ _ _ c.loop-index.index _ c.loop-index.ldes.items c.loop-index.invariant (omega arith)
