use Rattle.std.proofs.Common.{◌^◌, ◌<◌, sym, ◌∙◌, ap, subst, refl}
use Rattle.p3_matrix.specs.Matrix.{height}
use Rattle.prover_openings.proofs.Counting.{count_there, own_lookups}
use Rattle.prover_openings.proofs.counts.count_at.Goals as goal

pub log_count-requires-clause-lookups : goal.log_count-requires-clause-lookups
log_count-requires-clause-lookups g c =
    let a = c.args in
    own_lookups g.F.RingCore.ring g.A.BaseAir.declaration g.A.Air.trees a.instances.now a.lookups.now a.index c.index-instances-index.result c.index-lookups-index.result c.instance.inside.air.now _
    c.requires.instances c.index-instances-index.is c.requires.lookups c.index-lookups-index.is (ap (λ i. i.air) c.instance.view_is) refl c.requires.countable

pub power_of_two-requires : goal.power_of_two-requires
power_of_two-requires g c =
    let a = c.args in
    let e = count_there g.F.RingCore.ring g.A.BaseAir.declaration g.A.Air.trees a.instances.now a.lookups.now a.index c.index-instances-index.result c.index-lookups-index.result c.instance.inside.air.now c.height-rows.result
    c.requires.instances c.index-instances-index.is c.requires.lookups c.index-lookups-index.is (ap (λ i. i.air) c.instance.view_is) (c.height-rows.ensures.result ∙ ap (λ i. height i.trace) c.instance.view_is) in
    subst (λ n. n < 64) (e ∙ sym c.in_ok-log.ensures) c.requires.countable.fits

pub returns : goal.returns
returns g c =
    let a = c.args in
    let e = count_there g.F.RingCore.ring g.A.BaseAir.declaration g.A.Air.trees a.instances.now a.lookups.now a.index c.index-instances-index.result c.index-lookups-index.result c.instance.inside.air.now c.height-rows.result
    c.requires.instances c.index-instances-index.is c.requires.lookups c.index-lookups-index.is (ap (λ i. i.air) c.instance.view_is) (c.height-rows.ensures.result ∙ ap (λ i. height i.trace) c.instance.view_is) in
    c.power_of_two.ensures ∙ ap (λ k. 2 ^ k) (c.in_ok-log.ensures ∙ sym e)
