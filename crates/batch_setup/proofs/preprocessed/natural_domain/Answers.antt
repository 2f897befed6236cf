use Rattle.std.proofs.Common.{◌^◌, ◌≤◌, sym, ◌∙◌, subst}
use Rattle.std.proofs.Math.Pow.{pow_mono}
use Rattle.batch_setup.proofs.Naturals.{subgroup_of}
use Rattle.batch_setup.proofs.preprocessed.natural_domain.Goals as goal

pub natural_domain_for_degree-requires-clause-fits : goal.natural_domain_for_degree-requires-clause-fits
natural_domain_for_degree-requires-clause-fits g c = subst (λ n. n ≤ 2 ^ g.SC.Val.TwoAdicCore.TWO_ADICITY) (sym c.power_of_two.ensures.size) (pow_mono c.requires.two_adic)

pub returns : goal.returns
returns g c =
    let d = c.natural_domain_for_degree.result in
    let e = c.natural_domain_for_degree.ensures in
    subgroup_of g.SC.Val.RingCore.ring g.met.SC.Val.RingCore.ring_laws g.SC.Val.TwoAdicCore.root d c.args.log
    (sym (g.met.SC.Pcs.CosetPcs.coset_points d) ∙ e.size_is ∙ c.power_of_two.ensures.size)
    (sym (g.met.SC.Pcs.CosetPcs.coset_point d 0) ∙ e.point_is c.args.log 0 c.power_of_two.ensures.size)
