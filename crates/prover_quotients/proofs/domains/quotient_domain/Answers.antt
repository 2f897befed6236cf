use Rattle.std.proofs.Common.{◌+◌, ◌^◌, ◌≤◌, ◌∙◌, ap, arith}
use Rattle.std.proofs.Math.Pow.{pow_mono}
use Rattle.prover_quotients.proofs.Offered.{offered_is}
use Rattle.prover_quotients.proofs.domains.quotient_domain.Goals as goal

pub create_disjoint_domain-requires : goal.create_disjoint_domain-requires
create_disjoint_domain-requires g c =
    let m : 2 ^ (c.args.rows.log_size + c.args.log_parts) ≤ 2 ^ g.F.TwoAdicCore.TWO_ADICITY = pow_mono c.requires in
    let size = c.power_of_two.ensures.size ∙ ap (λ n. 2 ^ (n + c.args.log_parts)) c.log_size.ensures in
    λ h. omega (arith, m, h, size)

pub returns : goal.returns
returns g c =
    let size = c.power_of_two.ensures.size ∙ ap (λ n. 2 ^ (n + c.args.log_parts)) c.log_size.ensures in
    offered_is g.F.RingCore.ring g.F.FieldCore.GENERATOR c.args.rows c.args.log_parts c.power_of_two.result c.create_disjoint_domain.result size c.create_disjoint_domain.ensures
