use Rattle.std.proofs.Common.{◌+◌, ◌^◌, ◌≤◌, subst, arith}
use Rattle.std.proofs.Math.Pow.{pow_mono}
use Rattle.commit_core.specs.Space.{EachOf, IsOffered, IsPart}
use Rattle.p3_field.specs.Domain.{subgroup}
use Rattle.verifier_claims.proofs.Parts.{offered_parts}
use Rattle.verifier_claims.proofs.domains.domains_of_chunks.Goals as goal

pub create_disjoint_domain-domain-requires : goal.create_disjoint_domain-domain-requires
create_disjoint_domain-domain-requires g c =
    let m : 2 ^ (c.args.bits + c.args.chunks) ≤ 2 ^ g.F.TwoAdicCore.TWO_ADICITY = pow_mono c.requires.fits in
    λ h. omega (arith, m, h, c.power_of_two.ensures.size)

pub split_domains-requires-clause-fits : goal.split_domains-requires-clause-fits
split_domains-requires-clause-fits g c =
    let o = c.create_disjoint_domain-domain.ensures in
    let m : 2 ^ (c.args.chunks + c.args.masks) ≤ 2 ^ (c.args.bits + c.args.chunks) =
    let low : c.args.chunks + c.args.masks ≤ c.args.bits + c.args.chunks = omega (arith, c.requires.masked) in
    pow_mono low in
    omega (arith, m, o.enough, c.power_of_two.ensures.size, c.power_of_two-2.ensures.size)

pub returns : goal.returns
returns g c =
    let r = g.F.RingCore.ring in
    let d = c.create_disjoint_domain-domain.result in
    let n = c.args.bits + c.args.chunks in
    offered_parts r g.F.TwoAdicCore.root g.F.FieldCore.GENERATOR (subgroup r c.args.bits) c.args.chunks (c.args.chunks + c.args.masks) c.in_ok-parts.parts.items (
      d,
      subst (λ x. IsOffered r g.F.FieldCore.GENERATOR x (2 ^ n) d) c.extended_domain-extended.ensures
          (subst (λ m. IsOffered r g.F.FieldCore.GENERATOR c.extended_domain-extended.result m d) c.power_of_two.ensures.size c.create_disjoint_domain-domain.ensures),
      subst (λ m. EachOf m c.in_ok-parts.parts.items (IsPart r g.F.TwoAdicCore.root d m)) c.power_of_two-2.ensures.size c.in_ok-parts.ensures,
    )
