use Rattle.std.proofs.Common.{◌≡◌, ◌^◌, ◌≤◌, arith}
use Rattle.p3_matrix.specs.Laws.Powers.{power_le_cancel}
use Rattle.plain_pcs.specs.Laws.Scheme.{is_subgroup}
use Rattle.plain_pcs.proofs.plain_pcs.PlainPcsPcs.natural_domain_for_degree.Goals as goal

pub subgroup-requires : goal.subgroup-requires
subgroup-requires g c =
    let k = c.log2_strict_usize.result in
    power_le_cancel k g.F.TwoAdicCore.TWO_ADICITY (let e : c.args.degree ≡ 2 ^ k = c.log2_strict_usize.ensures in let f : c.args.degree ≤ 2 ^ g.F.TwoAdicCore.TWO_ADICITY = c.requires.fits in omega (arith, e, f))

pub returns : goal.returns
returns g c =
    is_subgroup g.F.RingCore.ring g.met.F.RingCore.ring_laws g.F.TwoAdicCore.root c.args.degree c.log2_strict_usize.result c.subgroup.result c.log2_strict_usize.ensures c.subgroup.ensures
