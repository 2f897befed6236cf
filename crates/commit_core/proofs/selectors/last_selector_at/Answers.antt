use Rattle.p3_field.specs.Laws.SubgroupSelectors.{trace_first_selector, trace_last_selector}
use Rattle.commit_core.proofs.selectors.last_selector_at.Goals as goal

pub returns : goal.returns
returns g c =
    let r = g.F.RingCore.ring in
    let L = g.met.F.RingCore.ring_laws in
    let s = g.EF.RingCore.ring in
    let M = g.met.EF.RingCore.ring_laws in
    let f = g.EF.ExtensionField.embed in
    let H = g.met.EF.ExtensionField.embed_laws in
    let inv = g.F.FieldCore.inv in
    let W = g.met.F.FieldCore.field_laws in
    let P = g.met.EF.PrimeCharacteristicRing in
    let d = c.args.domain.now in
    let first = trace_first_selector r L inv W s M f H d c.mul.result c.requires in
    let last = trace_last_selector r L inv W s M f H g.F.TwoAdicCore.TWO_ADICITY g.F.TwoAdicCore.root g.met.F.TwoAdicCore.root_laws d c.args.point c.requires c.valid.ensures.1 in
    cc (P.muls _ _ _ c.mul.ensures, P.muls _ _ _ c.mul-2.ensures, c.from_base-generator.ensures, c.subgroup_generator.ensures, c.first_selector_at.ensures, first, last)
