use Rattle.std.proofs.Common.{◌^◌, ◌∙◌, sym, ap}
use Rattle.p3_field.specs.Ring.{pow}
use Rattle.p3_field.specs.Poly.{total}
use Rattle.p3_field.specs.Laws.SubgroupSelectors.{trace_first_selector}
use Rattle.commit_core.proofs.selectors.first_selector_at.Goals as goal

pub returns : goal.returns
returns g c =
    let s = g.EF.RingCore.ring in
    let d = c.args.domain.now in
    let u = c.args.point in
    c.sum_of_powers.ensures ∙ (ap (λ k. total s (2 ^ k) (λ i. pow s u i)) c.log_size.ensures
    ∙ sym (trace_first_selector g.F.RingCore.ring g.met.F.RingCore.ring_laws g.F.FieldCore.inv g.met.F.FieldCore.field_laws s g.met.EF.RingCore.ring_laws
    g.EF.ExtensionField.embed g.met.EF.ExtensionField.embed_laws d u c.requires))
