use Rattle.std.proofs.Common.{◌^◌, ◌∙◌, ap, arith}
use Rattle.commit_core.specs.Commitments.{values_of}
use Rattle.plain_pcs.specs.Opening.{HaveMatrixValues}
use Rattle.plain_pcs.proofs.Openings.{narrowed, one_more}
use Rattle.plain_pcs.proofs.opening.opened_matrix.Goals as goal

pub loop-point-preserved : goal.loop-point-preserved
loop-point-preserved g c = λ k V.
    let r = g.F.RingCore.ring in
    let root = g.F.TwoAdicCore.root in
    let f = values_of g.E.RingCore.ring g.E.ExtensionField.embed k in
    let part = c.first_part-part.result in
    let here : HaveMatrixValues r root (2 ^ part.log_size) part c.in_ok-rows.rows k.polynomials =
    narrowed r root c.args.log_blowup c.args.domain.now part c.args.matrix.now c.in_ok-rows.rows k.polynomials c.first_part-part.ensures.size c.in_ok-rows.ensures V in
    one_more (λ v. v.items) f c.loop-point.values.items c.push.new.self.items c.in_ok-opened_at.field-0 c.args.points.now c.loop-point.point-index c.point-item.result
    (c.loop-point.invariant k V) c.in_ok-push.ensures.items (omega arith) (c.in_ok-opened_at.ensures k here ∙ ap f c.point-item.is)
