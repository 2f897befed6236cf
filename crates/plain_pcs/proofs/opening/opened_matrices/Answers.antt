use Rattle.std.proofs.Common.{◌∙◌, map, arith}
use Rattle.std.proofs.lemmas.List.{length-map}
use Rattle.plain_pcs.proofs.Openings.{next_matrix, all_matrices}
use Rattle.plain_pcs.proofs.opening.opened_matrices.Goals as goal

pub loop-index-preserved : goal.loop-index-preserved
loop-index-preserved g c = λ cs H.
    next_matrix g.F.RingCore.ring g.F.TwoAdicCore.root c.args.log_blowup g.E.RingCore.ring g.E.ExtensionField.embed c.prover_data.inside.evaluated.items c.args.prover_data.now c.args.points.now cs c.loop-index.index c.loop-index.matrices.items c.push.new.self.items c.in_ok-opened_matrix.field-0
    c.index.result.now c.index-points-index.result c.deref.result.now c.requires.lists (omega arith) H c.prover_data.view_is c.index.ensures c.index-points-index.is c.deref.ensures.value
    (c.loop-index.invariant cs H) c.in_ok-push.ensures.items c.in_ok-opened_matrix.ensures

pub returns : goal.returns
returns g c = λ cs H.
    let n = length-map c.args.points.now (λ v. v.items) in
    all_matrices g.F.RingCore.ring g.F.TwoAdicCore.root c.args.log_blowup g.E.RingCore.ring g.E.ExtensionField.embed c.args.prover_data.now (map (λ v. v.items) c.args.points.now) cs c.loop-index.index _
    (n ∙ c.requires.lists) (omega (arith, n)) H (c.loop-index.invariant cs H)
