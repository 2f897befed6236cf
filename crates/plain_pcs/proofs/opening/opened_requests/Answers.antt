use Rattle.std.proofs.Common.{◌≡◌, ◌∙◌, map, ap, arith}
use Rattle.plain_pcs.proofs.Openings.{next_request, all_requests}
use Rattle.plain_pcs.proofs.opening.opened_requests.Goals as goal

pub loop-request-preserved : goal.loop-request-preserved
loop-request-preserved g c = λ held H.
    let kept : c.request.inside.prover_data.now ≡ c.request-item.result.prover_data = ap (λ v. v.prover_data) c.request.view_is in
    let lists : map (λ v. v.items) c.deref.result.now ≡ c.request-item.result.points = ap (map (λ v. v.items)) c.deref.ensures.value ∙ ap (λ v. v.points) c.request.view_is in
    next_request g.F.RingCore.ring g.F.TwoAdicCore.root c.args.log_blowup g.E.RingCore.ring g.E.ExtensionField.embed c.args.requests.now held c.loop-request.request-index c.loop-request.rounds.items c.push.new.self.items c.in_ok-opened_matrices.field-0
    c.request-item.result c.request.inside.prover_data.now (map (λ v. v.items) c.deref.result.now) (omega arith) H c.request-item.is kept lists
    (c.loop-request.invariant held H) c.in_ok-push.ensures.items c.in_ok-opened_matrices.ensures

pub returns : goal.returns
returns g c = λ held H.
    all_requests g.F.RingCore.ring g.F.TwoAdicCore.root c.args.log_blowup g.E.RingCore.ring g.E.ExtensionField.embed c.args.requests.now held c.loop-request.request-index _ (omega arith) H (c.loop-request.invariant held H)
