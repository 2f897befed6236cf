use Rattle.std.proofs.Common.{◌∙◌, ap, map, arith}
use Rattle.commit_core.specs.Laws.OneItem.{values_in}
use Rattle.example_commit.specs.Rounds.{request_of}
use Rattle.example_commit.proofs.Lists.{read, next_item}
use Rattle.example_commit.proofs.rounds.requests.Goals as goal

pub loop-round-preserved : goal.loop-round-preserved
loop-round-preserved g c =
    let i = c.loop-round.round-index in
    let k = c.round-item.result in
    let points = c.in_ok-points.ensures ∙ (ap (map values_in) c.deref.ensures.value ∙ ap (λ k. k.points) c.round.view_is) in
    next_item request_of c.loop-round.requests.items c.push.new.self.items _ c.args.prover_rounds.now i k c.loop-round.invariant c.in_ok-push.ensures.items (read c.args.prover_rounds.now i k (omega arith) c.round-item.is)
    (ap (λ l. record { prover_data = c.round.inside.prover_data; points = l }) points ∙ ap (λ d. record { prover_data = d; points = k.points }) (ap (λ k. k.prover_data) c.round.view_is))
