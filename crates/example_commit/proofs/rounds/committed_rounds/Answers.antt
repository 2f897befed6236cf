use Rattle.std.proofs.Common.{◌∙◌, length, arith}
use Rattle.std.proofs.lemmas.Iterator.Adapters.{YieldsList-from_vec}
use Rattle.std.proofs.lemmas.Iterator.Consumers.{YieldsList-turn, YieldsList-end}
use Rattle.commit_core.specs.Laws.Each.{none_yet}
use Rattle.example_commit.specs.Rounds.{CommittedRoundData, IsCommittedRound}
use Rattle.example_commit.proofs.Lists.{each_yielded, each_done, read}
use Rattle.example_commit.proofs.Refusals.{one_granted, none_refused, refused_at, handed_on}
use Rattle.example_commit.proofs.rounds.committed_rounds.Goals as goal

pub loop-round-init : goal.loop-round-init
loop-round-init g c = record { prover_rounds = none_yet c.in_ok-prover_rounds.prover_rounds.items _ c.in_ok-prover_rounds.ensures.items; granted = λ j x l q. absurd (omega arith) }

pub loop-round-preserved : goal.loop-round-preserved
loop-round-preserved g c =
    let x = c.in-Some.round in
    let T = g.P.Pcs in
    let S = g.P.Domain.PolynomialSpace in
    let gives = c.into_iter-round-iterator.ensures.into_iter_gives in
    let road = YieldsList-from_vec {s = c.into_iter-round-iterator.result} c.args.rounds.items gives.0 (gives.1 ∙ c.args.rounds.ok.0) in
    let turn = YieldsList-turn road c.loop-round.yielded c.loop-round.round-iterator c.loop-round.yielded_by c.next.result c.next.new.self x c.in-Some.is c.next.ensures.steps in
    record {
      prover_rounds = each_yielded (λ q k. IsCommittedRound g.P.Val.RingCore.ring S.points S.point_at (T.commits c.args.pcs.now) (T.made c.args.pcs.now) (T.holds c.args.pcs.now) q k) c.args.rounds.items c.loop-round.yielded x c.loop-round.prover_rounds.items c.push.new.self.items _
          turn.0 turn.1 c.loop-round.invariant.prover_rounds c.in_ok-committed_round.ensures.prover_rounds c.in_ok-push.ensures.items;
      granted = one_granted (λ q. T.commit_fault c.args.pcs.now q.evaluations) c.args.rounds.items c.loop-round.yielded x turn.0 turn.1 c.loop-round.invariant.granted c.in_ok-committed_round.ensures.refusal;
    }

pub returns-clause-refusal : goal.returns-clause-refusal
returns-clause-refusal g c =
    let gives = c.into_iter-round-iterator.ensures.into_iter_gives in
    let road = YieldsList-from_vec {s = c.into_iter-round-iterator.result} c.args.rounds.items gives.0 (gives.1 ∙ c.args.rounds.ok.0) in
    let seen = YieldsList-end road c.loop-round.yielded c.loop-round.round-iterator c.loop-round.yielded_by c.next.result c.next.new.self c.in-None.is c.next.ensures.steps in
    none_refused (λ q. g.P.Pcs.commit_fault c.args.pcs.now q.evaluations) c.args.rounds.items (length c.loop-round.yielded) seen.1 c.loop-round.invariant.granted

pub returns-clause-prover_rounds : goal.returns-clause-prover_rounds
returns-clause-prover_rounds g c =
    let T = g.P.Pcs in
    let S = g.P.Domain.PolynomialSpace in
    let gives = c.into_iter-round-iterator.ensures.into_iter_gives in
    let road = YieldsList-from_vec {s = c.into_iter-round-iterator.result} c.args.rounds.items gives.0 (gives.1 ∙ c.args.rounds.ok.0) in
    let seen = YieldsList-end road c.loop-round.yielded c.loop-round.round-iterator c.loop-round.yielded_by c.next.result c.next.new.self c.in-None.is c.next.ensures.steps in
    each_done (λ q k. IsCommittedRound g.P.Val.RingCore.ring S.points S.point_at (T.commits c.args.pcs.now) (T.made c.args.pcs.now) (T.holds c.args.pcs.now) q k) c.args.rounds.items (length c.loop-round.yielded) c.loop-round.prover_rounds.items seen.1 c.loop-round.invariant.prover_rounds

pub returns-in_err-committed_round-clause-refusal : goal.returns-in_err-committed_round-clause-refusal
returns-in_err-committed_round-clause-refusal g c =
    let x = c.in-Some.round in
    let T = g.P.Pcs in
    let gives = c.into_iter-round-iterator.ensures.into_iter_gives in
    let road = YieldsList-from_vec {s = c.into_iter-round-iterator.result} c.args.rounds.items gives.0 (gives.1 ∙ c.args.rounds.ok.0) in
    let turn = YieldsList-turn road c.loop-round.yielded c.loop-round.round-iterator c.loop-round.yielded_by c.next.result c.next.new.self x c.in-Some.is c.next.ensures.steps in
    handed_on (CommittedRoundData g.row.P-Domain.Denot g.row.E.Denot g.row.P-Commitment.Denot g.row.P-ProverData.Denot) (T.commit_fault c.args.pcs.now x.evaluations) _
    (λ e h. refused_at (λ q. T.commit_fault c.args.pcs.now q.evaluations) c.args.rounds.items (length c.loop-round.yielded) x e (read c.args.rounds.items (length c.loop-round.yielded) x turn.0 turn.1) c.loop-round.invariant.granted h)
    c.from_residual-in_err-committed_round.result c.in_err-committed_round.field-0.0 c.from_residual-in_err-committed_round.ensures.1 c.in_err-committed_round.ensures.refusal
