use Rattle.std.proofs.Common.{◌≡◌, Some, length}
use Rattle.std.specs.Prelude.{slice_get}
use Rattle.commit_core.specs.Space.{EachOf}
use Rattle.example_commit.specs.Rounds.{IsCommittedRound}
use Rattle.example_commit.proofs.Refusals.{NoneBefore}
use Rattle.example_commit.proofs.rounds.committed_rounds.Given as goal

abbrev pub invariant-loop-round : goal.invariant-loop-round
invariant-loop-round g l = record {
  prover_rounds : EachOf (length l.yielded) l.prover_rounds.items (λ i k. (q : _) → slice_get l.fn.rounds.items i ≡ Some q
      → IsCommittedRound g.P.Val.RingCore.ring g.P.Domain.PolynomialSpace.points g.P.Domain.PolynomialSpace.point_at (g.P.Pcs.commits l.pcs) (g.P.Pcs.made l.pcs) (g.P.Pcs.holds l.pcs) q k);
  granted : NoneBefore (λ q. g.P.Pcs.commit_fault l.pcs q.evaluations) l.fn.rounds.items (length l.yielded);
}
