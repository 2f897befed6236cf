use Rattle.std.proofs.Common.{ℕ, ◌+◌, ◌*◌, arith, subst}
use Rattle.air_core.specs.Joined.{joined}
use Rattle.blake3_binary.specs.Laws.Pushing.{laid_by_fours}
use Rattle.blake3_binary.specs.Trees.{laid}
use Rattle.blake3_packed.specs.Lanes.{PushedLanes}
use Rattle.blake3_packed.specs.States.{HasStates, lane_state, lane_half}
use Rattle.blake3_packed.specs.Laws.Lanes.{pushed_none, pushed_more, pushed_all, pushed_same}
use Rattle.blake3_packed.specs.Laws.States.{lane_start, lane_next_two, four_halves}
use Rattle.blake3_packed.proofs.steps.push_steps.Goals as goal

pub loop-p-init : goal.loop-p-init
loop-p-init c x present hw h = (
  subst (HasStates c.args.first) (λ i j. lane_start (x j) (present j) (2 * 0) (omega arith) i) h,
  pushed_none c.args.values.now.items 760 (λ j p. joined 4 (λ g. joined 2 (λ h. lane_half (x j) (present j) (2 * p + h) g))),
)

pub loop-p-preserved : goal.loop-p-preserved
loop-p-preserved c x present hw h =
    let p = c.loop-p.p in
    let I = c.loop-p.invariant x present hw h in
    let R = c.in_ok-push_four.ensures x (λ j. lane_state (x j) (present j) (2 * p)) hw I.0 in (
      subst (HasStates c.push_four.new.state) (λ i j. lane_next_two (x j) (present j) p i) R.1,
      pushed_more p 760 (λ j p. joined 4 (λ g. joined 2 (λ h. lane_half (x j) (present j) (2 * p + h) g))) I.1
          (subst (PushedLanes c.loop-p.values.items c.push_four.new.values.items 760) (λ i j. four_halves (x j) (present j) p i) R.0),
    )

pub returns : goal.returns
returns c x present hw h =
    let t = λ (j : ℕ) (p : ℕ). joined 4 (λ g. joined 2 (λ h. lane_half (x j) (present j) (2 * p + h) g)) in
    pushed_same (760 * 14) 10640 (λ j. joined 14 (t j)) (λ j. laid (lane_half (x j) (present j))) (omega arith) (λ j lj. laid_by_fours (lane_half (x j) (present j)))
    (pushed_all c.loop-p.p 14 760 t (omega arith) (c.loop-p.invariant x present hw h).1)
