use Rattle.std.proofs.Common.{ℕ, ◌+◌, ◌*◌}
use Rattle.air_core.specs.Joined.{joined}
use Rattle.blake3_compress.specs.Compress.{Input}
use Rattle.blake3_packed.specs.Lanes.{PushedLanes, AreWordPlanes}
use Rattle.blake3_packed.specs.States.{HasStates, lane_first, lane_state, lane_half}
use Rattle.blake3_packed.proofs.steps.push_steps.Given as goal

abbrev pub invariant-loop-p : goal.invariant-loop-p
invariant-loop-p l =
    (x : ℕ → Input) (present : ℕ → ℕ) → AreWordPlanes 28 l.words x → HasStates l.fn.first (λ j. lane_first (x j) (present j))
    → HasStates l.state (λ j. lane_state (x j) (present j) (2 * l.p))
    × PushedLanes l.fn.values.items l.values.items (760 * l.p) (λ j. joined l.p (λ p. joined 4 (λ g. joined 2 (λ h. lane_half (x j) (present j) (2 * p + h) g))))
