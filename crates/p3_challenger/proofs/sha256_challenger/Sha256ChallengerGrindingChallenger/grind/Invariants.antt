use Rattle.std.proofs.Common.{◌≡◌, ℕ, ◌<◌}
use Rattle.p3_field.specs.Ring.{of_nat}
use Rattle.p3_field.specs.BabyBear.{baby_bear_ring}
use Rattle.p3_challenger.specs.Grind.{PassesGrinding}
use Rattle.p3_challenger.specs.Sha256.{observed, bits_drawn}
use Rattle.p3_challenger.proofs.sha256_challenger.Sha256ChallengerGrindingChallenger.grind.Given as goal

abbrev pub invariant-loop-n : goal.invariant-loop-n
invariant-loop-n l = record {
  same : l.self ≡ l.fn.self;
  none : (m : ℕ) → m < l.n → PassesGrinding observed bits_drawn l.fn.self l.fn.bits (of_nat baby_bear_ring m) → ⊥;
}
