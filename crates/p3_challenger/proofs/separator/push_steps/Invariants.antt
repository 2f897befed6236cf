use Rattle.std.proofs.Common.{◌≡◌, ◌++◌, flat_map, take}
use Rattle.p3_challenger.specs.Separator.{step_bytes}
use Rattle.p3_challenger.proofs.separator.push_steps.Given as goal

abbrev pub invariant-loop-step : goal.invariant-loop-step
invariant-loop-step l = l.out.items ≡ l.initial.out.items ++ flat_map step_bytes (take l.step-index l.steps)
