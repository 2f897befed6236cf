use Rattle.p3_field.specs.BabyBear.{baby_bear_ring}
use Rattle.example_fib_air.proofs.Numbers.{HaveRows}
use Rattle.example_fib_air.proofs.trace.fib_trace.Given as goal

abbrev pub invariant-loop : goal.invariant-loop
invariant-loop l = HaveRows baby_bear_ring l.fn.start l.counter l.values.items l.left l.right
