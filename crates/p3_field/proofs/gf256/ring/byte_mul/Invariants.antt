use Rattle.std.proofs.Common.{◌≡◌, ◌-◌, ◌/◌, ◌^◌}
use Rattle.p3_field.specs.Gf256.{byte_mul}
use Rattle.p3_field.proofs.gf256.ring.byte_mul.Given as goal

abbrev pub invariant-loop-turn : goal.invariant-loop-turn
invariant-loop-turn l = l.product ≡ byte_mul l.turn l.a (l.b / 2 ^ (8 - l.turn))
