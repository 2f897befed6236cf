-- Numbers of bits below the order.
use Rattle.std.proofs.Common.{ℕ, ◌^◌, ◌<◌, ◌≤◌, arith}
use Rattle.std.proofs.Math.Pow.{pow_mono}
use Rattle.p3_field.specs.BabyBear.{order}

-- a power below the order has few bits
pub few_bits : (b : ℕ) → 2 ^ b < order → b < 64
few_bits b h = grind (arith, λ (k : 31 ≤ b). pow_mono k)
