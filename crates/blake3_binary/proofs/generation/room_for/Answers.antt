use Rattle.std.proofs.Common.{ℕ, ◌*◌, ◌^◌, ◌<◌, ◌≤◌, arith, lit<}
use Rattle.std.proofs.Math.Nat.{mul-le-mul_right, pow-le-pow_right}
use Rattle.blake3_binary.proofs.generation.room_for.Goals as goal

large : (rows extra : ℕ) → 0 < rows → 64 ≤ extra → 2 ^ 64 ≤ rows * 11536 * 2 ^ extra
large rows extra h k =
    let two : 0 < 2 = lit< tt in
    let power : 2 ^ 64 ≤ 2 ^ extra = pow-le-pow_right two k in
    let some : 1 ≤ rows * 11536 = omega (arith, h) in
    let more : 1 * 2 ^ extra ≤ rows * 11536 * 2 ^ extra = mul-le-mul_right (2 ^ extra) some in
    omega (arith, power, more)

pub returns-then-extra-ge64 : goal.returns-then-extra-ge64
returns-then-extra-ge64 c = large c.args.rows c.args.extra c.requires c.if-extra-ge64.true
