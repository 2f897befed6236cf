use Rattle.std.proofs.Common.{ℕ, suc, zero, ◌*◌, ◌^◌, ◌<◌, ◌≤◌, arith}
use Rattle.std.proofs.Math.Nat.{pow-le-pow_right}
use Rattle.commit_encoder.proofs.encoder.checked_multiple.Goals as goal

at_least : (n k bits : ℕ) → 0 < n → k ≤ bits → 2 ^ k ≤ n * 2 ^ bits
at_least zero k bits pos h = absurd (omega arith)
at_least (suc n) k bits pos h =
    let low : 2 ^ k ≤ 2 ^ bits = pow-le-pow_right (omega arith) h in
    omega arith

pub returns-else-bits-lt64 : goal.returns-else-bits-lt64
returns-else-bits-lt64 c = omega (arith, at_least c.args.n 64 c.args.bits c.requires c.if-bits-lt64.false)
