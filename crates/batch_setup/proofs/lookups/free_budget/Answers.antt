use Rattle.std.proofs.Common.{◌^◌, ◌≤◌, arith}
use Rattle.std.proofs.Math.Pow.{pow_mono}
use Rattle.batch_setup.proofs.lookups.free_budget.Goals as goal

pub returns-then-log_chunks-ge64 : goal.returns-then-log_chunks-ge64
returns-then-log_chunks-ge64 c = let p : 2 ^ 64 ≤ 2 ^ c.args.log_chunks = pow_mono c.if-log_chunks-ge64.true in let m = c.requires in omega (arith, p, m)
