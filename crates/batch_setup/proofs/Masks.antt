-- What masking adds to degree bits.
use Rattle.std.proofs.Common.{◌≤◌, Bool, true, false, cond, arith}

-- at most one
pub mask_small : (b : Bool) → cond b 1 0 ≤ 1
mask_small true = omega arith
mask_small false = omega arith
