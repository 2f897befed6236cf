use Rattle.std.proofs.Common.{◌^◌, ◌<◌, arith}
use Rattle.p3_matrix.specs.Laws.Powers.{power_lt_cancel}
use Rattle.p3_matrix.proofs.util.log2_ceil_usize.Goals as goal

pub returns-else-n-le1-clause-least : goal.returns-else-n-le1-clause-least
returns-else-n-le1-clause-least c = λ k h.
    let below : 2 ^ c.ilog2.result < 2 ^ k = omega arith in
    let less = power_lt_cancel c.ilog2.result k below in
    omega arith
