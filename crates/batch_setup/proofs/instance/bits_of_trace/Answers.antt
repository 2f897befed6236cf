use Rattle.std.proofs.Common.{◌+◌, ◌<◌, ap, sym, ◌∙◌, arith}
use Rattle.p3_matrix.specs.Laws.Powers.{power_lt_cancel}
use Rattle.batch_setup.specs.Laws.Logarithms.{log_of_power}
use Rattle.batch_setup.proofs.instance.bits_of_trace.Goals as goal

pub overflow_add-result : goal.overflow_add-result
overflow_add-result g c =
    let k = c.log2_strict_usize.result in
    let small : k < 64 = power_lt_cancel k 64 (omega (arith, c.log2_strict_usize.ensures)) in
    omega (arith, small)

pub returns : goal.returns
returns g c = ap (λ k. k + c.args.masks) (sym (log_of_power _ c.log2_strict_usize.result (sym c.height.ensures.result ∙ c.log2_strict_usize.ensures)))
