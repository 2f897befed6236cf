use Rattle.std.proofs.Common.{◌≡◌, ◌+◌, ◌-◌, max, ◌∙◌, ap, arith}
use Rattle.batch_constraints.specs.Sizing.{log_ceil}
use Rattle.batch_constraints.specs.Laws.Degrees.{is_log_ceil}
use Rattle.batch_constraints.proofs.sizing.chunks_of.Goals as goal

pub returns : goal.returns
returns c =
    let d = c.args.degree in
    let z = c.args.is_zk in
    let k = c.log2_ceil_usize in
    let same : c.max.result - (1 - z) ≡ max (d + z) 2 - 1 = omega (arith, c.requires, c.max.ensures) in
    is_log_ceil (c.max.result - (1 - z)) k.result k.ensures.enough k.ensures.least ∙ ap log_ceil same
