use Rattle.std.proofs.Common.{sym, ◌∙◌}
use Rattle.p3_field.specs.Laws.Algebra.{twice_zero}
use Rattle.p3_field.proofs.meanings.twice_is_zero.Goals as goal

pub returns : goal.returns
returns g c =
    let ones = sym g.met.R.RingCore.two_is ∙ c.requires in
    record { ones = ones; values = twice_zero g.R.RingCore.ring g.met.R.RingCore.ring_laws ones }
