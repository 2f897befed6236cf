use Rattle.std.proofs.Common.{◌≡◌, ◌∙◌, ap, arith}
use Rattle.p3_field.specs.Poly.{tabulate}
use Rattle.p3_field.specs.Ring.{of_nat}
use Rattle.p3_field.specs.Laws.Tabulate.{tabulate_push}
use Rattle.example_air.specs.Bytes.{all_bytes}
use Rattle.example_air.proofs.air.all_bytes.Goals as goal

pub loop-byte-preserved : goal.loop-byte-preserved
loop-byte-preserved g c = c.in_ok-push.ensures.items ∙ tabulate_push c.loop-byte.byte _ _ _ c.loop-byte.invariant c.from_u64.ensures

pub returns : goal.returns
unfolding all_bytes
returns g c =
    let end : c.loop-byte.byte ≡ 256 = omega arith in
    c.loop-byte.invariant ∙ ap (λ n. tabulate n (of_nat g.F.RingCore.ring)) end
