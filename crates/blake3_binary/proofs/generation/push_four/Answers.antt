use Rattle.std.proofs.Common.{◌+◌, ◌*◌, arith}
use Rattle.air_core.specs.Joined.{joined}
use Rattle.blake3_binary.specs.Row.{half_cells}
use Rattle.blake3_compress.specs.Laws.Pushing.{push_none, push_more, push_all}
use Rattle.blake3_binary.proofs.generation.push_four.Goals as goal

pub loop-g-init : goal.loop-g-init
loop-g-init g c x hx h1 h2 = push_none g.F.RingCore.ring _ (λ k. joined 2 (λ h. half_cells x (2 * c.args.p + h) k))

pub loop-g-preserved : goal.loop-g-preserved
loop-g-preserved g c x hx h1 h2 =
    push_more g.F.RingCore.ring c.loop-g.g (λ k. joined 2 (λ h. half_cells x (2 * c.args.p + h) k)) (c.loop-g.invariant x hx h1 h2) (c.in_ok-push_step.ensures x hx h1 h2)

pub returns : goal.returns
returns g c x hx h1 h2 =
    push_all g.F.RingCore.ring _ _ c.loop-g.g 4 (λ k. joined 2 (λ h. half_cells x (2 * c.args.p + h) k)) (omega arith) (c.loop-g.invariant x hx h1 h2)
