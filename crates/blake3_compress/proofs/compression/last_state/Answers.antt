use Rattle.std.proofs.Common.{◌≡◌, arith, subst}
use Rattle.blake3_compress.specs.TraceRow.{state}
use Rattle.blake3_compress.specs.Generated.{IsState}
use Rattle.blake3_compress.specs.Laws.State.{state_none, state_next}
use Rattle.blake3_compress.proofs.compression.last_state.Goals as goal

pub loop-n-init : goal.loop-n-init
loop-n-init c x hx h = state_none x _ h

pub loop-n-preserved : goal.loop-n-preserved
loop-n-preserved c x hx h =
    let n = c.loop-n.n in
    state_next x _ n _ (omega arith) (c.after_half_round-state.ensures x (state x n) hx (c.loop-n.invariant x hx h))

pub returns : goal.returns
returns c x hx h =
    let e : c.loop-n.n ≡ 28 = omega arith in
    subst (λ k. IsState c.loop-n.state (state x k)) e (c.loop-n.invariant x hx h)
