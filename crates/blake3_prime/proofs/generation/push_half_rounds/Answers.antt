use Rattle.std.proofs.Common.{◌≡◌, suc, ◌+◌, arith, subst}
use Rattle.blake3_compress.specs.Laws.State.{state_none, state_made, state_next}
use Rattle.blake3_compress.specs.TraceRow.{state_cells, state}
use Rattle.blake3_compress.specs.Generated.{IsState}
use Rattle.blake3_compress.specs.Laws.Pushing.{push_none, push_more, push_all}
use Rattle.blake3_prime.proofs.generation.push_half_rounds.Goals as goal

pub loop-n-init : goal.loop-n-init
loop-n-init g c x hx h = (state_none x _ h, push_none g.F.RingCore.ring _ (λ n. state_cells (state x (suc n))))

pub loop-n-preserved : goal.loop-n-preserved
loop-n-preserved g c x hx h =
    let n = c.loop-n.n in
    let p = c.loop-n.invariant x hx h in
    let s = c.after_half_round-state.ensures x (state x n) hx p.0 in (
      state_next x _ n (n + 1) (omega arith) s,
      push_more g.F.RingCore.ring n (λ n. state_cells (state x (suc n))) p.1 (c.in_ok-push_state.ensures (state x (suc n)) (state_made x _ n s)),
    )

pub returns : goal.returns
returns g c x hx h =
    let n = c.loop-n.n in
    let p = c.loop-n.invariant x hx h in
    let e : n ≡ 28 = omega arith in (
      subst (λ k. IsState c.loop-n.state (state x k)) e p.0,
      push_all g.F.RingCore.ring _ _ n 28 (λ n. state_cells (state x (suc n))) e p.1,
    )
