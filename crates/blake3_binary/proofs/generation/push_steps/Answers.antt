use Rattle.std.proofs.Common.{◌≡◌, ℕ, ◌+◌, ◌*◌, arith, sym, subst}
use Rattle.blake3_compress.specs.declared.words.StateWords.{StateWords}
use Rattle.blake3_compress.specs.Compress.{Input, first_state}
use Rattle.air_core.specs.Joined.{joined}
use Rattle.blake3_compress.specs.TraceRow.{state}
use Rattle.blake3_compress.specs.Generated.{IsState, Pushed}
use Rattle.blake3_binary.specs.Row.{half_cells}
use Rattle.blake3_binary.specs.Laws.Pushing.{laid_by_fours}
use Rattle.blake3_compress.specs.Laws.State.{state_next}
use Rattle.blake3_compress.specs.Laws.Pushing.{push_none, push_more, push_all}
use Rattle.blake3_binary.proofs.generation.push_steps.Goals as goal

start : (x : Input) (s : StateWords) (n : ℕ) → n ≡ 0 → IsState s (first_state x) → IsState s (state x n)
unfolding state
start x s n e h = subst (λ k. IsState s (state x k)) (sym e) h

pub loop-p-init : goal.loop-p-init
loop-p-init g c x hx h = (start x _ (2 * 0) (omega arith) h, push_none g.F.RingCore.ring _ (λ p. joined 4 (λ k. joined 2 (λ h. half_cells x (2 * p + h) k))))

pub loop-p-preserved : goal.loop-p-preserved
loop-p-preserved g c x hx h =
    let p = c.loop-p.p in
    let inv = c.loop-p.invariant x hx h in
    let middle = state_next x _ (2 * p) (2 * p + 1) (omega arith) (c.after_half_round-middle.ensures x (state x (2 * p)) hx inv.0) in
    let after = state_next x _ (2 * p + 1) (2 * (p + 1)) (omega arith) (c.after_half_round-before.ensures x (state x (2 * p + 1)) hx middle) in (
      after,
      push_more g.F.RingCore.ring p (λ p. joined 4 (λ k. joined 2 (λ h. half_cells x (2 * p + h) k))) inv.1 (c.in_ok-push_four.ensures x hx inv.0 middle),
    )

pub returns : goal.returns
returns g c x hx h =
    let r = g.F.RingCore.ring in
    subst (Pushed r _ _) (laid_by_fours (half_cells x))
    (push_all r _ _ c.loop-p.p 14 (λ p. joined 4 (λ k. joined 2 (λ h. half_cells x (2 * p + h) k))) (omega arith) (c.loop-p.invariant x hx h).1)
