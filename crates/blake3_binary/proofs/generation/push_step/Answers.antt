use Rattle.std.proofs.Common.{◌≡◌, ℕ, ◌+◌, ◌*◌, ◌++◌, List, subst, arith}
use Rattle.air_core.specs.Joined.{joined}
use Rattle.blake3_compress.specs.TraceRow.{state}
use Rattle.blake3_compress.specs.Generated.{Pushed}
use Rattle.blake3_binary.specs.Row.{half_cells}
use Rattle.blake3_compress.specs.Laws.Pushing.{push_both}
use Rattle.blake3_binary.proofs.generation.push_step.Goals as goal

two_are : {X : Type 0} (p : ℕ) (f : ℕ → List X) → f (2 * p) ++ f (2 * p + 1) ≡ joined 2 (λ h. f (2 * p + h))
unfolding joined
two_are p f =
    let e : 2 * p ≡ 2 * p + 0 = omega arith in
    λ i. f (e i) ++ f (2 * p + 1)

pub returns : goal.returns
returns g c x hx h1 h2 =
    let r = g.F.RingCore.ring in
    let p = c.args.p in
    subst (Pushed r _ _) (two_are p (λ n. half_cells x n c.args.g))
    (push_both r (c.in_ok-push_half.ensures x (state x (2 * p)) hx h1) (c.in_ok-push_half-2.ensures x (state x (2 * p + 1)) hx h2))
