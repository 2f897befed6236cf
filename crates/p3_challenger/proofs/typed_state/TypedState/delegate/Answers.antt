use Rattle.std.proofs.Common.{ap, refl}
use Rattle.p3_challenger.proofs.typed_state.TypedState.delegate.Goals as goal

pub returns-clause-run : goal.returns-clause-run
returns-clause-run g c = record { shown = _; shows = ap (λ p. p.state) c.self.view_is; left = _; met = c.run.ensures; leaves = refl }
