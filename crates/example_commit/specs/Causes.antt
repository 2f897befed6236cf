-- Causes to refuse, of which there is one.
use Rattle.std.specs.Prelude.{◌≡◌, ◌⊎◌, ℕ, ◌<◌, List, Some, slice_get}
use Rattle.commit_core.specs.Failure.{NoneOf}

-- e is a cause, and the only one
pub record IsCause {E : Type 0} (faults : E → Type 0) (e : E) : Type 0 where
  pub is_cause : faults e
  pub only : (g : E) → faults g → g ≡ e

-- Of two calls, where the second takes what the first gave: the first is refused for this one cause, or the second is, of
-- something that the first may give.
abbrev pub CauseInTurn : {U E : Type 0} → (E → Type 0) → (U → Type 0) → (U → E → Type 0) → E → Type 0
CauseInTurn first gives second e = IsCause first e ⊎ (NoneOf first × ((u : _) × gives u × IsCause (second u) e))

-- e is the cause for the first item that is refused
pub record IsCauseOfFirstRefused {X E : Type 0} (faults : X → E → Type 0) (xs : List X) (e : E) : Type 0 where
  pub place : ℕ
  pub item : X
  pub is_item : slice_get xs place ≡ Some item
  pub cause : faults item e
  pub earlier : (j : ℕ) (x : X) → j < place → slice_get xs j ≡ Some x → NoneOf (faults x)
