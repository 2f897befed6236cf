-- There is at most one answer to words and bytes.
use Rattle.std.specs.Prelude.{◌≡◌, ℕ, List}
use Rattle.batch_tool.specs.Answer.{IsAnswer}
use Rattle.tool_verifier.specs.declared.status.Status.{Status}

-- two answers to the same words and the same bytes are one
abbrev pub HasOneAnswer : List (List ℕ) → List ℕ → Type 0
HasOneAnswer words bytes = (s t : Status) (x y : List ℕ) → IsAnswer words bytes s x → IsAnswer words bytes t y → (s ≡ t) × (x ≡ y)
