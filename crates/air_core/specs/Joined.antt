-- Lists one after another.
use Rattle.std.specs.Prelude.{ℕ, zero, suc, List, [], ◌++◌}

-- the lists t 0, .., t (n - 1) one after another
unfoldable pub joined : {A : Type 0} → ℕ → (ℕ → List A) → List A
joined zero t = []
joined (suc n) t = joined n t ++ t n
