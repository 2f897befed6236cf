-- Entries of an ordered map that keep the net of each bus and tuple.
use Rattle.std.specs.Prelude.{◌≡◌, ℕ, List, All, Option, Some, None}
use Rattle.p3_field.specs.Ring.{Ring}
use Rattle.p3_lookup.specs.Messages.{Message}
use Rattle.stark_balance.specs.Nets.{key}

-- each entry stands under the numbers of its message
abbrev pub AreKeyed : {K F : Type 0} → (numbers : K → List ℕ) → (canonical : F → ℕ) → List (K × Message F) → Type 0
AreKeyed {K = K} {F = F} numbers canonical es = All (λ (e : K × Message F). numbers e.0 ≡ key canonical e.1) es

-- the count that an entry has with one more, which is the first where there was none
abbrev pub count_with : {F : Type 0} → Ring F → Option (Message F) → F → F
count_with f None x = x
count_with f (Some n) x = f.add n.count x
