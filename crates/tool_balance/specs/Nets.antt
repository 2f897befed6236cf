-- The line that says whether the nets of messages are zero (not in Plonky3).
use Rattle.std.specs.Prelude.{ℕ, List, [], ◌∷◌, ◌++◌, Option, None, Some, length, map, codes, decimal, nat_eq, if◌then◌else◌}
use Rattle.p3_field.specs.declared.baby_bear.BabyBear.{BabyBear}
use Rattle.p3_lookup.specs.Messages.{Message}
use Rattle.tool_verifier.specs.Refusals.{spaced}

-- the first net that isn't zero
abbrev pub first_left : List (Message BabyBear) → Option (Message BabyBear)
first_left [] = None
first_left (m ∷ ms) = if nat_eq m.count.value 0 then first_left ms else Some m

-- where all nets are zero: their number
abbrev pub balanced_line : (nets : ℕ) → List ℕ
balanced_line nets = codes "balanced " ++ decimal nets ++ 10 ∷ []

-- where this is the first that isn't: its bus, and the canonical numbers of its tuple
abbrev pub unbalanced_line : Message BabyBear → List ℕ
unbalanced_line m = codes "unbalanced " ++ decimal m.bus ++ spaced (map (λ x. x.value) m.tuple) ++ 10 ∷ []

abbrev pub line_with : (nets : ℕ) → Option (Message BabyBear) → List ℕ
line_with nets None = balanced_line nets
line_with nets (Some m) = unbalanced_line m

-- the line of these nets
abbrev pub nets_line : List (Message BabyBear) → List ℕ
nets_line nets = line_with (length nets) (first_left nets)
