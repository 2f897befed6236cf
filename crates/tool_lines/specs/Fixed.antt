-- Parts of a text that the reader knows: numbers that are always the same, and how many values a list has.
use Rattle.std.specs.Prelude.{ℕ, List, ◌++◌}
use Rattle.tool_lines.specs.Texts.{items_numbers}

-- numbers that are always the same
abbrev pub fixed_numbers : List ℕ → Unit {0} → List ℕ
fixed_numbers numbers u = numbers

-- the items of a list after numbers that are always the same
abbrev pub headed_numbers : {A : Type 0} → List ℕ → (A → List ℕ) → List A → List ℕ
headed_numbers head words xs = head ++ items_numbers words xs
