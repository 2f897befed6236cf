-- What a command answers for bytes that are no text of its grammar.
use Rattle.std.specs.Prelude.{◌≡◌, ℕ, List, [], ◌∷◌, ◌++◌, codes, decimal}
use Rattle.tool_lines.specs.WholeText.{IsNoText, IsFaultLine}

-- the text that names the line at fault
abbrev pub bad_input_text : ℕ → List ℕ
bad_input_text line = codes "bad input at line " ++ decimal line ++ 10 ∷ []

-- the text for bytes that are the text of no value: it names the line of the fault
abbrev pub IsBadInput : {A : Type 0} (within : A → Type 0) (words : A → List ℕ) → List ℕ → List ℕ → Type 0
IsBadInput within words bytes text = IsNoText within words bytes × ((line : ℕ) × IsFaultLine within words bytes line × (text ≡ bad_input_text line))
