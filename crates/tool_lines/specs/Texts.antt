-- Texts: a line for each number. A value has numbers, and its text is their lines.
use Rattle.std.specs.Prelude.{◌≡◌, ℕ, ◌^◌, ◌<◌, ◌≤◌, List, [], ◌∷◌, ◌++◌, length, All, flat_map, decimal, Result, MatchResult, Option, None, Some, ⊤}
use Rattle.p3_field.specs.declared.baby_bear.BabyBear.{BabyBear}
use Rattle.p3_field.specs.declared.quartic.QuarticExtension.{QuarticExtension}
use Rattle.tool_lines.specs.declared.texts.ItemError.{ItemError}
use Rattle.tool_lines.specs.declared.texts.ItemError.TheVariants.{Malformed}

-- a line for each number: its decimal digits and LF
abbrev pub line_text : List ℕ → List ℕ
line_text [] = []
line_text (n ∷ ns) = decimal n ++ 10 ∷ line_text ns

-- one number
abbrev pub one_number : ℕ → List ℕ
one_number n = n ∷ []

-- a number from `least` to `most`
abbrev pub Between : ℕ → ℕ → ℕ → Type 0
Between least most n = (least ≤ n) × (n ≤ most)

-- a field element: its canonical number
abbrev pub element_numbers : BabyBear → List ℕ
element_numbers x = x.value ∷ []

-- an element of the extension: its four coefficients
abbrev pub extension_numbers : QuarticExtension → List ℕ
extension_numbers x = x.c0.value ∷ x.c1.value ∷ x.c2.value ∷ x.c3.value ∷ []

-- every value of a type is within its limits
abbrev pub Unlimited : {A : Type 0} → A → Type 0
Unlimited x = ⊤

-- items, one after the other
abbrev pub items_numbers : {A : Type 0} → (A → List ℕ) → List A → List ℕ
items_numbers words xs = flat_map words xs

-- so many items, each within its limits
abbrev pub ItemsWithin : {A : Type 0} → ℕ → (A → Type 0) → List A → Type 0
ItemsWithin count within xs = (length xs ≡ count) × All within xs

-- a list: its count and its items
abbrev pub list_numbers : {A : Type 0} → (A → List ℕ) → List A → List ℕ
list_numbers words xs = length xs ∷ items_numbers words xs

-- a list of `least` to `most` items, each within its limits
abbrev pub ListWithin : {A : Type 0} → ℕ → ℕ → (A → Type 0) → List A → Type 0
ListWithin least most within xs = Between least most (length xs) × All within xs

-- a value that may be absent: 0, or 1 and the value
abbrev pub option_numbers : {A : Type 0} → (A → List ℕ) → Option A → List ℕ
option_numbers words None = 0 ∷ []
option_numbers words (Some x) = 1 ∷ words x

abbrev pub OptionWithin : {A : Type 0} → (A → Type 0) → Option A → Type 0
OptionWithin within None = ⊤
OptionWithin within (Some x) = within x

-- numbers of at most 64 bits
abbrev pub Small : List ℕ → Type 0
Small ns = All (λ n. n < 2 ^ 64) ns

-- Values and their numbers: some value is within the limits, the numbers are small, and a value's numbers tell the value and where they end.
pub record Grammar {A : Type 0} (within : A → Type 0) (words : A → List ℕ) : Type 0 where
  pub some : A
  pub some_fits : within some
  pub small : (v : A) → within v → Small (words v)
  pub tells : (v w : A) (x y : List ℕ) → within v → within w → words v ++ x ≡ words w ++ y → (v ≡ w) × (x ≡ y)

-- the text's front is the lines of a value within the limits, and `new` is the rest
pub record Reads {A : Type 0} (within : A → Type 0) (words : A → List ℕ) (old new : List ℕ) (value : A) : Type 0 where
  pub fits : within value
  pub text : old ≡ line_text (words value) ++ new

-- The text's front is lines that begin some value's, which has more, and `new`, the rest, begins with no line that goes on.
pub record Stops {A : Type 0} (within : A → Type 0) (words : A → List ℕ) (old new : List ℕ) : Type 0 where
  pub read : List ℕ
  pub text : old ≡ line_text read ++ new
  pub some : A
  pub some_fits : within some
  pub next : ℕ
  pub missing : List ℕ
  pub begins : words some ≡ read ++ next ∷ missing
  pub stuck : (n : ℕ) (rest : List ℕ) → new ≡ decimal n ++ 10 ∷ rest → (v : A) → within v → (x y : List ℕ) → words v ++ x ≡ read ++ n ∷ y → ⊥

-- what a call that reads one value off a text did, where `data_of` gives the value's data
abbrev pub ReadsOne : {A D : Type 0} (data_of : A → D) (within : D → Type 0) (words : D → List ℕ) (old new : List ℕ) → Result A ItemError → Type 0
ReadsOne data_of within words old new result = MatchResult result (λ v. Reads within words old new (data_of v)) (λ e. e ≡ Malformed → Stops within words old new)

-- the same of a call that takes no memory: its one error is `Malformed`
abbrev pub ReadsKnown : {A : Type 0} (within : A → Type 0) (words : A → List ℕ) (old new : List ℕ) → Result A ItemError → Type 0
ReadsKnown within words old new result = MatchResult result (λ v. Reads within words old new v) (λ e. (e ≡ Malformed) × Stops within words old new)
