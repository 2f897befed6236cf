-- A whole text, and the line of its fault.
use Rattle.std.specs.Prelude.{◌≡◌, ◌≢◌, ℕ, ◌+◌, ◌≤◌, List, ◌++◌, length, take, drop, count_by, ◌==◌, Result, Ok, Err, MatchResult, ⊤}
use Rattle.tool_lines.specs.Texts.{line_text}
use Rattle.tool_lines.specs.declared.parse.TextError.{TextError}
use Rattle.tool_lines.specs.declared.parse.TextError.TheVariants.{Line, OutOfMemory}

-- some lines are the front of the lines of a value within the limits
pub record Begins {A : Type 0} (within : A → Type 0) (words : A → List ℕ) (lines : List ℕ) : Type 0 where
  pub some : A
  pub fits : within some
  pub missing : List ℕ
  pub begins : words some ≡ lines ++ missing

-- The line of the fault: one more than the greatest number of whole lines at the input's start that begin some value's text.
pub record IsFaultLine {A : Type 0} (within : A → Type 0) (words : A → List ℕ) (bytes : List ℕ) (line : ℕ) : Type 0 where
  pub lines : List ℕ
  pub rest : List ℕ
  pub text : bytes ≡ line_text lines ++ rest
  pub begins : Begins within words lines
  pub number : line ≡ length lines + 1
  pub greatest : (more after : List ℕ) → bytes ≡ line_text more ++ after → Begins within words more → length more ≤ length lines

-- the bytes are the text of no value
abbrev pub IsNoText : {A : Type 0} (within : A → Type 0) (words : A → List ℕ) → List ℕ → Type 0
IsNoText {A} within words bytes = (v : A) → within v → bytes ≢ line_text (words v)

-- a read of a whole text, where `data_of` gives a value's data: the value whose text the bytes are, or the line of the fault where they
-- are the text of none
abbrev pub ReadsText : {A D : Type 0} (data_of : A → D) (within : D → Type 0) (words : D → List ℕ) → List ℕ → Result A TextError → Type 0
ReadsText data_of within words bytes (Ok v) = within (data_of v) × (bytes ≡ line_text (words (data_of v)))
ReadsText data_of within words bytes (Err (Line line)) = IsNoText within words bytes × IsFaultLine within words bytes line
ReadsText data_of within words bytes (Err OutOfMemory) = ⊤

-- how many lines end before a place
abbrev pub lines_before : List ℕ → ℕ → ℕ
lines_before bytes from = count_by (λ b. b == 10) (take from bytes)

-- The line of the fault of the text that begins at a place: it is counted from the first byte of all.
pub record IsFaultLineFrom {A : Type 0} (within : A → Type 0) (words : A → List ℕ) (bytes : List ℕ) (from line : ℕ) : Type 0 where
  pub own : ℕ
  pub fault : IsFaultLine within words (drop from bytes) own
  pub counted : line ≡ lines_before bytes from + own

-- the same as `ReadsText`, of the text from a place to the end
abbrev pub ReadsTextFrom : {A D : Type 0} (data_of : A → D) (within : D → Type 0) (words : D → List ℕ) → List ℕ → ℕ → Result A TextError → Type 0
ReadsTextFrom data_of within words bytes from (Ok v) = within (data_of v) × (drop from bytes ≡ line_text (words (data_of v)))
ReadsTextFrom data_of within words bytes from (Err (Line line)) = IsNoText within words (drop from bytes) × IsFaultLineFrom within words bytes from line
ReadsTextFrom data_of within words bytes from (Err OutOfMemory) = ⊤

-- the whole text is read back as the value: whatever a read of it answers is this value, or out of memory
abbrev pub ReadsBack : {A : Type 0} (within : A → Type 0) (words : A → List ℕ) → List ℕ → A → Type 0
ReadsBack {A} within words bytes v =
    (read : Result A TextError) → ReadsText (λ w. w) within words bytes read → MatchResult read (λ w. w ≡ v) (λ e. e ≡ OutOfMemory)

-- the same of the text from a place to the end
abbrev pub ReadsBackFrom : {A : Type 0} (within : A → Type 0) (words : A → List ℕ) → List ℕ → ℕ → A → Type 0
ReadsBackFrom {A} within words bytes from v =
    (read : Result A TextError) → ReadsTextFrom (λ w. w) within words bytes from read → MatchResult read (λ w. w ≡ v) (λ e. e ≡ OutOfMemory)

-- a text tells the value, and where it ends: no value's text is the front of another's
abbrev pub TextsTell : {A : Type 0} (within : A → Type 0) (words : A → List ℕ) → Type 0
TextsTell {A} within words = (v w : A) (x y : List ℕ) → within v → within w → line_text (words v) ++ x ≡ line_text (words w) ++ y → (v ≡ w) × (x ≡ y)
