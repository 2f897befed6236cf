-- There is at most one answer, a status and a text, to the words and the bytes of an input.
use Rattle.std.specs.Prelude.{◌≡◌, ◌⊎◌, ℕ, List, codes, refl}
use Rattle.std.proofs.Common.{sym, ◌∙◌, inl, inr, subst, arith}
use Rattle.serde_json.specs.Written.{compact_text}
use Rattle.tool_lines.specs.Texts.{line_text}
use Rattle.tool_proof_files.specs.Files.{FileData, FileWithin, file_numbers, version_of}
use Rattle.tool_proof_files.specs.Laws.Files.{file-grammar}
use Rattle.tool_run.specs.Laws.OneAnswer.{TextAnswer, not-both, one-answer, one-text}
use Rattle.tool_run.specs.Uniqueness.{AnswersOnce, HasOneAnswer, NameOneCommand}
use Rattle.tool_verifier.specs.FileAnswer.{IsFileAnswer, SameAnswer}
use Rattle.tool_verifier.specs.declared.status.Status.{Status}
use Rattle.tool_verifier.specs.declared.status.Status.TheVariants.{Done, Refused, Usage, BadInput, ReadFault, WriteFault, OutOfMemory, TooLarge}
use Rattle.json_proof_files.specs.Answer.{IsJsonOf}
use Rattle.json_proof_files.specs.FileTrees.{file_tree}
use Rattle.json_proof_files.specs.Laws.Readings.{one-file}
use Rattle.stark_json.specs.Answer.{IsBadJson, IsFromJsonAnswer, IsToJsonAnswer, IsVerifyJsonAnswer, Names, json_program}
use Rattle.stark_json.specs.Laws.Answers.{not-bad}
use Rattle.stark_json.specs.declared.command.Command.{Command}
use Rattle.stark_json.specs.declared.command.Command.TheVariants.{ToJson, FromJson, VerifyJson}

-- bytes that are no file's JSON are no JSON or JSON that is no file's, and not both
one-bad : (bytes x y : List ℕ) → IsBadJson bytes x → IsBadJson bytes y → x ≡ y
one-bad bytes x y (inl a) (inl b) = a.1 ∙ sym b.1
one-bad bytes x y (inl a) (inr b) = absurd (a.0 b.0.0 b.0.1)
one-bad bytes x y (inr a) (inl b) = absurd (b.0 a.0.0 a.0.1)
one-bad bytes x y (inr a) (inr b) = a.1 ∙ sym b.1

-- the answer to bytes that are to be JSON: what is said of bad JSON, or the answer of the file whose JSON they are
abbrev JsonAnswer : (answer : FileData → Status → List ℕ → Type 0) → List ℕ → Status → List ℕ → Type 0
JsonAnswer answer bytes s x = ((s ≡ BadInput) × IsBadJson bytes x) ⊎ ((file : FileData) × IsJsonOf bytes file × answer file s x)

-- each file has one answer
abbrev EachOnce : (answer : FileData → Status → List ℕ → Type 0) → Type 0
EachOnce answer = (file : FileData) (s t : Status) (x y : List ℕ) → answer file s x → answer file t y → SameAnswer s t x y

one-json : (answer : FileData → Status → List ℕ → Type 0) → EachOnce answer
    → (bytes : List ℕ) (s t : Status) (x y : List ℕ) → JsonAnswer answer bytes s x → JsonAnswer answer bytes t y → SameAnswer s t x y
one-json answer one bytes s t x y (inl a) (inl b) = (a.0 ∙ sym b.0, one-bad bytes x y a.1 b.1)
one-json answer one bytes s t x y (inl a) (inr b) = absurd (not-bad bytes x b.0 b.1 a.1)
one-json answer one bytes s t x y (inr a) (inl b) = absurd (not-bad bytes y a.0 a.1 b.1)
one-json answer one bytes s t x y (inr a) (inr b) =
    let same : b.0 ≡ a.0 = one-file bytes b.0 a.0 b.1 a.1 in
    one a.0 s t x y a.2 (subst (λ f. answer f t y) same b.2)

-- a text that is made of the file
abbrev Made : (made : FileData → List ℕ) → FileData → Status → List ℕ → Type 0
Made made file s x = (s ≡ Done) × (x ≡ made file)

made-once : (made : FileData → List ℕ) → EachOnce (Made made)
made-once made file s t x y a b = (a.0 ∙ sym b.0, a.1 ∙ sym b.1)

abbrev lines_of : FileData → List ℕ
lines_of file = line_text (file_numbers file)

abbrev json_of : FileData → List ℕ
json_of file = compact_text (file_tree file)

abbrev IsVerdict : FileData → Status → List ℕ → Type 0
IsVerdict file s x = IsFileAnswer (version_of file.version) file.tables file.proof s x

to-view : (bytes : List ℕ) (s : Status) (x : List ℕ) → IsToJsonAnswer bytes s x → TextAnswer FileWithin file_numbers (Made json_of) bytes s x
to-view bytes Done x a = inr (a.0, a.3.0, a.1, (refl, a.2))
to-view bytes BadInput x a = inl (refl, a)
to-view bytes Refused x a = absurd a
to-view bytes Usage x a = absurd a
to-view bytes ReadFault x a = absurd a
to-view bytes WriteFault x a = absurd a
to-view bytes OutOfMemory x a = absurd a
to-view bytes TooLarge x a = absurd a

from-view : (bytes : List ℕ) (s : Status) (x : List ℕ) → IsFromJsonAnswer bytes s x → JsonAnswer (Made lines_of) bytes s x
from-view bytes Done x a = inr (a.0, a.1, (refl, a.2))
from-view bytes BadInput x a = inl (refl, a)
from-view bytes Refused x a = absurd a
from-view bytes Usage x a = absurd a
from-view bytes ReadFault x a = absurd a
from-view bytes WriteFault x a = absurd a
from-view bytes OutOfMemory x a = absurd a
from-view bytes TooLarge x a = absurd a

verify-view : (bytes : List ℕ) (s : Status) (x : List ℕ) → IsVerifyJsonAnswer bytes s x → JsonAnswer IsVerdict bytes s x
verify-view bytes BadInput x a = inl (refl, a)
verify-view bytes Done x a = inr (a.0, a.1, a.2)
verify-view bytes Refused x a = inr (a.0, a.1, a.2)
verify-view bytes Usage x a = inr (a.0, a.1, a.2)
verify-view bytes ReadFault x a = inr (a.0, a.1, a.2)
verify-view bytes WriteFault x a = inr (a.0, a.1, a.2)
verify-view bytes OutOfMemory x a = inr (a.0, a.1, a.2)
verify-view bytes TooLarge x a = inr (a.0, a.1, a.2)

-- where `verify` has one answer for each file
abbrev pub OneVerdict : Type 0
OneVerdict = (file : FileData) (s t : Status) (x y : List ℕ) → IsFileAnswer (version_of file.version) file.tables file.proof s x
    → IsFileAnswer (version_of file.version) file.tables file.proof t y → SameAnswer s t x y

once : OneVerdict → (command : Command) → AnswersOnce json_program command
once verdicts ToJson bytes s t x y a b = one-text (Made json_of) file-grammar (made-once json_of) bytes s t x y (to-view bytes s x a) (to-view bytes t y b)
once verdicts FromJson bytes s t x y a b = one-json (Made lines_of) (made-once lines_of) bytes s t x y (from-view bytes s x a) (from-view bytes t y b)
once verdicts VerifyJson bytes s t x y a b = one-json IsVerdict verdicts bytes s t x y (verify-view bytes s x a) (verify-view bytes t y b)

to-from : (words : List (List ℕ)) → Names words ToJson → Names words FromJson → ⊥
to-from words p q = not-both words (codes "to-json") (codes "from-json") (λ e. omega (arith, e)) p q

to-verify : (words : List (List ℕ)) → Names words ToJson → Names words VerifyJson → ⊥
to-verify words p q = not-both words (codes "to-json") (codes "verify-json") (λ e. omega (arith, e)) p q

from-verify : (words : List (List ℕ)) → Names words FromJson → Names words VerifyJson → ⊥
from-verify words p q = not-both words (codes "from-json") (codes "verify-json") (λ e. omega (arith, e)) p q

name : (words : List (List ℕ)) (c d : Command) → Names words c → Names words d → c ≡ d
name words ToJson ToJson p q = refl
name words ToJson FromJson p q = absurd (to-from words p q)
name words ToJson VerifyJson p q = absurd (to-verify words p q)
name words FromJson ToJson p q = absurd (to-from words q p)
name words FromJson FromJson p q = refl
name words FromJson VerifyJson p q = absurd (from-verify words p q)
name words VerifyJson ToJson p q = absurd (to-verify words q p)
name words VerifyJson FromJson p q = absurd (from-verify words q p)
name words VerifyJson VerifyJson p q = refl

pub one-name : (words : List (List ℕ)) → NameOneCommand json_program words
one-name words c d p q = name words c d p q

-- the words and the bytes of an input have one status and one text
pub one-answer-of-json : OneVerdict → (words : List (List ℕ)) (bytes : List ℕ) → HasOneAnswer json_program words bytes
one-answer-of-json verdicts words bytes = one-answer json_program words bytes (one-name words) (once verdicts)
