-- What is answered for bytes that are no text, from what the reading says of them.
use Rattle.std.proofs.Common.{◌≡◌, ℕ, List, refl, Result, Ok, Err}
use Rattle.std.proofs.lemmas.Bool.{false≢true}
use Rattle.std.specs.Prelude.{IfOk, IsErr}
use Rattle.std.specs.declared.alloc.AllocError.{AllocError}
use Rattle.tool_lines.specs.WholeText.{ReadsText}
use Rattle.tool_lines.specs.declared.parse.TextError.{TextError}
use Rattle.tool_lines.specs.declared.parse.TextError.TheVariants.{Line, OutOfMemory as NoMemory}
use Rattle.tool_verifier.specs.declared.answer.Answer.{Answer}
use Rattle.tool_verifier.specs.declared.status.Status.TheVariants.{BadInput}
use Rattle.tool_run.specs.BadInput.{IsBadInput, bad_input_text}

-- bytes that are no text of a command's grammar, where the reading ends so and the text says so
pub bad-answers : {A T : Type 0} (data_of : T → A) (within : A → Type 0) (words : A → List ℕ) (bytes : List ℕ) (e : TextError) (r : Result Answer AllocError)
    → ReadsText data_of within words bytes (Err e)
    → ((at : ℕ) → e ≡ Line at → IfOk r (λ a. (a.status ≡ BadInput) × (a.text.items ≡ bad_input_text at))) → (e ≡ NoMemory → IsErr r)
    → IfOk r (λ a. (a.status ≡ BadInput) × IsBadInput within words bytes a.text.items)
bad-answers data_of within words bytes (Line line) (Ok a) read bad memory = let f = bad line refl in (f.0, (read.0, (line, read.1, f.1)))
bad-answers data_of within words bytes NoMemory (Ok a) read bad memory = absurd (false≢true (memory refl))
bad-answers data_of within words bytes e (Err x) read bad memory = tt
