-- A value's text is read back as the value.
use Rattle.std.specs.Prelude.{◌≡◌, ℕ, List, [], ◌++◌, length, drop, Result, Ok, Err}
use Rattle.std.proofs.Common.{sym, ◌∙◌, ap, refl}
use Rattle.std.proofs.Math.Seq.{drop-append_seam}
use Rattle.tool_lines.specs.Texts.{line_text, Grammar}
use Rattle.tool_lines.specs.WholeText.{ReadsBack, ReadsBackFrom}
use Rattle.tool_lines.specs.Laws.Tells.{texts-tell}
use Rattle.tool_lines.specs.declared.parse.TextError.{TextError}
use Rattle.tool_lines.specs.declared.parse.TextError.TheVariants.{Line, OutOfMemory}

-- of a text that is a value's alone
pub text-reads-back : {A : Type 0} {within : A → Type 0} {words : A → List ℕ} → Grammar within words → (v : A) (bytes : List ℕ) → within v
    → bytes ≡ line_text (words v) → ReadsBack within words bytes v
text-reads-back {A} {within} {words} g v bytes fits text (Ok a) h =
    (texts-tell g a v [] [] h.0 fits (ap (λ (l : List ℕ). l ++ []) (sym h.1 ∙ text))).0
text-reads-back {A} {within} {words} g v bytes fits text (Err (Line line)) h = absurd (h.0 v fits text)
text-reads-back g v bytes fits text (Err OutOfMemory) h = refl

-- of a value's text after other bytes
pub part-reads-back : {A : Type 0} {within : A → Type 0} {words : A → List ℕ} → Grammar within words → (v : A) (front bytes : List ℕ) → within v
    → bytes ≡ front ++ line_text (words v) → ReadsBackFrom within words bytes (length front) v
part-reads-back {A} {within} {words} g v front bytes fits text = go
  where
    part : drop (length front) bytes ≡ line_text (words v)
    part = ap (λ (l : List ℕ). drop (length front) l) text ∙ drop-append_seam front (line_text (words v))

    go : ReadsBackFrom within words bytes (length front) v
    go (Ok a) h = (texts-tell g a v [] [] h.0 fits (ap (λ (l : List ℕ). l ++ []) (sym h.1 ∙ part))).0
    go (Err (Line line)) h = absurd (h.0 v fits part)
    go (Err OutOfMemory) h = refl
