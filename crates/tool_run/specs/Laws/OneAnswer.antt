-- A program has one answer where words name at most one command and each command has one: of bytes by the grammar whose texts it reads.
use Rattle.std.proofs.Common.{◌≡◌, ℕ, List, [], ◌∷◌, length, get_or, refl, sym, ◌∙◌, ap, subst, arith, inl, inr}
use Rattle.std.specs.Prelude.{◌⊎◌}
use Rattle.std.proofs.lemmas.List.{append-nil}
use Rattle.tool_lines.specs.Texts.{line_text, Grammar}
use Rattle.tool_lines.specs.WholeText.{IsFaultLine}
use Rattle.tool_lines.specs.Laws.Tells.{one-fault, texts-tell}
use Rattle.tool_run.specs.BadInput.{IsBadInput, bad_input_text}
use Rattle.tool_run.specs.Program.{Program}
use Rattle.tool_run.specs.Run.{IsAnswer, NamesSome}
use Rattle.tool_run.specs.Uniqueness.{AnswersOnce, HasOneAnswer, NameOneCommand}
use Rattle.tool_verifier.specs.FileAnswer.{SameAnswer}
use Rattle.tool_verifier.specs.declared.status.Status.{Status}
use Rattle.tool_verifier.specs.declared.status.Status.TheVariants.{Done, Refused, Usage, BadInput, ReadFault, WriteFault, OutOfMemory, TooLarge}

-- words are not two single words of different lengths
pub not-both : (words : List (List ℕ)) (v w : List ℕ) → (length v ≡ length w → ⊥) → words ≡ v ∷ [] → words ≡ w ∷ [] → ⊥
not-both words v w d p q = d (ap (λ l. length (get_or l 0 [])) (sym p ∙ q))

-- bytes that are no text have one line at fault, and so one text names it
one-line : {A : Type 0} (within : A → Type 0) (words : A → List ℕ) (bytes : List ℕ) (m n : ℕ) → IsFaultLine within words bytes m → IsFaultLine within words bytes n → m ≡ n
one-line within words bytes m n a b =
    one-fault {within = within} {words = words} {bytes = bytes} 0 m n (record { own = m; fault = a; counted = omega arith }) (record { own = n; fault = b; counted = omega arith })

pub one-bad-text : {A : Type 0} (within : A → Type 0) (words : A → List ℕ) (bytes x y : List ℕ) → IsBadInput within words bytes x → IsBadInput within words bytes y → x ≡ y
one-bad-text within words bytes x y a b = a.1.2 ∙ (ap bad_input_text (one-line within words bytes a.1.0 b.1.0 a.1.1 b.1.1) ∙ sym b.1.2)

-- a text is the text of one value alone
one-value : {A : Type 0} {within : A → Type 0} {words : A → List ℕ} → Grammar within words → (v w : A) → within v → within w
    → line_text (words v) ≡ line_text (words w) → v ≡ w
one-value {A} {within} {words} g v w p q e = (texts-tell g v w [] [] p q (append-nil (line_text (words v)) ∙ (e ∙ sym (append-nil (line_text (words w)))))).0

-- the answer to the bytes of an input: what is said of bad input, or the answer of the value whose text they are
abbrev pub TextAnswer : {A : Type 0} (within : A → Type 0) (words : A → List ℕ) (answer : A → Status → List ℕ → Type 0) → List ℕ → Status → List ℕ → Type 0
TextAnswer {A} within words answer bytes s x = ((s ≡ BadInput) × IsBadInput within words bytes x) ⊎ ((v : A) × within v × (bytes ≡ line_text (words v)) × answer v s x)

-- it is one, where each value has one
pub one-text : {A : Type 0} {within : A → Type 0} {words : A → List ℕ} (answer : A → Status → List ℕ → Type 0) → Grammar within words
    → ((v : A) (s t : Status) (x y : List ℕ) → answer v s x → answer v t y → SameAnswer s t x y)
    → (bytes : List ℕ) (s t : Status) (x y : List ℕ) → TextAnswer within words answer bytes s x → TextAnswer within words answer bytes t y → SameAnswer s t x y
one-text {A} {within} {words} answer grammar one bytes s t x y (inl a) (inl b) = (a.0 ∙ sym b.0, one-bad-text within words bytes x y a.1 b.1)
one-text {A} {within} {words} answer grammar one bytes s t x y (inl a) (inr b) = absurd (a.1.0 b.0 b.1 b.2)
one-text {A} {within} {words} answer grammar one bytes s t x y (inr a) (inl b) = absurd (b.1.0 a.0 a.1 a.2)
one-text {A} {within} {words} answer grammar one bytes s t x y (inr a) (inr b) =
    let same : b.0 ≡ a.0 = one-value grammar b.0 a.0 b.1 a.1 (sym b.2 ∙ a.2) in
    one a.0 s t x y a.3 (subst (λ v. answer v t y) same b.3)

module _ {C : Type 0} (p : Program C) where
  -- the answer to words: the text for those that name no command, or the answer of the command that they name
  abbrev WordsAnswer : List (List ℕ) → List ℕ → Status → List ℕ → Type 0
  WordsAnswer words bytes s x = ((s ≡ Usage) × (NamesSome p words → ⊥) × (x ≡ p.usage)) ⊎ ((c : C) × p.names words c × p.answers c bytes s x)

  words-view : (words : List (List ℕ)) (bytes : List ℕ) (s : Status) (x : List ℕ) → IsAnswer p words bytes s x → WordsAnswer words bytes s x
  words-view words bytes Usage x a = inl (refl, a.0, a.1)
  words-view words bytes Done x a = inr a
  words-view words bytes Refused x a = inr a
  words-view words bytes BadInput x a = inr a
  words-view words bytes ReadFault x a = inr a
  words-view words bytes WriteFault x a = inr a
  words-view words bytes OutOfMemory x a = inr a
  words-view words bytes TooLarge x a = inr a

  one-of-words : (words : List (List ℕ)) (bytes : List ℕ) → NameOneCommand p words → ((c : C) → AnswersOnce p c)
      → (s t : Status) (x y : List ℕ) → WordsAnswer words bytes s x → WordsAnswer words bytes t y → SameAnswer s t x y
  one-of-words words bytes name once s t x y (inl a) (inl b) = (a.0 ∙ sym b.0, a.2 ∙ sym b.2)
  one-of-words words bytes name once s t x y (inl a) (inr b) = absurd (a.1 (b.0, b.1))
  one-of-words words bytes name once s t x y (inr a) (inl b) = absurd (b.1 (a.0, a.1))
  one-of-words words bytes name once s t x y (inr a) (inr b) =
      let same : b.0 ≡ a.0 = name b.0 a.0 b.1 a.1 in
      once a.0 bytes s t x y a.2 (subst (λ c. p.answers c bytes t y) same b.2)

  pub one-answer : (words : List (List ℕ)) (bytes : List ℕ) → NameOneCommand p words → ((c : C) → AnswersOnce p c) → HasOneAnswer p words bytes
  one-answer words bytes name once s t x y a b = one-of-words words bytes name once s t x y (words-view words bytes s x a) (words-view words bytes t y b)
