-- What texts tell: the value, and where it ends; and that bytes have one line of fault.
use Rattle.std.specs.Prelude.{◌≡◌, ℕ, ◌≤◌, List, [], ◌++◌, length}
use Rattle.std.proofs.Common.{sym, ap, ◌∙◌, arith, inl, inr}
use Rattle.std.proofs.lemmas.Bool.{cases_lt}
use Rattle.std.proofs.lemmas.List.{append-nil}
use Rattle.tool_lines.specs.Texts.{line_text, Grammar}
use Rattle.tool_lines.specs.WholeText.{IsFaultLine, IsFaultLineFrom, TextsTell}
use Rattle.tool_lines.specs.Laws.Lines.{lines-tell}

-- where the first text has no more lines than the second
shorter-tells : {A : Type 0} {within : A → Type 0} {words : A → List ℕ} → Grammar within words → (v w : A) (x y : List ℕ) → within v → within w
    → length (words v) ≤ length (words w) → line_text (words v) ++ x ≡ line_text (words w) ++ y → (v ≡ w) × (x ≡ y)
shorter-tells {A} {within} {words} g v w x y p q short e =
    let t = lines-tell (words v) (words w) x y (g.small v p) (g.small w q) short e in
    let same = g.tells v w t.more [] p q (sym t.numbers ∙ sym (append-nil (words w))) in
    (same.0, t.text ∙ ap (λ (l : List ℕ). line_text l ++ y) same.1)

pub texts-tell : {A : Type 0} {within : A → Type 0} {words : A → List ℕ} → Grammar within words → TextsTell within words
texts-tell {A} {within} {words} g v w x y p q e = elim (cases_lt (length (words v)) (length (words w))) [
  | inl h ↦ shorter-tells g v w x y p q (omega (arith, h)) e
  | inr h ↦ let t = shorter-tells g w v y x q p h (sym e) in (sym t.0, sym t.1)
]

-- bytes have at most one line of fault
one-line : {A : Type 0} {within : A → Type 0} {words : A → List ℕ} {bytes : List ℕ} (l m : ℕ) → IsFaultLine within words bytes l → IsFaultLine within words bytes m → l ≡ m
one-line l m a b =
    let less : length a.lines ≤ length b.lines = b.greatest a.lines a.rest a.text a.begins in
    let more : length b.lines ≤ length a.lines = a.greatest b.lines b.rest b.text b.begins in
    omega (arith, less, more, a.number, b.number)

pub one-fault : {A : Type 0} {within : A → Type 0} {words : A → List ℕ} {bytes : List ℕ} (from l m : ℕ) → IsFaultLineFrom within words bytes from l → IsFaultLineFrom within words bytes from m → l ≡ m
one-fault from l m a b = let own : a.own ≡ b.own = one-line a.own b.own a.fault b.fault in omega (arith, a.counted, b.counted, own)
