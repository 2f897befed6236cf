-- The line of a text's fault.
use Rattle.std.proofs.Common.{◌≡◌, ℕ, ◌+◌, ◌-◌, ◌<◌, ◌≤◌, List, [], ◌∷◌, ◌++◌, length, take, drop, sym, ◌∙◌, ap, subst, arith, append_assoc, refl, Bool, false, Result, Ok, Err}
use Rattle.std.specs.Prelude.{decimal, count_by, cond, ◌==◌}
use Rattle.std.proofs.lemmas.Grind.{common_steps}
use Rattle.std.proofs.lemmas.List.Sums.{sum_by-append}
use Rattle.std.proofs.Math.Seq.{take-add}
use Rattle.std.proofs.lemmas.List.{nil_from_length, append-nil, take_all}
use Rattle.tool_lines.specs.Texts.{line_text, Reads, Stops, Small, Grammar}
use Rattle.tool_lines.specs.WholeText.{Begins, IsFaultLine, IsNoText, lines_before, IsFaultLineFrom, ReadsText, ReadsTextFrom}
use Rattle.tool_lines.specs.declared.parse.TextError.{TextError}
use Rattle.tool_lines.specs.declared.parse.TextError.TheVariants.{Line, OutOfMemory}
use Rattle.tool_lines.specs.Laws.Lines.{Longer, lines-tell}
use Rattle.tool_lines.proofs.Lines.{small-front, count-read}

nothing-after : (n : ℕ) (xs ys : List ℕ) → [] ≡ xs ++ n ∷ ys → ⊥
nothing-after n xs ys e = let l : 0 ≡ length (xs ++ n ∷ ys) = ap (λ (t : List ℕ). length t) e in grind (arith, common_steps, l)

begins-small : {A : Type 0} {within : A → Type 0} {words : A → List ℕ} → Grammar within words → (lines : List ℕ) → Begins within words lines → Small lines
begins-small g lines b = small-front lines b.missing (subst (λ (l : List ℕ). Small l) b.begins (g.small b.some b.fits))

begins-whole : {A : Type 0} {within : A → Type 0} {words : A → List ℕ} (v : A) → within v → Begins within words (words v)
begins-whole {A} {within} {words} v fits = record { some = v; fits = fits; missing = []; begins = sym (append-nil (words v)) }

begins-stop : {A : Type 0} {within : A → Type 0} {words : A → List ℕ} {bytes new : List ℕ} → (s : Stops within words bytes new) → Begins within words s.read
begins-stop s = record { some = s.some; fits = s.some_fits; missing = s.next ∷ s.missing; begins = s.begins }

longer-stops : {A : Type 0} {within : A → Type 0} {words : A → List ℕ} {bytes new : List ℕ} (s : Stops within words bytes new) (more after : List ℕ)
    → Begins within words more → Longer s.read more new after → length s.read < length more → ⊥
longer-stops {A} {within} {words} {bytes} {new} s more after m t h = go t.more t.numbers t.text
  where
    go : (zs : List ℕ) → more ≡ s.read ++ zs → new ≡ line_text zs ++ after → ⊥
    go [] e f = let l : length more ≡ length s.read = ap (λ (k : List ℕ). length k) (e ∙ append-nil s.read) in omega (arith, l, h)
    go (n ∷ zs) e f = s.stuck n (line_text zs ++ after) (f ∙ append_assoc (decimal n) (10 ∷ line_text zs) after) m.some m.fits [] (zs ++ m.missing)
        (append-nil (words m.some) ∙ (m.begins ∙ (ap (λ (l : List ℕ). l ++ m.missing) e ∙ append_assoc s.read (n ∷ zs) m.missing)))

-- where the reading stopped
pub stop-is-fault : {A : Type 0} {within : A → Type 0} {words : A → List ℕ} {bytes new : List ℕ} → Grammar within words → (s : Stops within words bytes new)
    → IsFaultLine within words bytes (length s.read + 1)
stop-is-fault {A} {within} {words} {bytes} {new} g s =
    let b : Begins within words s.read = begins-stop s in
    record {
      lines = s.read;
      rest = new;
      text = s.text;
      begins = b;
      number = refl;
      greatest = λ more after e m.
          let far : length s.read < length more → ⊥ = λ h.
          let t = lines-tell s.read more new after (begins-small g s.read b) (begins-small g more m) (omega arith) (sym s.text ∙ e) in
          longer-stops s more after m t h in
          grind (arith, far);
    }

-- what stopped is no text
pub stop-is-no-text : {A : Type 0} {within : A → Type 0} {words : A → List ℕ} {bytes new : List ℕ} → Grammar within words → Stops within words bytes new → IsNoText within words bytes
unfolding stop-is-fault
stop-is-no-text {A} {within} {words} {bytes} {new} g s v fits e =
    let fault = stop-is-fault g s in
    let text : bytes ≡ line_text (words v) ++ [] = e ∙ sym (append-nil (line_text (words v))) in
    let short : length (words v) ≤ length s.read = fault.greatest (words v) [] text (begins-whole v fits) in
    let t = lines-tell (words v) s.read [] new (g.small v fits) (begins-small g s.read fault.begins) short (sym text ∙ s.text) in
    let same : words s.some ++ [] ≡ words v ++ (t.more ++ s.next ∷ s.missing)
    = append-nil (words s.some) ∙ (s.begins ∙ (ap (λ (l : List ℕ). l ++ s.next ∷ s.missing) t.numbers ∙ append_assoc (words v) t.more (s.next ∷ s.missing))) in
    nothing-after s.next t.more s.missing (g.tells s.some v [] (t.more ++ s.next ∷ s.missing) s.some_fits fits same).1

longer-reads : {A : Type 0} {within : A → Type 0} {words : A → List ℕ} → Grammar within words → (new : List ℕ) (v : A) → within v → (more after : List ℕ)
    → Begins within words more → Longer (words v) more new after → length (words v) < length more → ⊥
longer-reads {A} {within} {words} g new v fits more after m t h = go t.more t.numbers
  where
    go : (zs : List ℕ) → more ≡ words v ++ zs → ⊥
    go [] e = let l : length more ≡ length (words v) = ap (λ (k : List ℕ). length k) (e ∙ append-nil (words v)) in omega (arith, l, h)
    go (n ∷ zs) e =
        let same : words m.some ++ [] ≡ words v ++ (n ∷ (zs ++ m.missing))
        = append-nil (words m.some) ∙ (m.begins ∙ (ap (λ (l : List ℕ). l ++ m.missing) e ∙ append_assoc (words v) (n ∷ zs) m.missing)) in
        nothing-after n [] (zs ++ m.missing) (g.tells m.some v [] (n ∷ (zs ++ m.missing)) m.fits fits same).1

-- where something stands after a text
pub rest-is-fault : {A : Type 0} {within : A → Type 0} {words : A → List ℕ} {bytes new : List ℕ} {v : A} → Grammar within words → Reads within words bytes new v
    → IsFaultLine within words bytes (length (words v) + 1)
rest-is-fault {A} {within} {words} {bytes} {new} {v} g r = record {
  lines = words v;
  rest = new;
  text = r.text;
  begins = begins-whole v r.fits;
  number = refl;
  greatest = λ more after e m.
      let far : length (words v) < length more → ⊥ = λ h.
      let t = lines-tell (words v) more new after (g.small v r.fits) (begins-small g more m) (omega arith) (sym r.text ∙ e) in
      longer-reads g new v r.fits more after m t h in
      grind (arith, far);
}

-- what has something after it is no text
pub rest-is-no-text : {A : Type 0} {within : A → Type 0} {words : A → List ℕ} {bytes new : List ℕ} {v : A} → Grammar within words → Reads within words bytes new v
    → (new ≡ [] → ⊥) → IsNoText within words bytes
unfolding rest-is-fault
rest-is-no-text {A} {within} {words} {bytes} {new} {v} g r some w fits e =
    let fault = rest-is-fault g r in
    let text : bytes ≡ line_text (words w) ++ [] = e ∙ sym (append-nil (line_text (words w))) in
    let short : length (words w) ≤ length (words v) = fault.greatest (words w) [] text (begins-whole w fits) in
    let t = lines-tell (words w) (words v) [] new (g.small w fits) (g.small v r.fits) short (sym text ∙ r.text) in
    let l : 0 ≡ length (line_text t.more ++ new) = ap (λ (k : List ℕ). length k) t.text in
    some (nil_from_length new (grind (arith, common_steps, l)))

-- the text from a place to the end
pub whole-rest : (bytes : List ℕ) (from : ℕ) → from ≤ length bytes → take (length bytes - from) (drop from bytes) ≡ drop from bytes
whole-rest bytes from room = take_all (length bytes - from) (drop from bytes) (grind (arith, common_steps))

-- the lines that end before what is left are those before the place, and those that were read from there
count-from : (bytes rest ns : List ℕ) (from line : ℕ) → from ≤ length bytes → drop from bytes ≡ line_text ns ++ rest → Small ns
    → line ≡ count_by (λ b. b == 10) (take (length bytes - length rest) bytes) + 1 → line ≡ lines_before bytes from + (length ns + 1)
count-from bytes rest ns from line room text small e =
    let part = drop from bytes in
    let long : length rest ≤ length part = rw text (grind (arith, common_steps)) in
    let size : length part ≡ length bytes - from = grind (arith, common_steps) in
    let split : length bytes - length rest ≡ from + (length part - length rest) = omega (arith, long, size, room) in
    let read : count_by (λ b. b == 10) (take (length part - length rest) part) ≡ length ns = count-read part rest ns text small in
    let parts : take (from + (length part - length rest)) bytes ≡ take from bytes ++ take (length part - length rest) part = take-add from (length part - length rest) bytes in
    let count : count_by (λ b. b == 10) (take (length bytes - length rest) bytes) ≡ lines_before bytes from + length ns
    = ap (λ (n : ℕ). count_by (λ b. b == 10) (take n bytes)) split ∙ (ap (λ (l : List ℕ). count_by (λ b. b == 10) l) parts
    ∙ (sum_by-append (λ b. cond (b == 10) 1 0) (take from bytes) (take (length part - length rest) part) ∙ ap (λ (n : ℕ). lines_before bytes from + n) read)) in
    omega (arith, e, count)

-- the fault by the number of the line after the lines that were read
pub stop-faults : {A : Type 0} {within : A → Type 0} {words : A → List ℕ} {old new : List ℕ} (bytes rest : List ℕ) (from line : ℕ) → from ≤ length bytes
    → old ≡ take (length bytes - from) (drop from bytes) → rest ≡ new → Grammar within words → Stops within words old new
    → line ≡ count_by (λ b. b == 10) (take (length bytes - length rest) bytes) + 1
    → IsNoText within words (drop from bytes) × IsFaultLineFrom within words bytes from line
stop-faults {A} {within} {words} {old} {new} bytes rest from line room start to g stop e =
    let s : Stops within words (drop from bytes) rest
    = subst (λ (b : List ℕ). Stops within words b rest) (start ∙ whole-rest bytes from room) (subst (λ (b : List ℕ). Stops within words old b) (sym to) stop) in (
      stop-is-no-text g s,
      record { own = length s.read + 1; fault = stop-is-fault g s; counted = count-from bytes rest s.read from line room s.text (begins-small g s.read (begins-stop s)) e },
    )

pub rest-faults : {A : Type 0} {within : A → Type 0} {words : A → List ℕ} {old new : List ℕ} {v : A} (bytes rest : List ℕ) (from line : ℕ) → from ≤ length bytes
    → old ≡ take (length bytes - from) (drop from bytes) → rest ≡ new → Grammar within words → Reads within words old new v → (new ≡ [] → ⊥)
    → line ≡ count_by (λ b. b == 10) (take (length bytes - length rest) bytes) + 1
    → IsNoText within words (drop from bytes) × IsFaultLineFrom within words bytes from line
rest-faults {A} {within} {words} {old} {new} {v} bytes rest from line room start to g read some e =
    let r : Reads within words (drop from bytes) rest v
    = subst (λ (b : List ℕ). Reads within words b rest v) (start ∙ whole-rest bytes from room) (subst (λ (b : List ℕ). Reads within words old b v) (sym to) read) in (
      rest-is-no-text g r (λ none. some (sym to ∙ none)),
      record { own = length (words v) + 1; fault = rest-is-fault g r; counted = count-from bytes rest (words v) from line room r.text (g.small v r.fits) e },
    )

-- the text from the first byte on is the whole text
pub from-start : {V A : Type 0} (data_of : V → A) (within : A → Type 0) (words : A → List ℕ) (bytes : List ℕ) (r : Result V TextError)
    → ReadsTextFrom data_of within words bytes 0 r → ReadsText data_of within words bytes r
from-start data_of within words bytes (Ok v) h = h
from-start data_of within words bytes (Err (Line line)) h =
    let counted : line ≡ 0 + h.1.own = h.1.counted in
    let same : line ≡ h.1.own = omega (arith, counted) in
    (h.0, subst (λ (n : ℕ). IsFaultLine within words bytes n) (sym same) h.1.fault)
from-start data_of within words bytes (Err OutOfMemory) h = h

-- a test of emptiness
pub not-empty : (new rest : List ℕ) (b : Bool) → rest ≡ new → b ≡ (length rest == 0) → b ≡ false → new ≡ [] → ⊥
not-empty new rest b to e f n = let l : length rest ≡ 0 = ap (λ (t : List ℕ). length t) (to ∙ n) in grind (arith, common_steps, e, f, l)
