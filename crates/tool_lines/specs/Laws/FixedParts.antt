-- The grammars of parts that the reader knows.
use Rattle.std.specs.Prelude.{ℕ, List, refl}
use Rattle.std.proofs.lemmas.List.{append_cancel_left}
use Rattle.tool_lines.specs.Texts.{Small, Grammar, Unlimited, ItemsWithin, items_numbers}
use Rattle.tool_lines.specs.Fixed.{fixed_numbers, headed_numbers}
use Rattle.tool_lines.specs.Laws.Grammars.{ThenWithin, pair_numbers, then-grammar, SameTexts, same-grammar, items-grammar}

pub fixed-grammar : (numbers : List ℕ) → Small numbers → Grammar {A = Unit {0}} Unlimited (fixed_numbers numbers)
fixed-grammar numbers small = record {
  some = tt;
  some_fits = tt;
  small = λ v fits. small;
  tells = λ v w x y p q e. (refl, append_cancel_left numbers x y e);
}

-- the items after fixed numbers are seen as the numbers, and the items
pub same-headed : {A : Type 0} (head : List ℕ) (count : ℕ) (within : A → Type 0) (words : A → List ℕ)
    → SameTexts (ThenWithin Unlimited (ItemsWithin count within)) (pair_numbers (fixed_numbers head) (items_numbers words)) (ItemsWithin count within) (headed_numbers head words)
same-headed head count within words = record {
  to = λ p. p.1;
  to_fits = λ p fits. fits.1;
  to_numbers = λ p fits. refl;
  whole = λ xs fits. ((tt, xs), (tt, fits), refl);
}

pub headed-grammar : {A : Type 0} {within : A → Type 0} {words : A → List ℕ} (head : List ℕ) (count : ℕ) → Small head → Grammar within words
    → Grammar (ItemsWithin count within) (headed_numbers head words)
headed-grammar {A} {within} {words} head count small g =
    same-grammar (same-headed head count within words) (then-grammar (fixed-grammar head small) (items-grammar count g))
