-- The grammar of lists whose number of items is a power of two.
use Rattle.std.proofs.Common.{ℕ, ◌<◌, ◌≤◌, ◌^◌, List, ◌∷◌, length, refl, sym, ap, subst, arith}
use Rattle.tool_lines.specs.Counts.{IsCount, PowersWithin}
use Rattle.tool_lines.specs.Texts.{Grammar, ItemsWithin, items_numbers, list_numbers, one_number}
use Rattle.tool_lines.specs.Laws.Grammars.{PairWithin, SameTexts, head-same, items-grammar, pair-grammar, pair_numbers, same-grammar, small-one, tail-same}

pub one-counts : (most : ℕ) → 1 ≤ most → IsCount most 1
one-counts most room = ((0, refl), room)

pub count-grammar : (most : ℕ) → 1 ≤ most → most < 2 ^ 64 → Grammar (IsCount most) one_number
count-grammar most room few = record {
  some = 1;
  some_fits = one-counts most room;
  small = λ v h. let l = h.1 in small-one v (omega (arith, l, few));
  tells = λ v w x y p q e. (head-same v w x y e, tail-same v w x y e);
}

-- a list is seen as its count, and so many items
unfoldable pub same-powers : {A : Type 0} (most : ℕ) (within : A → Type 0) (words : A → List ℕ)
    → SameTexts (PairWithin (IsCount most) (λ n. ItemsWithin n within)) (pair_numbers one_number (items_numbers words)) (PowersWithin most within) (list_numbers words)
same-powers most within words = record {
  to = λ p. p.1;
  to_fits = λ p fits. (subst (λ (n : ℕ). IsCount most n) (sym fits.1.0) fits.0, fits.1.1);
  to_numbers = λ p fits. ap (λ (n : ℕ). n ∷ items_numbers words p.1) fits.1.0;
  whole = λ xs fits. ((length xs, xs), (fits.0, (refl, fits.1)), refl);
}

pub powers-grammar : {A : Type 0} {within : A → Type 0} {words : A → List ℕ} (most : ℕ) → 1 ≤ most → most < 2 ^ 64 → Grammar within words
    → Grammar (PowersWithin most within) (list_numbers words)
powers-grammar {A} {within} {words} most room few g =
    same-grammar (same-powers most within words) (pair-grammar (λ n. ItemsWithin n within) (count-grammar most room few) (λ n _. items-grammar n g))
