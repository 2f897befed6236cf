-- How the printing of a list grows by an item.
use Rattle.std.proofs.Common.{◌≡◌, ℕ, ◌+◌, ◌<◌, ◌≤◌, List, [], ◌∷◌, ◌++◌, length, take, get_or, sym, ◌∙◌, ap, append_assoc}
use Rattle.std.proofs.lemmas.List.{append-nil, take_more, take_all}
use Rattle.std.specs.Prelude.{map}
use Rattle.std.proofs.lemmas.List.Folds.{flat_map-map}
use Rattle.std.proofs.lemmas.Grind.{flat_map-append}
use Rattle.tool_lines.specs.Texts.{line_text, items_numbers}
use Rattle.tool_lines.specs.Laws.Lines.{line_text-append}

-- one more item
pub prints-more : {A : Type 0} (words : A → List ℕ) (xs : List A) (i : ℕ) (a : A) (front old new : List ℕ) → i < length xs → a ≡ get_or xs i a
    → old ≡ front ++ line_text (items_numbers words (take i xs)) → new ≡ old ++ line_text (words a)
    → new ≡ front ++ line_text (items_numbers words (take (i + 1) xs))
prints-more words xs i a front old new room is e f =
    let before = items_numbers words (take i xs) in
    let more : take (i + 1) xs ≡ take i xs ++ a ∷ [] = take_more xs i a room ∙ ap (λ (b : _). take i xs ++ b ∷ []) (sym is) in
    let same : items_numbers words (take (i + 1) xs) ≡ before ++ words a
    = ap (λ (l : _). items_numbers words l) more ∙ (flat_map-append words (take i xs) (a ∷ []) ∙ ap (λ (l : List ℕ). before ++ l) (append-nil (words a))) in
    rw same (rw (line_text-append before (words a)) (f ∙ rw e (append_assoc front (line_text before) (line_text (words a)))))

-- all items, each by its data
pub prints-all : {V A : Type 0} (data_of : V → A) (words : A → List ℕ) (xs : List V) (i : ℕ) (front new : List ℕ) → length xs ≤ i
    → new ≡ front ++ line_text (items_numbers (λ v. words (data_of v)) (take i xs)) → new ≡ front ++ line_text (items_numbers words (map data_of xs))
prints-all data_of words xs i front new all e =
    let whole : take i xs ≡ xs = take_all i xs all in
    e ∙ (ap (λ (l : _). front ++ line_text (items_numbers (λ v. words (data_of v)) l)) whole ∙ ap (λ (l : List ℕ). front ++ line_text l) (sym (flat_map-map words data_of xs)))
