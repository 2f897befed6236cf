-- A text that grows by the lines of a list's items, one item after the other.
use Rattle.std.proofs.Common.{◌≡◌, ℕ, ◌+◌, ◌<◌, List, [], ◌∷◌, ◌++◌, flat_map, get_or, length, take, sym, ap, ◌∙◌}
use Rattle.std.proofs.lemmas.List.{flat_map_more, take_more}

pub line_more : {X : Type 0} (f : X → List ℕ) (xs : List X) (i : ℕ) (x d : X) (start old new : List ℕ) → i < length xs → x ≡ get_or xs i d
    → old ≡ start ++ flat_map f (take i xs) → new ≡ old ++ f x → new ≡ start ++ flat_map f (take (i + 1) xs)
line_more f xs i x d start old new within item before after =
    after ∙ ap (λ l. l ++ f x) before ∙ flat_map_more f start (take i xs) x
    ∙ ap (λ l. start ++ flat_map f l) (sym (take_more xs i d within ∙ ap (λ y. take i xs ++ y ∷ []) (sym item)))
