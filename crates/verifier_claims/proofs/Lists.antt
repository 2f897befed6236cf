-- Lists that grow by a push.
use Rattle.std.proofs.Common.{◌≡◌, ℕ, ◌+◌, List, [], ◌∷◌, ◌++◌, map, refl, sym, ◌∙◌, ap}
use Rattle.std.specs.List.{flat_map}
use Rattle.std.proofs.lemmas.Grind.{flat_map-append}
use Rattle.std.proofs.lemmas.List.{map-append, append-nil, append_assoc}
use Rattle.p3_field.specs.Poly.{tabulate}
use Rattle.p3_field.specs.Laws.Tabulate.{tabulate_push, tabulate_more}

-- the list of images, with one item more
pub map_push : {X Y : Type 0} (f : X → Y) (n : ℕ) (t : ℕ → Y) (xs ys : List X) (x : X) → ys ≡ xs ++ x ∷ [] → map f xs ≡ tabulate n t → f x ≡ t n → map f ys ≡ tabulate (n + 1) t
map_push f n t xs ys x e h k = ap (map f) e ∙ map-append f xs (x ∷ []) ∙ tabulate_push n t (map f xs) (f x) h k

-- pieces one after another, with one piece more
pub flat_push : {Y : Type 0} (f : ℕ → List Y) (n : ℕ) (xs ys : List Y) → xs ≡ flat_map f (tabulate n (λ i. i)) → ys ≡ xs ++ f n → ys ≡ flat_map f (tabulate (n + 1) (λ i. i))
flat_push f n xs ys h e =
    e ∙ ap (λ z. z ++ f n) h ∙ ap (λ z. flat_map f (tabulate n (λ i. i)) ++ z) (sym (append-nil (f n))) ∙ sym (flat_map-append f (tabulate n (λ i. i)) (n ∷ []))
    ∙ ap (flat_map f) (tabulate_more n (λ i. i))

-- a list before which others stand
pub after_push : {Y : Type 0} (n : ℕ) (t : ℕ → Y) (ws xs ys : List Y) (y : Y) → xs ≡ ws ++ tabulate n t → ys ≡ xs ++ y ∷ [] → y ≡ t n → ys ≡ ws ++ tabulate (n + 1) t
after_push n t ws xs ys y h e k =
    e ∙ ap (λ z. z ++ y ∷ []) h ∙ append_assoc ws (tabulate n t) (y ∷ []) ∙ ap (λ z. ws ++ z) (tabulate_push n t (tabulate n t) y refl k)
