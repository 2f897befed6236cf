-- Lists that are read from the front, and lists that grow by a push.
use Rattle.std.proofs.Common.{◌≡◌, ℕ, zero, suc, ◌+◌, List, [], ◌∷◌, ◌++◌, drop, get_or, map, refl, ◌∙◌, ap}
use Rattle.std.specs.List.{flat_map}
use Rattle.std.proofs.lemmas.List.{append_assoc, drop-drop, map_push}
use Rattle.p3_field.specs.Poly.{tabulate}
use Rattle.p3_field.specs.Laws.Tabulate.{tabulate_push}
use Rattle.law_honest.specs.Laws.Flat.{flat_more}
use Rattle.prover_openings.specs.Rows.{first_list}

-- the first list that is left is that at the place so far
pub first_left : {X Y : Type 0} (f : X → List Y) (n : ℕ) (xs ys : List X) → ys ≡ drop n xs → first_list (map f ys) ≡ get_or (map f xs) n []
first_left f n xs ys e = ap (λ l. first_list (map f l)) e ∙ at f n xs
  where
    at : {X Y : Type 0} (f : X → List Y) (n : ℕ) (xs : List X) → first_list (map f (drop n xs)) ≡ get_or (map f xs) n []
    at f zero [] = refl
    at f zero (x ∷ xs) = refl
    at f (suc n) [] = refl
    at f (suc n) (x ∷ xs) = at f n xs

-- what is left after one more
pub left_more : {X : Type 0} (n m : ℕ) (xs ys zs : List X) → ys ≡ drop n xs → zs ≡ drop m ys → zs ≡ drop (n + m) xs
left_more n m xs ys zs e h = h ∙ ap (drop m) e ∙ drop-drop m n xs

-- the list of images, with one item more
pub map_tabulate_push : {X Y : Type 0} (f : X → Y) (n : ℕ) (t : ℕ → Y) (xs ys : List X) (x : X) → ys ≡ xs ++ x ∷ [] → map f xs ≡ tabulate n t → f x ≡ t n → map f ys ≡ tabulate (n + 1) t
map_tabulate_push f n t xs ys x e h k = ap (map f) e ∙ map_push f xs x ∙ tabulate_push n t (map f xs) (f x) h k

-- the same after other items
pub after_push : {X Y : Type 0} (f : X → Y) (n : ℕ) (t : ℕ → Y) (ws : List Y) (xs ys : List X) (x : X) → map f xs ≡ ws ++ tabulate n t → ys ≡ xs ++ x ∷ [] → f x ≡ t n → map f ys ≡ ws ++ tabulate (n + 1) t
after_push f n t ws xs ys x h e k =
    ap (map f) e ∙ (map_push f xs x ∙ (ap (λ z. z ++ f x ∷ []) h ∙ (append_assoc ws (tabulate n t) (f x ∷ []) ∙ ap (λ z. ws ++ z) (tabulate_push n t (tabulate n t) (f x) refl k))))

-- pieces one after another, with one piece more
pub flat_push : {Y : Type 0} (f : ℕ → List Y) (n : ℕ) (xs ys : List Y) → xs ≡ flat_map f (tabulate n (λ i. i)) → ys ≡ xs ++ f n → ys ≡ flat_map f (tabulate (n + 1) (λ i. i))
flat_push f n xs ys h e = e ∙ (ap (λ z. z ++ f n) h ∙ flat_more f n)

-- images of images
pub map_map : {A B C : Type 0} (g : B → C) (f : A → B) (xs : List A) → map g (map f xs) ≡ map (λ x. g (f x)) xs
map_map g f [] = refl
map_map g f (x ∷ xs) = ap (λ l. g (f x) ∷ l) (map_map g f xs)
