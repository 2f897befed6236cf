-- Traces whose rows have two cells.
use Rattle.std.proofs.Common.{◌≡◌, ℕ, ◌+◌, ◌*◌, ◌%◌, ◌^◌, ◌<◌, ◌≤◌, ◌==◌, Bool, true, false, cond, List, [], ◌∷◌, ◌++◌, length, map, All, subst, get_or, take, refl, sym, ◌∙◌, ap, arith}
use Rattle.std.specs.List.{flat_map}
use Rattle.std.proofs.lemmas.List.{append-nil, get_or-map, length-map, map-append, take_more}
use Rattle.std.proofs.lemmas.List.Concat.{flat_map-append}
use Rattle.std.proofs.lemmas.Grind.{one_shifted}
use Rattle.std.proofs.Math.Pow.{pow_mono}
use Rattle.p3_field.specs.Poly.{tabulate}
use Rattle.p3_field.specs.Laws.Tabulate.{tabulate_more}
use Rattle.p3_matrix.specs.Matrix.{FillsRows}
use Rattle.p3_matrix.specs.Laws.Flattened.{length-pieces}
use Rattle.p3_matrix.specs.Laws.Grids.{product_fills}
use Rattle.law_tool_valid.specs.Job.{swap_row}

-- up to 2^10 rows
pub few_rows : (k : ℕ) → k ≤ 10 → 1 * 2 ^ k % 18446744073709551616 ≤ 1024
few_rows k h =
    let b : k < 64 = omega arith in
    let small : 2 ^ k ≤ 2 ^ 10 = pow_mono h in
    let size = (one_shifted k 18446744073709551615 refl b).0 in
    omega (arith, size, small)

-- one row more
pub rows-grow : {X A : Type 0} (f : X → List A) (xs : List X) (x : X) (old new : List A) → old ≡ flat_map f xs → new ≡ old ++ f x → new ≡ flat_map f (xs ++ x ∷ [])
rows-grow f xs x old new e h = h ∙ (ap (λ (l : List _). l ++ f x) e ∙ sym (flat_map-append f xs (x ∷ []) ∙ ap (λ (l : List _). flat_map f xs ++ l) (append-nil (f x))))

-- the same of the rows with numbers below n
pub rows-next : {A : Type 0} (f : ℕ → List A) (n : ℕ) (old new : List A) → old ≡ flat_map f (tabulate n (λ i. i)) → new ≡ old ++ f n → new ≡ flat_map f (tabulate (n + 1) (λ i. i))
rows-next f n old new e h = rows-grow f (tabulate n (λ i. i)) n old new e h ∙ ap (λ (l : List ℕ). flat_map f l) (tabulate_more n (λ i. i))

-- the same of the rows of the first n items
pub rows-more : {X Y A : Type 0} (f : Y → List A) (g : X → Y) (xs : List X) (n : ℕ) (x : X) (old new : List A) → n < length xs → x ≡ get_or xs n x
    → old ≡ flat_map f (map g (take n xs)) → new ≡ old ++ f (g x) → new ≡ flat_map f (map g (take (n + 1) xs))
rows-more f g xs n x old new room is e h =
    let front : take n xs ++ x ∷ [] ≡ take (n + 1) xs = ap (λ (y : _). take n xs ++ y ∷ []) is ∙ sym (take_more xs n x room) in
    rows-grow f (map g (take n xs)) (g x) old new e h
    ∙ ap (λ (l : List _). flat_map f l) (sym (map-append g (take n xs) (x ∷ [])) ∙ ap (λ (l : List _). map g l) front)

-- rows of two cells fill whole rows
pub pairs-fill : {X A : Type 0} (f : X → List A) → ((x : X) → length (f x) ≡ 2) → (xs : List X) (values : List A) → values ≡ flat_map f xs → FillsRows values 2
pairs-fill f len xs values e = product_fills values (length xs) 2 (ap (λ (l : List _). length l) e ∙ length-pieces f 2 len xs)

pub swap_row-pair : {A : Type 0} (a b : A) (i : ℕ) → length (swap_row a b i) ≡ 2
swap_row-pair a b i = two (i % 2 == 0)
  where
    two : (t : Bool) → length (cond t (a ∷ b ∷ []) (b ∷ a ∷ [])) ≡ 2
    two true = refl
    two false = refl

-- what holds of each item's data holds of one's
pub at_item : {X Y : Type 0} (P : Y → Type 0) (f : X → Y) (xs : List X) (i : ℕ) (x : X) → All P (map f xs) → i < length xs → x ≡ get_or xs i x → P (f x)
at_item P f xs i x h room is =
    let room' : i < length (map f xs) = omega (arith, length-map xs f) in
    subst P (get_or-map f xs i x (f x) room ∙ ap f (sym is)) (h i (f x) room')

-- one more of what is made of each item's data
pub maps-more : {X Y A : Type 0} (f : Y → A) (g : X → Y) (xs : List X) (n : ℕ) (x : X) (y : A) (old new : List A) → n < length xs → x ≡ get_or xs n x
    → old ≡ map f (map g (take n xs)) → new ≡ old ++ y ∷ [] → y ≡ f (g x) → new ≡ map f (map g (take (n + 1) xs))
maps-more f g xs n x y old new room is e h same =
    let more : take (n + 1) xs ≡ take n xs ++ x ∷ [] = take_more xs n x room ∙ ap (λ (z : _). take n xs ++ z ∷ []) (sym is) in
    let seen : map g (take (n + 1) xs) ≡ map g (take n xs) ++ g x ∷ [] = ap (λ (l : List _). map g l) more ∙ map-append g (take n xs) (x ∷ []) in
    let made : map f (map g (take (n + 1) xs)) ≡ map f (map g (take n xs)) ++ f (g x) ∷ [] = ap (λ (l : List _). map f l) seen ∙ map-append f (map g (take n xs)) (g x ∷ []) in
    h ∙ (ap (λ (l : List _). l ++ y ∷ []) e ∙ (ap (λ (z : _). map f (map g (take n xs)) ++ z ∷ []) same ∙ sym made))
