-- From a recorded interaction to its lookup.
use Rattle.std.proofs.Common.{◌≡◌, ℕ, zero, suc, ◌+◌, ◌-◌, ◌*◌, ◌/◌, List, [], ◌∷◌, length, map, take, drop, refl, sym, ◌∙◌, ap}
use Rattle.std.specs.Prelude.{slice_range}
use Rattle.std.proofs.lemmas.List.{length-map, take-map}
use Rattle.p3_field.specs.Poly.{tabulate}
use Rattle.p3_field.specs.Laws.Tabulate.{tabulate_same}
use Rattle.air_core.specs.declared.cells.Count.{Count}

map-tabulate : {X Y : Type 0} (f : X → Y) (n : ℕ) (t : ℕ → X) → map f (tabulate n t) ≡ tabulate n (λ k. f (t k))
map-tabulate f zero t = refl
map-tabulate f (suc n) t = ap (λ l. f (t zero) ∷ l) (map-tabulate f n (λ k. t (suc k)))

drop-map : {X Y : Type 0} (f : X → Y) (n : ℕ) (xs : List X) → drop n (map f xs) ≡ map f (drop n xs)
drop-map f zero xs = refl
drop-map f (suc n) [] = refl
drop-map f (suc n) (x ∷ xs) = drop-map f n xs

map-range : {X Y : Type 0} (f : X → Y) (xs : List X) (a b : ℕ) → map f (slice_range xs a b) ≡ slice_range (map f xs) a b
map-range f xs a b = sym (take-map f (b - a) (drop a xs)) ∙ ap (take (b - a)) (sym (drop-map f a xs))

-- the tuples of mapped fields
pub tuples_read : {X Y : Type 0} (f : X → Y) (xs : List X) (ys : List Y) (n m : ℕ) → n ≡ m → map f xs ≡ ys
    → map (map f) (tabulate n (λ k. slice_range xs (k * (length xs / n)) (k * (length xs / n) + length xs / n)))
    ≡ tabulate m (λ k. slice_range ys (k * (length ys / m)) (k * (length ys / m) + length ys / m))
tuples_read f xs ys n m e h =
    map-tabulate (map f) n (λ k. slice_range xs (k * (length xs / n)) (k * (length xs / n) + length xs / n))
    ∙ tabulate_same n (λ k. map f (slice_range xs (k * (length xs / n)) (k * (length xs / n) + length xs / n)))
    (λ k. slice_range (map f xs) (k * (length xs / n)) (k * (length xs / n) + length xs / n))
    (λ k lt. map-range f xs (k * (length xs / n)) (k * (length xs / n) + length xs / n))
    ∙ ap (λ w. tabulate n (λ k. slice_range (map f xs) (k * (w / n)) (k * (w / n) + w / n))) (sym (length-map xs f))
    ∙ ap (λ l. tabulate n (λ k. slice_range l (k * (length l / n)) (k * (length l / n) + length l / n))) h
    ∙ ap (λ w. tabulate w (λ k. slice_range ys (k * (length ys / w)) (k * (length ys / w) + length ys / w))) e

abbrev pub map_count : {X Z : Type 0} → (X → Z) → Count X → Count Z
map_count f c = record { value = f c.value; bound = c.bound }

-- counts that agree in values and in bounds
pub counts_read : {X Y Z : Type 0} (f : X → Z) (h : Y → Z) (cs : List (Count X)) (ps : List (Count Y))
    → map f (map (λ c. c.value) cs) ≡ map (λ c. h c.value) ps → map (λ c. c.bound) cs ≡ map (λ c. c.bound) ps
    → map (map_count f) cs ≡ map (map_count h) ps
counts_read f h [] [] e b = refl
counts_read f h [] (p ∷ ps) e b = absurd (cc b)
counts_read f h (c ∷ cs) [] e b = absurd (cc b)
counts_read {Z = Z} f h (c ∷ cs) (p ∷ ps) e b =
    let one : f c.value ≡ h p.value = cc e in
    let rest : map f (map (λ k. k.value) cs) ≡ map (λ k. h k.value) ps = cc e in
    let bound : c.bound ≡ p.bound = cc b in
    let bounds : map (λ k. k.bound) cs ≡ map (λ k. k.bound) ps = cc b in
    cc (one, bound, counts_read f h cs ps rest bounds)
