-- Lists that are joined table by table.
use Rattle.std.proofs.Common.{◌≡◌, ℕ, zero, suc, ◌+◌, ◌<◌, List, [], ◌∷◌, ◌++◌, map, refl, sym, ◌∙◌, ap, arith}
use Rattle.std.specs.List.{flat_map}
use Rattle.std.specs.Prelude.{option_to_list}
use Rattle.std.proofs.lemmas.Grind.{flat_map-append}
use Rattle.std.proofs.lemmas.List.{append-nil, map-append}
use Rattle.p3_field.specs.Laws.Tabulate.{tabulate_more}
use Rattle.p3_field.specs.Poly.{tabulate}
use Rattle.law_honest.specs.HonestProof.{where_some}

-- lists that are the same for each of n tables are joined to the same
pub flat_same : {X : Type 0} (f g : ℕ → List X) (n : ℕ) (q : ℕ → ℕ) → ((i : ℕ) → i < n → f (q i) ≡ g (q i)) → flat_map f (tabulate n q) ≡ flat_map g (tabulate n q)
flat_same f g zero q same = refl
flat_same f g (suc n) q same = λ j. same zero (omega arith) j ++ flat_same f g n (λ i. q (suc i)) (λ i l. same (suc i) (omega (arith, l))) j

-- those of items that a table lists are those of the places
pub flat_over : {A X : Type 0} (g : A → List X) (n : ℕ) (u : ℕ → A) (q : ℕ → ℕ) → flat_map g (tabulate n (λ i. u (q i))) ≡ flat_map (λ i. g (u i)) (tabulate n q)
flat_over g zero u q = refl
flat_over g (suc n) u q = ap (λ l. g (u (q zero)) ++ l) (flat_over g n u (λ i. q (suc i)))

-- images of joined lists, and of what is there where a list isn't empty
pub map_flat : {A X Y : Type 0} (m : X → Y) (g : A → List X) (xs : List A) → map m (flat_map g xs) ≡ flat_map (λ x. map m (g x)) xs
map_flat m g [] = refl
map_flat m g (x ∷ xs) = map-append m (g x) (flat_map g xs) ∙ ap (λ l. map m (g x) ++ l) (map_flat m g xs)

pub map_where : {A X Y : Type 0} (m : X → Y) (ls : List A) (x : X) → map m (option_to_list (where_some ls x)) ≡ option_to_list (where_some ls (m x))
map_where m [] x = refl
map_where m (l ∷ ls) x = refl

-- the lists of n tables and that of one more
pub flat_more : {X : Type 0} (f : ℕ → List X) (n : ℕ) → flat_map f (tabulate n (λ i. i)) ++ f n ≡ flat_map f (tabulate (n + 1) (λ i. i))
flat_more f n =
    ap (λ l. flat_map f (tabulate n (λ i. i)) ++ l) (sym (append-nil (f n)))
    ∙ (sym (flat_map-append f (tabulate n (λ i. i)) (n ∷ [])) ∙ ap (flat_map f) (tabulate_more n (λ i. i)))
