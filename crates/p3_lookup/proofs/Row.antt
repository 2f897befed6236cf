-- The terms of a row, by their places.
use Rattle.std.proofs.Common.{◌≡◌, ℕ, zero, suc, ◌+◌, ◌*◌, ◌<◌, List, [], ◌∷◌, length, get_or, map, refl, ◌∙◌, ap, arith}
use Rattle.std.specs.Prelude.{All}
use Rattle.std.proofs.lemmas.List.{length-map}
use Rattle.std.proofs.lemmas.List.Elements.{All-head, All-tail}
use Rattle.p3_field.specs.Ring.{Ring}
use Rattle.air_core.specs.Tree.{Tree}
use Rattle.p3_lookup.specs.Term.{Term, term}
use Rattle.p3_lookup.specs.Lookup.{LookupData, HasCountForEach, map_sent, sent}
use Rattle.p3_lookup.specs.Honest.{lookup_terms, terms_from}
use Rattle.p3_lookup.specs.RowTerms.{sizes}
use Rattle.p3_lookup.proofs.Pairs.{pair_length}

pub length-terms : {F E : Type 0} (e : Ring E) (challenges : List E) (v : Tree F → E) (n : ℕ) (ls : List (LookupData F)) → length (terms_from e challenges v n ls) ≡ length ls
length-terms e challenges v n [] = refl
length-terms e challenges v n (l ∷ ls) = ap suc (length-terms e challenges v (suc n) ls)

-- the terms of the lookup at a place
pub terms_item : {F E : Type 0} (e : Ring E) (challenges : List E) (v : Tree F → E) (n i k : ℕ) (ls : List (LookupData F)) (l : LookupData F) (d : List (Term E)) → i < length ls → get_or ls i l ≡ l → n + i ≡ k
    → get_or (terms_from e challenges v n ls) i d ≡ lookup_terms e challenges v k l
terms_item e challenges v n i k [] l d h p q = absurd (omega (arith, h))
terms_item e challenges v n zero k (x ∷ xs) l d h p q =
    let at : n ≡ k = omega (arith, q) in
    ap (λ j. lookup_terms e challenges v j x) at ∙ ap (lookup_terms e challenges v k) p
terms_item e challenges v n (suc i) k (x ∷ xs) l d h p q = terms_item e challenges v (suc n) i k xs l d (omega (arith, h)) p (omega (arith, q))

-- each lookup has as many terms as tuples
pub sizes_are : {F E : Type 0} (e : Ring E) (challenges : List E) (v : Tree F → E) (n : ℕ) (ls : List (LookupData F)) → All HasCountForEach ls → map length (terms_from e challenges v n ls) ≡ sizes ls
sizes_are e challenges v n [] h = refl
sizes_are {F = F} e challenges v n (l ∷ ls) h =
    let own : length (lookup_terms e challenges v n l) ≡ length l.tuples =
    length-map (sent l) (λ s. term e (get_or challenges (2 * n) e.zero) (get_or challenges (2 * n + 1) e.zero) (map_sent v s)) ∙ pair_length l.tuples l.counts (All-head HasCountForEach l ls h) in
    ap (λ k. k ∷ map length (terms_from e challenges v (suc n) ls)) own ∙ ap (λ ks. length l.tuples ∷ ks) (sizes_are e challenges v (suc n) ls (All-tail HasCountForEach l ls h))
