-- The places of lookups among all of a batch, and their buses.
use Rattle.std.proofs.Common.{◌≡◌, ℕ, zero, suc, ◌+◌, ◌<◌, List, [], ◌∷◌, ◌++◌, length, get_or, map, refl, ◌∙◌, ap, arith}
use Rattle.std.proofs.lemmas.List.{length-append, length-map, get_or_append_left, get_or-append-add, get_or-map}
use Rattle.air_core.specs.Tree.{local}
use Rattle.p3_lookup.specs.Lookup.{LookupData}
use Rattle.p3_lookup.specs.Bus.{batch_buses, lookups_before}

pub length_buses : {F : Type 0} (tables : List (List (LookupData F))) → length (batch_buses tables) ≡ lookups_before tables (length tables)
length_buses [] = refl
length_buses (ls ∷ tables) =
    omega (arith, length-append (map (λ l. l.bus) ls) (batch_buses tables), length-map ls (λ l. l.bus), length_buses tables)

-- a place in the next tables is one after the first table's lookups
pub place_after : (a m k n : ℕ) → n ≡ a → (a + m) + k ≡ n + (m + k)
place_after a m k n e = omega (arith, e)

pub bus_at : {F : Type 0} (tables : List (List (LookupData F))) (t k : ℕ) (d : LookupData F) → t < length tables → k < length (get_or tables t [])
    → get_or (batch_buses tables) (lookups_before tables t + k) local ≡ (get_or (get_or tables t []) k d).bus
bus_at [] t k d h lt = absurd (omega (arith, h))
bus_at (ls ∷ tables) zero k d h lt =
    let bs = map (λ l. l.bus) ls in
    let e : 0 + k ≡ k = omega arith in
    ap (λ j. get_or (bs ++ batch_buses tables) j local) e
    ∙ get_or_append_left bs (batch_buses tables) local k (omega (arith, lt, length-map ls (λ l. l.bus)))
    ∙ get_or-map (λ l. l.bus) ls k d local lt
bus_at (ls ∷ tables) (suc t) k d h lt =
    let bs = map (λ l. l.bus) ls in
    ap (λ j. get_or (bs ++ batch_buses tables) j local) (place_after (length ls) (lookups_before tables t) k (length bs) (length-map ls (λ l. l.bus)))
    ∙ get_or-append-add bs (batch_buses tables) (lookups_before tables t + k) local
    ∙ bus_at tables t k d (omega (arith, h)) lt

pub before_more : {F : Type 0} (tables : List (List (LookupData F))) (t : ℕ) → t < length tables → lookups_before tables (t + 1) ≡ lookups_before tables t + length (get_or tables t [])
before_more [] t h = absurd (omega (arith, h))
before_more (ls ∷ tables) zero h =
    let e : zero + 1 ≡ suc zero = omega arith in
    ap (lookups_before (ls ∷ tables)) e ∙ none tables (length ls)
  where
    none : {F : Type 0} (ts : List (List (LookupData F))) (n : ℕ) → n + lookups_before ts zero ≡ zero + n
    none ts n = omega arith
before_more (ls ∷ tables) (suc t) h =
    let e : suc t + 1 ≡ suc (t + 1) = omega arith in
    ap (lookups_before (ls ∷ tables)) e ∙ omega (arith, before_more tables t (omega (arith, h)))

-- a place within a table is one of the batch
pub place_within : {F : Type 0} (tables : List (List (LookupData F))) (t k : ℕ) → t < length tables → k < length (get_or tables t []) → lookups_before tables t + k < length (batch_buses tables)
place_within [] t k h lt = absurd (omega (arith, h))
place_within (ls ∷ tables) zero k h lt = omega (arith, lt, length-append (map (λ l. l.bus) ls) (batch_buses tables), length-map ls (λ l. l.bus))
place_within (ls ∷ tables) (suc t) k h lt =
    omega (arith, place_within tables t k (omega (arith, h)) lt, length-append (map (λ l. l.bus) ls) (batch_buses tables), length-map ls (λ l. l.bus))
