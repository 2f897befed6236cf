-- How many challenges the lookups of a table have: two for each.
use Rattle.std.proofs.Common.{◌≡◌, ℕ, zero, suc, ◌+◌, ◌*◌, ◌<◌, List, [], ◌∷◌, length, map, get_or, refl, sym, ◌∙◌, ap, arith}
use Rattle.std.specs.Prelude.{count_by, cond}
use Rattle.std.proofs.lemmas.List.Sums.{sum_by-cons}
use Rattle.p3_field.specs.Ring.{Ring}
use Rattle.p3_field.specs.Laws.Tabulate.{get_or-tabulate}
use Rattle.p3_lookup.specs.Batch.{laid_out}
use Rattle.p3_lookup.specs.Bus.{batch_buses, bus_count, widest}
use Rattle.p3_lookup.specs.Challenge.{ChallengesData, challenges_with}
use Rattle.p3_lookup.specs.Lookup.{LookupData}
use Rattle.batch_transcript.specs.BatchScript.{Draws}
use Rattle.batch_transcript.specs.Buses.{batch_layout, instance_challenges}
use Rattle.batch_statement.specs.Words.{has_some}
use Rattle.verifier_draws.specs.Draws.{drawn_pair}

-- two challenges for each lookup that is laid out
laid_out_length : {E : Type 0} (z : E) (c : ChallengesData E) (bus : ℕ → ℕ) (n m : ℕ) → length (laid_out z c bus n m) ≡ 2 * m
laid_out_length z c bus n zero = refl
laid_out_length z c bus n (suc m) = let h = laid_out_length z c bus (suc n) m in omega (arith, h)

-- where no table has lookups, no table has any
pub none_has : {A : Type 0} (ls : List (List A)) (i : ℕ) → count_by has_some ls ≡ 0 → length (get_or ls i []) ≡ 0
none_has [] i h = refl
none_has ([] ∷ ls) zero h = refl
none_has {A} ([] ∷ ls) (suc i) h =
    let e : count_by has_some ([] ∷ ls) ≡ 0 + count_by has_some ls = sum_by-cons (λ (x : List A). cond (has_some x) 1 0) [] ls in
    none_has ls i (omega (arith, e, h))
none_has {A} ((x ∷ xs) ∷ ls) i h =
    let e : count_by has_some ((x ∷ xs) ∷ ls) ≡ 1 + count_by has_some ls = sum_by-cons (λ (y : List A). cond (has_some y) 1 0) (x ∷ xs) ls in
    absurd (omega (arith, e, h))

-- no challenges for any table
abbrev nothing : {A E : Type 0} → A → List E
nothing x = []

empty_layout : {A : Type 0} (E : Type 0) (ls : List A) (i : ℕ) → length (get_or (map (nothing {A = A} {E = E}) ls) i []) ≡ 0
empty_layout E [] i = refl
empty_layout E (x ∷ xs) zero = refl
empty_layout E (x ∷ xs) (suc i) = empty_layout E xs i

-- a table has two challenges for each lookup, this being the number of tables with lookups
pub challenge_count : {S F E : Type 0} (e : Ring E) (d : Draws S E) (ls : List (List (LookupData F))) (n i : ℕ) → n ≡ count_by has_some ls → i < length ls
    → length (get_or (batch_layout e (drawn_pair n d) ls) i []) ≡ 2 * length (get_or ls i [])
challenge_count {S} {F} {E} e d ls zero i p l =
    let none = none_has ls i (sym p) in
    let empty = empty_layout E ls i in
    omega (arith, none, empty)
challenge_count e d ls (suc n) i p l =
    let c = challenges_with e d.lookup_alpha d.lookup_beta (widest ls) (bus_count (batch_buses ls)) in
    ap length (get_or-tabulate (length ls) (instance_challenges e c ls) i [] l) ∙ laid_out_length e.zero c _ 0 (length (get_or ls i []))
