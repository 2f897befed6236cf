-- In the layout of a drawn pair each lookup has the base of its bus, and beta.
use Rattle.std.proofs.Common.{◌≡◌, ℕ, zero, suc, ◌+◌, ◌*◌, ◌<◌, List, [], ◌∷◌, length, get_or, refl, ◌∙◌, ap, arith}
use Rattle.p3_field.specs.Ring.{Ring}
use Rattle.p3_field.specs.Laws.Tabulate.{get_or-tabulate}
use Rattle.p3_lookup.specs.Lookup.{LookupData}
use Rattle.p3_lookup.specs.Bus.{bus_in, bus_count, batch_buses, widest}
use Rattle.p3_lookup.specs.Challenge.{ChallengesData, challenges_with, bus_base}
use Rattle.p3_lookup.specs.Batch.{laid_out}
use Rattle.p3_lookup.specs.Laws.Buses.{number_below}
use Rattle.p3_lookup.specs.Laws.Places.{place_within}
use Rattle.batch_transcript.specs.Buses.{instance_challenges, batch_layout, LaysOutBases}

-- lookup k has the challenges 2 k and 2 k + 1
laid-base : {E : Type 0} (z : E) (c : ChallengesData E) (bus : ℕ → ℕ) (n m k : ℕ) → k < m → get_or (laid_out z c bus n m) (2 * k) z ≡ get_or c.bus_prefix (bus (n + k)) z
laid-base z c bus n zero k lt = absurd (omega (arith, lt))
laid-base z c bus n (suc m) zero lt = let e : n ≡ n + 0 = omega arith in ap (λ j. get_or c.bus_prefix (bus j) z) e
laid-base z c bus n (suc m) (suc k) lt =
    let two : 2 * suc k ≡ suc (suc (2 * k)) = omega arith in
    let next : suc n + k ≡ n + suc k = omega arith in
    ap (λ j. get_or (laid_out z c bus n (suc m)) j z) two ∙ laid-base z c bus (suc n) m k (omega (arith, lt)) ∙ ap (λ j. get_or c.bus_prefix (bus j) z) next

laid-combiner : {E : Type 0} (z : E) (c : ChallengesData E) (bus : ℕ → ℕ) (n m k : ℕ) → k < m → get_or (laid_out z c bus n m) (2 * k + 1) z ≡ c.beta
laid-combiner z c bus n zero k lt = absurd (omega (arith, lt))
laid-combiner z c bus n (suc m) zero lt = refl
laid-combiner z c bus n (suc m) (suc k) lt =
    let two : 2 * suc k + 1 ≡ suc (suc (2 * k + 1)) = omega arith in
    ap (λ j. get_or (laid_out z c bus n (suc m)) j z) two ∙ laid-combiner z c bus (suc n) m k (omega (arith, lt))

pub lays-out-bases : {F E : Type 0} (e : Ring E) (tables : List (List (LookupData F))) → LaysOutBases e tables
lays-out-bases e tables alpha beta t k within lt =
    let bs = batch_buses tables in
    let c = challenges_with e alpha beta (widest tables) (bus_count bs) in
    let m = length (get_or tables t []) in
    let own : get_or (batch_layout e (alpha ∷ beta ∷ []) tables) t [] ≡ instance_challenges e c tables t = get_or-tabulate (length tables) (instance_challenges e c tables) t [] within in
    let below : bus_in tables t k < bus_count bs = number_below bs _ (place_within tables t k within lt) in
    let same : 0 + k ≡ k = omega arith in
    record {
      base = ap (λ l. get_or l (2 * k) e.zero) own ∙ laid-base e.zero c (bus_in tables t) 0 m k lt
          ∙ ap (λ j. get_or c.bus_prefix (bus_in tables t j) e.zero) same
          ∙ get_or-tabulate (bus_count bs) (bus_base e alpha beta (widest tables)) (bus_in tables t k) e.zero below;
      combiner = ap (λ l. get_or l (2 * k + 1) e.zero) own ∙ laid-combiner e.zero c (bus_in tables t) 0 m k lt;
    }
