-- The layout of challenges, instance by instance.
use Rattle.std.proofs.Common.{◌≡◌, ℕ, zero, suc, ◌+◌, ◌-◌, ◌<◌, ◌≤◌, List, [], ◌∷◌, ◌++◌, length, get_or, map, take, drop, refl, sym, ◌∙◌, ap, arith, subst, drop-cons}
use Rattle.std.specs.Prelude.{All, flat_map, slice_range}
use Rattle.std.proofs.lemmas.List.{length-append, length-map, get_or-map, map-append}
use Rattle.std.specs.Prelude.{Vec}
use Rattle.std.proofs.lemmas.List.Elements.{All-from_get_or}
use Rattle.p3_field.specs.Ring.{Ring}
use Rattle.p3_field.specs.Poly.{tabulate}
use Rattle.p3_field.specs.Laws.Tabulate.{length-tabulate, get_or-tabulate, tabulate_push}
use Rattle.std.proofs.lemmas.Simd.{map-map}
use Rattle.p3_lookup.specs.Lookup.{LookupData}
use Rattle.p3_lookup.specs.Written.{Written, read, read_all}
use Rattle.p3_lookup.specs.Bus.{bus_number, bus_in, bus_count, batch_buses, lookups_before}
use Rattle.p3_lookup.specs.Challenge.{ChallengesData}
use Rattle.p3_lookup.specs.Batch.{laid_out}
use Rattle.batch_transcript.specs.Running.{lists}
use Rattle.batch_transcript.specs.Buses.{instance_challenges}
use Rattle.p3_lookup.specs.Laws.Buses.{number_below}
use Rattle.p3_lookup.specs.Laws.Places.{before_more}

-- each number is one of the batch
pub numbers-below : {F : Type 0} (tables : List (List (LookupData F))) (numbers : List ℕ) → numbers ≡ tabulate (length (batch_buses tables)) (bus_number (batch_buses tables))
    → All (λ b. b < bus_count (batch_buses tables)) numbers
numbers-below tables numbers e =
    let bs = batch_buses tables in
    All-from_get_or (λ b. b < bus_count (batch_buses tables)) numbers 0 (λ i lt.
    let within : i < length bs = omega (arith, lt, ap length e, length-tabulate (length bs) (bus_number bs)) in
    subst (λ n. n < bus_count bs) (sym (ap (λ l. get_or l i 0) e ∙ get_or-tabulate (length bs) (bus_number bs) i 0 within)) (number_below bs i within))

-- so many numbers from a place on, laid out
laid-slice : {E : Type 0} (z : E) (c : ChallengesData E) (g : ℕ → ℕ) (numbers : List ℕ) (m s n : ℕ) → s + m ≤ length numbers → ((k : ℕ) → k < m → get_or numbers (s + k) 0 ≡ g (n + k))
    → flat_map (λ b. get_or c.bus_prefix b z ∷ c.beta ∷ []) (take m (drop s numbers)) ≡ laid_out z c g n m
laid-slice z c g numbers zero s n le at = refl
laid-slice z c g numbers (suc m) s n le at =
    let here : get_or numbers s 0 ≡ g n =
    let p : s ≡ s + 0 = omega arith in let q : n + 0 ≡ n = omega arith in ap (λ k. get_or numbers k 0) p ∙ at 0 (omega arith) ∙ ap g q in
    ap (λ l. flat_map (λ b. get_or c.bus_prefix b z ∷ c.beta ∷ []) (take (suc m) l)) (drop-cons numbers s 0 (omega (arith, le)))
    ∙ ap (λ b. get_or c.bus_prefix b z ∷ c.beta ∷ flat_map (λ b. get_or c.bus_prefix b z ∷ c.beta ∷ []) (take m (drop (suc s) numbers))) here
    ∙ ap (λ l. get_or c.bus_prefix (g n) z ∷ c.beta ∷ l) (laid-slice z c g numbers m (suc s) (suc n) (omega (arith, le)) (λ k lt.
    let p : suc s + k ≡ s + suc k = omega arith in
    let q : n + suc k ≡ suc n + k = omega arith in
    ap (λ j. get_or numbers j 0) p ∙ at (suc k) (omega (arith, lt)) ∙ ap g q))

-- the numbers of an instance's lookups, laid out
pub instance-laid : {F E : Type 0} (z : E) (c : ChallengesData E) (tables : List (List (LookupData F))) (numbers : List ℕ) (t start m : ℕ)
    → numbers ≡ tabulate (length (batch_buses tables)) (bus_number (batch_buses tables)) → start ≡ lookups_before tables t → start + m ≤ length (batch_buses tables)
    → flat_map (λ b. get_or c.bus_prefix b z ∷ c.beta ∷ []) (slice_range numbers start (start + m)) ≡ laid_out z c (bus_in tables t) 0 m
instance-laid z c tables numbers t start m e at le =
    let bs = batch_buses tables in
    let long : length numbers ≡ length bs = ap length e ∙ length-tabulate (length bs) (bus_number bs) in
    let many : (start + m) - start ≡ m = omega arith in
    ap (λ n. flat_map (λ b. get_or c.bus_prefix b z ∷ c.beta ∷ []) (take n (drop start numbers))) many
    ∙ laid-slice z c (bus_in tables t) numbers m start 0 (omega (arith, le, long)) (λ k lt.
    let within : start + k < length bs = omega (arith, lt, le) in
    let p : start + k ≡ lookups_before tables t + (0 + k) = omega (arith, at) in
    ap (λ l. get_or l (start + k) 0) e ∙ get_or-tabulate (length bs) (bus_number bs) (start + k) 0 within ∙ ap (bus_number bs) p)

-- the lookups before an instance are among the batch's
pub before-within : {F : Type 0} (tables : List (List (LookupData F))) (t : ℕ) → lookups_before tables t ≤ length (batch_buses tables)
before-within tables zero = omega arith
before-within [] (suc t) = omega arith
before-within (ls ∷ tables) (suc t) = omega (arith, before-within tables t, length-append (map (λ l. l.bus) ls) (batch_buses tables), length-map ls (λ l. l.bus))

-- the buses of lookups, instance after instance
pub kinds-buses : {F : Type 0} (ws : List (List (Written F))) → flat_map (map (λ w. w.bus)) ws ≡ batch_buses (map read_all ws)
kinds-buses [] = refl
kinds-buses {F} (w ∷ ws) =
    ap (λ l. l ++ flat_map (map (λ w. w.bus)) ws) (sym (map-map (λ (l : LookupData F). l.bus) read w))
    ∙ ap (λ l. map (λ (l : LookupData F). l.bus) (read_all w) ++ l) (kinds-buses ws)

-- an instance's lookups, at its turn
module _ {F : Type 0} (ws : List (List (Written F))) (t : ℕ) (item own : List (Written F)) (within : t < length ws) (at : item ≡ get_or ws t item) (is : own ≡ item) where
  own-long : length (get_or (map read_all ws) t []) ≡ length own
  own-long = ap length (get_or-map read_all ws t item [] within ∙ ap read_all (sym at ∙ sym is)) ∙ length-map own read

  pub next-start : (start : ℕ) → start ≡ lookups_before (map read_all ws) t → start + length own ≡ lookups_before (map read_all ws) (t + 1)
  next-start start e = omega (arith, e, own-long, before_more (map read_all ws) t (omega (arith, within, length-map ws read_all)))

  pub own-within : (start : ℕ) → start ≡ lookups_before (map read_all ws) t → start + length own ≤ length (batch_buses (map read_all ws))
  own-within start e = omega (arith, next-start start e, before-within (map read_all ws) (t + 1))

  -- one instance more
  pub one-laid : {E A : Type 0} (e : Ring E) (c : ChallengesData E) (numbers : List ℕ) (start : ℕ) (all more : List (Vec E A)) (v : Vec E A)
      → numbers ≡ tabulate (length (batch_buses (map read_all ws))) (bus_number (batch_buses (map read_all ws))) → start ≡ lookups_before (map read_all ws) t
      → lists all ≡ tabulate t (instance_challenges e c (map read_all ws)) → more ≡ all ++ v ∷ []
      → v.items ≡ flat_map (λ b. get_or c.bus_prefix b e.zero ∷ c.beta ∷ []) (slice_range numbers start (start + length own))
      → lists more ≡ tabulate (t + 1) (instance_challenges e c (map read_all ws))
  one-laid e c numbers start all more v n s before pushed laid =
      let tables = map read_all ws in
      let here : v.items ≡ instance_challenges e c tables t =
      laid ∙ instance-laid e.zero c tables numbers t start (length own) n s (own-within start s) ∙ ap (laid_out e.zero c (bus_in tables t) 0) (sym own-long) in
      ap lists pushed ∙ map-append (λ v. v.items) all (v ∷ []) ∙ tabulate_push t (instance_challenges e c tables) (lists all) v.items before here
