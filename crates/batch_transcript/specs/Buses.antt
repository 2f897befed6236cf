-- The challenges of the lookups of a batch: the layout that both sides make of the drawn pair. The phase is that of Plonky3's p3-batch-stark
-- (transcript.rs); the rule of buses and of their bases is this project's own.
use Rattle.std.specs.Prelude.{◌≡◌, ℕ, ◌+◌, ◌*◌, ◌<◌, List, [], ◌∷◌, length, map, Option, Some, bytes_eq}
use Rattle.std.specs.Prelude.{slice_index_or as get_or}
use Rattle.std.specs.Option.{unwrap_or}
use Rattle.std.specs.Map.{update}
use Rattle.p3_field.specs.Ring.{Ring}
use Rattle.p3_field.specs.Poly.{tabulate}
use Rattle.air_core.specs.Tree.{Bus, local, global}
use Rattle.p3_lookup.specs.Lookup.{LookupData}
use Rattle.p3_lookup.specs.Bus.{bus_in, bus_count, batch_buses, widest}
use Rattle.p3_lookup.specs.Challenge.{ChallengesData, challenges_with, bus_base}
use Rattle.p3_lookup.specs.Batch.{laid_out}

-- the challenges of instance t: for each of its lookups the base of its bus, then beta
abbrev pub instance_challenges : {F E : Type 0} → Ring E → ChallengesData E → List (List (LookupData F)) → ℕ → List E
instance_challenges e c tables t = laid_out e.zero c (bus_in tables t) 0 (length (get_or tables t []))

-- the challenges of each instance, these being the lookups instance by instance, from what was drawn for them: nothing, or the pair
abbrev pub batch_layout : {F E : Type 0} → Ring E → List E → List (List (LookupData F)) → List (List E)
batch_layout e (alpha ∷ beta ∷ rest) tables = tabulate (length tables) (instance_challenges e (challenges_with e alpha beta (widest tables) (bus_count (batch_buses tables))) tables)
batch_layout e drawn tables = map (λ _. []) tables

-- in the layout of a drawn pair, lookup k of instance t has the base of its bus, and beta, which is the same for all
pub record HasItsBase {F E : Type 0} (e : Ring E) (alpha beta : E) (tables : List (List (LookupData F))) (t k : ℕ) : Type 0 where
  pub base : get_or (get_or (batch_layout e (alpha ∷ beta ∷ []) tables) t []) (2 * k) e.zero ≡ bus_base e alpha beta (widest tables) (bus_in tables t k)
  pub combiner : get_or (get_or (batch_layout e (alpha ∷ beta ∷ []) tables) t []) (2 * k + 1) e.zero ≡ beta

abbrev pub LaysOutBases : {F E : Type 0} → Ring E → List (List (LookupData F)) → Type 0
LaysOutBases {E = E} e tables = (alpha beta : E) (t k : ℕ) → t < length tables → k < length (get_or tables t []) → HasItsBase e alpha beta tables t k

-- the lookup at this place has its bus opened at place o, by the places where names were before, which are then these: a local one by itself, a
-- global one where its name was, else by itself
abbrev pub OpensBy : (List ℕ → Option ℕ) → Bus → (place o : ℕ) → (List ℕ → Option ℕ) → Type 0
OpensBy before local place o after = (o ≡ place) × ((q : List ℕ) → after q ≡ before q)
OpensBy before (global name) place o after = (o ≡ unwrap_or (before name) place) × ((q : List ℕ) → after q ≡ update bytes_eq before name (Some o) q)
