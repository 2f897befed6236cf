-- A batch of tables that send to each other. The buses of their lookups are numbered over the whole batch, and the
-- challenges of a lookup are the base of its bus, and beta. After Plonky3's p3-lookup (Challenges).
use Rattle.std.specs.Prelude.{◌≡◌, ℕ, zero, suc, Bool, List, [], ◌∷◌, length, map, flat_map, All}
use Rattle.std.specs.Prelude.{slice_index_or as get_or}
use Rattle.p3_field.specs.Ring.{Ring}
use Rattle.air_core.specs.Tree.{Tree}
use Rattle.p3_lookup.specs.Lookup.{LookupData}
use Rattle.p3_lookup.specs.Term.{sum_of}
use Rattle.p3_lookup.specs.Honest.{running_sum}
use Rattle.p3_lookup.specs.Bus.{bus_in, bus_count, batch_buses, widest, HaveOneWidth}
use Rattle.p3_lookup.specs.Challenge.{ChallengesData, challenges_with}
use Rattle.p3_lookup.specs.Messages.{Message, Sender, batch_messages, IsBalanced, argument_of}

-- a table of a batch as far as it sends: its lookups, its rows, and the value of a tree in each
pub record SendingTable (F : Type 0) : Type 0 where
  pub lookups : List (LookupData F)
  pub rows : ℕ
  pub value : ℕ → Tree F → F

abbrev pub batch_lookups : {F : Type 0} → List (SendingTable F) → List (List (LookupData F))
batch_lookups ts = map (λ t. t.lookups) ts

-- tables from number t on as senders, where lookup n of table k is on bus `bus k n`
abbrev pub senders_from : {F : Type 0} → (ℕ → ℕ → ℕ) → ℕ → List (SendingTable F) → List (Sender F)
senders_from bus t [] = []
senders_from bus t (x ∷ xs) = record { lookups = x.lookups; bus = bus t; rows = x.rows; value = x.value } ∷ senders_from bus (suc t) xs

-- the tables as senders, with the numbers of their lookups' buses in the batch
abbrev pub senders : {F : Type 0} → List (SendingTable F) → List (Sender F)
senders ts = senders_from (bus_in (batch_lookups ts)) 0 ts

-- the challenges of a batch, for two drawn values: the base of each of its buses goes by the width of its widest tuple
abbrev pub batch_challenges : {F E : Type 0} → Ring E → E → E → List (SendingTable F) → ChallengesData E
batch_challenges e alpha beta ts = challenges_with e alpha beta (widest (batch_lookups ts)) (bus_count (batch_buses (batch_lookups ts)))

-- the challenges of m lookups from number n on: for each the base of its bus, then beta
abbrev pub laid_out : {E : Type 0} → E → ChallengesData E → (ℕ → ℕ) → ℕ → ℕ → List E
laid_out z c bus n zero = []
laid_out z c bus n (suc m) = get_or c.bus_prefix (bus n) z ∷ c.beta ∷ laid_out z c bus (suc n) m

-- the terminal of a table whose lookups have the challenges of a batch
abbrev pub laid_out_terminal : {F E : Type 0} → Ring E → (E → E) → (F → E) → ChallengesData E → Sender F → E
laid_out_terminal e inv embed c s = running_sum (argument_of e inv embed (laid_out e.zero c s.bus 0 (length s.lookups)) s) s.rows

-- where nothing is left over on any bus of the batch, the terminals of its tables sum to zero, whatever is drawn
abbrev pub BalancedBatch : {F E : Type 0} → Ring F → (F → F → Bool) → Ring E → (E → E) → (F → E) → List (SendingTable F) → Type 0
BalancedBatch {E = E} f eq e inv embed ts =
    IsBalanced f eq (batch_messages (senders ts)) → (alpha beta : E)
    → sum_of e (map (laid_out_terminal e inv embed (batch_challenges e alpha beta ts)) (senders ts)) ≡ e.zero

-- messages on one bus have tuples of one width
abbrev pub AreOfOneWidth : {F : Type 0} → List (Message F) → Type 0
AreOfOneWidth ms = All (λ a. All (λ b. a.bus ≡ b.bus → length a.tuple ≡ length b.tuple) ms) ms

-- where the lookups of a batch have one width on each bus, so do its messages
abbrev pub WidthsPassOn : {F : Type 0} → List (SendingTable F) → Type 0
WidthsPassOn ts = HaveOneWidth (flat_map (λ ls. ls) (batch_lookups ts)) → AreOfOneWidth (batch_messages (senders ts))
