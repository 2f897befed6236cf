-- Messages: what tables send on buses, row by row, and how much of each is left over. After Plonky3's p3-lookup.
use Rattle.std.specs.Prelude.{◌≡◌, ℕ, zero, suc, ◌+◌, ◌*◌, ◌<◌, ◌&&◌, nat_eq, cond, Bool, List, [], ◌∷◌, ◌++◌, length, map, flat_map}
use Rattle.std.specs.Prelude.{slice_index_or as get_or}
use Rattle.std.specs.Cmp.Lexicographic.{pointwise}
use Rattle.p3_field.specs.Ring.{Ring}
use Rattle.p3_field.specs.Poly.{tabulate}
use Rattle.air_core.specs.Tree.{Tree}
use Rattle.p3_lookup.specs.Lookup.{LookupData, Sent, sent}
use Rattle.p3_lookup.specs.Term.{sum_of, denominator}
use Rattle.p3_lookup.specs.Honest.{Argument, argument, running_sum}

-- a tuple of values, the number of the bus on which it is sent, and how often
pub record Message (F : Type 0) : Type 0 where
  pub bus : ℕ
  pub tuple : List F
  pub count : F

-- a table as far as it sends: its lookups, the number of each one's bus, its rows, and the value of a tree in each
pub record Sender (F : Type 0) : Type 0 where
  pub lookups : List (LookupData F)
  pub bus : ℕ → ℕ
  pub rows : ℕ
  pub value : ℕ → Tree F → F

abbrev pub message : {F : Type 0} → (Tree F → F) → ℕ → Sent (Tree F) → Message F
message v b s = record { bus = b; tuple = map v s.tuple; count = v s.count }

-- the messages of a row, whose lookups are those from n on
abbrev pub messages_from : {F : Type 0} → (Tree F → F) → (ℕ → ℕ) → ℕ → List (LookupData F) → List (Message F)
messages_from v bus n [] = []
messages_from v bus n (l ∷ ls) = map (message v (bus n)) (sent l) ++ messages_from v bus (suc n) ls

-- one message for each row and tuple
abbrev pub table_messages : {F : Type 0} → Sender F → List (Message F)
table_messages s = flat_map (λ i. messages_from (s.value i) s.bus 0 s.lookups) (tabulate s.rows (λ i. i))

-- the messages of all tables of a batch
abbrev pub batch_messages : {F : Type 0} → List (Sender F) → List (Message F)
batch_messages ss = flat_map table_messages ss

-- the message sends this tuple on this bus
abbrev pub is_of : {F : Type 0} → (F → F → Bool) → ℕ → List F → Message F → Bool
is_of eq b t m = nat_eq m.bus b && pointwise eq m.tuple t

-- the net of a bus and a tuple: the sum of the counts of all messages that send the tuple on the bus
abbrev pub net : {F : Type 0} → Ring F → (F → F → Bool) → List (Message F) → ℕ → List F → F
net f eq ms b t = sum_of f (map (λ m. cond (is_of eq b t m) m.count f.zero) ms)

-- nothing is left over on any bus
abbrev pub IsBalanced : {F : Type 0} → Ring F → (F → F → Bool) → List (Message F) → Type 0
IsBalanced {F = F} f eq ms = (b : ℕ) (t : List F) → net f eq ms b t ≡ f.zero

-- the denominator of a message, where each bus has its base
abbrev pub message_denominator : {F E : Type 0} → Ring E → (F → E) → (ℕ → E) → E → Message F → E
message_denominator e embed base beta m = denominator e (base m.bus) beta (map embed m.tuple)

-- the challenges of a table: for each lookup the base of its bus, then beta
pub record HasBases {E : Type 0} (z : E) (base : ℕ → E) (beta : E) (bus : ℕ → ℕ) (lookups : ℕ) (challenges : List E) : Type 0 where
  pub bases : (n : ℕ) → n < lookups → get_or challenges (2 * n) z ≡ base (bus n)
  pub betas : (n : ℕ) → n < lookups → get_or challenges (2 * n + 1) z ≡ beta

-- what fixes the permutation columns of a table, with these challenges
abbrev pub argument_of : {F E : Type 0} → Ring E → (E → E) → (F → E) → List E → Sender F → Argument F E
argument_of e inv embed challenges s = argument e inv challenges s.lookups (λ i t. embed (s.value i t))

-- the base of each lookup's bus and beta, these being m lookups from number n on
abbrev pub challenges_from : {E : Type 0} → (ℕ → E) → E → (ℕ → ℕ) → ℕ → ℕ → List E
challenges_from base beta bus n zero = []
challenges_from base beta bus n (suc m) = base (bus n) ∷ beta ∷ challenges_from base beta bus (suc n) m

-- the challenges of a table
abbrev pub challenges_of : {F E : Type 0} → (ℕ → E) → E → Sender F → List E
challenges_of base beta s = challenges_from base beta s.bus 0 (length s.lookups)

-- a table's terminal, where each bus has its base
abbrev pub terminal_of : {F E : Type 0} → Ring E → (E → E) → (F → E) → (ℕ → E) → E → Sender F → E
terminal_of e inv embed base beta s = running_sum (argument_of e inv embed (challenges_of base beta s) s) s.rows

-- where nothing is left over on any bus, the terminals of the tables sum to zero, whatever the bases and beta
abbrev pub BalancedSum : {F E : Type 0} → Ring F → (F → F → Bool) → Ring E → (E → E) → (F → E) → List (Sender F) → Type 0
BalancedSum {E = E} f eq e inv embed ss =
    IsBalanced f eq (batch_messages ss) → (base : ℕ → E) (beta : E) → sum_of e (map (terminal_of e inv embed base beta) ss) ≡ e.zero
