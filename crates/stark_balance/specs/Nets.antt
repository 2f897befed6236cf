-- Nets: for each bus and tuple that is sent, the sum of its counts (not in Plonky3).
use Rattle.std.specs.Prelude.{◌≡◌, ℕ, ◌<◌, cond, Bool, List, [], ◌∷◌, length, map, All, Contains}
use Rattle.std.specs.declared.cmp.Ordering.{Ordering}
use Rattle.std.specs.declared.cmp.Ordering.TheVariants.{Less, Equal, Greater}
use Rattle.std.specs.Ordering.{nat_cmp}
use Rattle.std.specs.Cmp.Lexicographic.{slice_cmp}
use Rattle.std.specs.Prelude.{slice_index_or as get_or}
use Rattle.p3_field.specs.Ring.{Ring}
use Rattle.p3_lookup.specs.Messages.{Message, is_of, net}

-- both messages send one tuple on one bus
abbrev pub ArePaired : {F : Type 0} → (m n : Message F) → Type 0
ArePaired m n = (m.bus ≡ n.bus) × (m.tuple ≡ n.tuple)

-- the test of it
abbrev pub are_paired : {F : Type 0} → (F → F → Bool) → Message F → Message F → Bool
are_paired eq m n = is_of eq n.bus n.tuple m

-- Of a message m and an entry n, by how they compare: m's count is added to n's, or m goes before n, or else m goes to the entries after n, which gives `rest`.
abbrev pub placed : {F : Type 0} → Ring F → Ordering → (n : Message F) → (ns : List (Message F)) → (m : Message F) → (rest : List (Message F)) → List (Message F)
placed f Less n ns m rest = m ∷ n ∷ ns
placed f Equal n ns m rest = record n { count = f.add n.count m.count } ∷ ns
placed f Greater n ns m rest = n ∷ rest

module _ {F : Type 0} (f : Ring F) (compare : Message F → Message F → Ordering) where
  -- a message's count goes to the entry that compares as equal; without one the message goes before the first entry that is greater, or last
  abbrev pub with_message : List (Message F) → Message F → List (Message F)
  with_message [] m = m ∷ []
  with_message (n ∷ ns) m = placed f (compare m n) n ns m (with_message ns m)

  abbrev pub nets_onto : List (Message F) → List (Message F) → List (Message F)
  nets_onto ns [] = ns
  nets_onto ns (m ∷ ms) = nets_onto (with_message ns m) ms

  abbrev pub nets_by : List (Message F) → List (Message F)
  nets_by ms = nets_onto [] ms

-- equal where both send one tuple on one bus; else the message comes after the entry
abbrev pub as_sent : {F : Type 0} → (F → F → Bool) → Message F → Message F → Ordering
as_sent eq m n = cond (are_paired eq m n) Equal Greater

-- the numbers by which entries are ordered: the bus's, then those of the tuple's values
abbrev pub key : {F : Type 0} → (F → ℕ) → Message F → List ℕ
key canonical m = m.bus ∷ map canonical m.tuple

-- the first number that differs decides, and a list comes before what it begins
abbrev pub by_key : {F : Type 0} → (F → ℕ) → Message F → Message F → Ordering
by_key canonical m n = slice_cmp nat_cmp (key canonical m) (key canonical n)

-- one entry for each bus and tuple that is sent, with the sum of its counts, ordered by the bus and then by the tuple's numbers, a prefix first
abbrev pub net_counts : {F : Type 0} → Ring F → (F → ℕ) → List (Message F) → List (Message F)
net_counts f canonical ms = nets_by f (by_key canonical) ms

-- each entry is less than those after it
abbrev pub AreAscending : {F : Type 0} → (Message F → Message F → Ordering) → List (Message F) → Type 0
AreAscending {F} compare ns = (i j : ℕ) (d : Message F) → i < j → j < length ns → compare (get_or ns i d) (get_or ns j d) ≡ Less

module _ {F : Type 0} (f : Ring F) (eq : F → F → Bool) where
  -- one entry for each bus and tuple that is sent, with the sum of its counts, in the order in which they are first sent
  abbrev pub nets : List (Message F) → List (Message F)
  nets ms = nets_by f (as_sent eq) ms

  -- The entries are the nets of the messages: one for each bus and tuple that is sent, with the sum of its counts.
  pub record AreNets (ms ns : List (Message F)) : Type 0 where
    pub counts : All (λ n. n.count ≡ net f eq ms n.bus n.tuple) ns
    pub apart : (i j : ℕ) (d : Message F) → i < j → j < length ns → ArePaired (get_or ns i d) (get_or ns j d) → ⊥
    pub sent : All (λ n. (m : Message F) × Contains ms m × ArePaired m n) ns
    pub whole : All (λ m. (n : Message F) × Contains ns n × ArePaired m n) ms
