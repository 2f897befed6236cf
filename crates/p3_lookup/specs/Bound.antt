-- The bound on multiplicities: on no bus may the counts of a batch, each as large as it is trusted to be, add up to the
-- order of the field. After Plonky3's p3-lookup (check_multiplicity_height_bound).
use Rattle.std.specs.Prelude.{◌≡◌, ℕ, suc, ◌+◌, ◌-◌, ◌*◌, ◌^◌, ◌<◌, ◌≤◌, ◌==◌, min, cond, Bool, List, [], ◌∷◌, ◌++◌, map, Result, Ok, Err}
use Rattle.p3_lookup.specs.declared.terminal.LookupError.{LookupError}
use Rattle.p3_lookup.specs.declared.terminal.LookupError.TheVariants.{MultiplicityBound, PermutationWidthMismatch, PermutationLengthMismatch, TerminalPresenceMismatch, CommitmentMismatch, TerminalSum}
use Rattle.p3_lookup.specs.Lookup.{LookupData}
use Rattle.p3_lookup.specs.Bus.{bus_number, bus_count, batch_buses, sum_of_bounds}

-- the load of each lookup of a batch, table after table: the sum of its bounds times its table's height
abbrev pub batch_loads : {F : Type 0} → List (List (LookupData F)) → List ℕ → List ℕ
batch_loads [] hs = []
batch_loads (ls ∷ tables) [] = []
batch_loads (ls ∷ tables) (h ∷ hs) = map (λ l. sum_of_bounds l.counts * h) ls ++ batch_loads tables hs

-- of loads that are numbered from n on, the sum of those whose number passes the test
abbrev pub load_where : (ℕ → Bool) → ℕ → List ℕ → ℕ
load_where test n [] = 0
load_where test n (x ∷ xs) = cond (test n) x 0 + load_where test (suc n) xs

-- the load of a bus: the sum of the loads of the lookups on it
abbrev pub bus_load : {F : Type 0} → List (List (LookupData F)) → List ℕ → ℕ → ℕ
bus_load tables heights b = load_where (λ n. bus_number (batch_buses tables) n == b) 0 (batch_loads tables heights)

-- each bus's load is below the order
abbrev pub HaveLoadsBelow : {F : Type 0} → ℕ → List (List (LookupData F)) → List ℕ → Type 0
HaveLoadsBelow order tables heights = (b : ℕ) → b < bus_count (batch_buses tables) → bus_load tables heights b < order

-- the number of a bus as a usize, which stops at the greatest one
abbrev pub capped : ℕ → ℕ
capped n = min n (2 ^ 64 - 1)

-- the first bus whose load reaches the order
pub record IsFirstOverload {F : Type 0} (order : ℕ) (tables : List (List (LookupData F))) (heights : List ℕ) (bus : ℕ) : Type 0 where
  pub number : ℕ
  pub named : bus ≡ capped number
  pub within : number < bus_count (batch_buses tables)
  pub reaches : order ≤ bus_load tables heights number
  pub before : (b : ℕ) → b < number → bus_load tables heights b < order

-- the answer for a batch: Ok exactly where each load is below the order, and else the first bus whose load isn't
abbrev pub IsBoundChecked : {F : Type 0} → ℕ → List (List (LookupData F)) → List ℕ → Result (Unit {0}) LookupError → Type 0
IsBoundChecked order tables heights (Ok x) = HaveLoadsBelow order tables heights
IsBoundChecked order tables heights (Err (MultiplicityBound bus)) = IsFirstOverload order tables heights bus
IsBoundChecked order tables heights (Err (PermutationWidthMismatch air expected)) = ⊥
IsBoundChecked order tables heights (Err (PermutationLengthMismatch air)) = ⊥
IsBoundChecked order tables heights (Err (TerminalPresenceMismatch air expected got)) = ⊥
IsBoundChecked order tables heights (Err CommitmentMismatch) = ⊥
IsBoundChecked order tables heights (Err TerminalSum) = ⊥
