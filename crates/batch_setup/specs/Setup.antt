-- What a prover of a batch is given. After Plonky3's p3-batch-stark (StarkInstance).
use Rattle.std.specs.Int.{IsPowerOfTwo}
use Rattle.std.specs.Prelude.{◌≡◌, ℕ, zero, suc, ◌+◌, ◌^◌, cond, nat_lt, List, [], ◌∷◌, All, length, map}
use Rattle.p3_matrix.specs.Matrix.{Rows, height}
use Rattle.batch_setup.specs.declared.error.SetupError.{SetupError}
use Rattle.batch_setup.specs.declared.error.SetupError.TheVariants.{LengthMismatch, PreprocessedHeight, Pcs, LookupBudget, OutOfMemory}

-- a table to be proved: its AIR, its trace, and its public values
pub record Instance (A F : Type 0) : Type 0 where
  pub air : A
  pub trace : Rows F
  pub public_values : List F

-- the instances of AIRs with the traces and the public values at their places, as far as the shortest list
abbrev pub instances_of : {A F : Type 0} → List A → List (Rows F) → List (List F) → List (Instance A F)
instances_of [] ts ps = []
instances_of (a ∷ bs) [] ps = []
instances_of (a ∷ bs) (t ∷ ts) [] = []
instances_of (a ∷ bs) (t ∷ ts) (p ∷ ps) = record { air = a; trace = t; public_values = p } ∷ instances_of bs ts ps

-- there are as many traces and lists of public values as AIRs
pub record HaveOneLength {A F : Type 0} (airs : List A) (traces : List (Rows F)) (publics : List (List F)) : Type 0 where
  pub traces_long : length traces ≡ length airs
  pub publics_long : length publics ≡ length airs

-- the refusal of lists that differ in their lengths; out of memory comes only where they don't, since till then none is wanted
abbrev pub IsLengthMismatch : {A F E : Type 0} → List A → List (Rows F) → List (List F) → SetupError E → Type 0
IsLengthMismatch airs traces publics LengthMismatch = HaveOneLength airs traces publics → ⊥
IsLengthMismatch airs traces publics (PreprocessedHeight instance) = ⊥
IsLengthMismatch airs traces publics (Pcs phase source) = ⊥
IsLengthMismatch airs traces publics (LookupBudget instance log_chunks log_blowup) = ⊥
IsLengthMismatch airs traces publics OutOfMemory = HaveOneLength airs traces publics

-- the AIRs of instances, in order
abbrev pub airs_of : {A F : Type 0} → List (Instance A F) → List A
airs_of instances = map (λ i. i.air) instances

-- the height of each instance's trace is a power of two
abbrev pub ArePowers : {A F : Type 0} → List (Instance A F) → Type 0
ArePowers instances = All (λ i. IsPowerOfTwo (height i.trace)) instances

-- how many of the first k powers of two are below n
unfoldable pub powers_of_two_below : (k n : ℕ) → ℕ
powers_of_two_below zero n = 0
powers_of_two_below (suc k) n = powers_of_two_below k n + cond (nat_lt (2 ^ k) n) 1 0

-- the logarithm of a power of two: how many powers of two are below it
unfoldable pub log_of : ℕ → ℕ
log_of n = powers_of_two_below n n

-- the degree bits of instances: the logarithm of each trace's height, and one more where the backend masks
abbrev pub bits_of : {A F : Type 0} → (masks : ℕ) → List (Instance A F) → List ℕ
bits_of masks instances = map (λ i. log_of (height i.trace) + masks) instances
