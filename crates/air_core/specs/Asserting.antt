-- What calls assert one after another, over any states and expressions: also where an expression represents no tree.
use Rattle.std.specs.Prelude.{◌≡◌, ◌≤◌, ℕ, List, [], ◌∷◌, length, take}
use Rattle.air_core.specs.Tree.{Tree, constant}
use Rattle.air_core.specs.Operation.{Operation, minus, times}

-- one expression was asserted, in a state in which it is what was to be asserted
pub record AssertsOne {S E : Type 0} (gives : S → E → Type 0) (asserts : S → E → S → Type 0) (b : S) : Type 0 where
  pub before : S
  pub expression : E
  pub given : gives before expression
  pub asserted : asserts before expression b

-- in the state b, e is what x (x - 1) was computed as: from an expression for one x - 1, and from this the product
pub record ComputesBool {S E F : Type 0} (represents : S → E → Tree F → Type 0) (computes : S → Operation → E → E → S → E → Type 0) (one : F) (x : E) (b : S) (e : E) : Type 0 where
  pub first : S
  pub second : S
  pub unit : E
  pub less_one : E
  pub unit_represents : represents first unit (constant one)
  pub less_one_computed : computes first minus x unit second less_one
  pub product_computed : computes second times x less_one b e

-- x (x - 1) was asserted, which was computed as above, and nothing was appended before
abbrev pub AssertsBool : {S E F A B : Type 0} → (S → E → Tree F → Type 0) → (S → Operation → E → E → S → E → Type 0) → (S → S → List A → List B → Type 0) → (S → E → S → Type 0) → F → S → E → S → Type 0
AssertsBool represents computes appends asserts one a x b = AssertsOne (λ m e. appends a m [] [] × ComputesBool represents computes one x m e) asserts b

-- each item was asserted in turn, from the first state to the last
abbrev pub AssertsEach : {S E : Type 0} → (S → E → S → Type 0) → List E → S → S → Type 0
AssertsEach asserts [] a b = b ≡ a
AssertsEach {S = S} asserts (x ∷ xs) a b = (m : S) × (asserts a x m × AssertsEach asserts xs m b)

-- some of the first items were asserted in turn, and then nothing was appended
pub record AssertsFirst {S E : Type 0} (quiet : S → S → Type 0) (asserts : S → E → S → Type 0) (xs : List E) (a b : S) : Type 0 where
  pub count : ℕ
  pub within : count ≤ length xs
  pub before : S
  pub asserted : AssertsEach asserts (take count xs) a before
  pub quiet_after : quiet before b
