-- Sums of words bit by bit, over fields in which 1 + 1 is zero. After Plonky3's p3-blake3-air (binary).
use Rattle.std.specs.Prelude.{ℕ, zero, suc, ◌+◌, ◌/◌, List, ◌∷◌, ◌++◌}
use Rattle.std.specs.Int.{bit_at}
use Rattle.p3_field.specs.Poly.{tabulate}
use Rattle.air_core.specs.Tree.{Tree, sum, product}
use Rattle.air_gadgets.specs.Gadgets.{rotated_place}

-- (x + z) (y + z) + z: of bits in characteristic 2, the one that two of them have
abbrev pub majority : {F : Type 0} → Tree F → Tree F → Tree F → Tree F
majority x y z = sum (product (sum x z) (sum y z)) z

-- s + x + y at place i: the carry into that place, where s is the sum of x and y
abbrev pub carry_in : {F : Type 0} → (x y s : ℕ → Tree F) → ℕ → Tree F
carry_in x y s i = sum (sum (s i) (x i)) (y i)

-- s is x + y modulo 2^32: no carry comes into place 0, and into the others the carry of the place below
unfoldable pub sum2_trees : {F : Type 0} → (x y s : ℕ → Tree F) → List (Tree F)
sum2_trees x y s = carry_in x y s 0 ∷ tabulate 31 (λ i. sum (majority (x i) (y i) (carry_in x y s i)) (carry_in x y s (suc i)))

-- the sum of x and y bit by bit, with the carries k into places 1 to 31
abbrev pub with_carries : {F : Type 0} → (x y k : ℕ → Tree F) → ℕ → Tree F
with_carries x y k zero = sum (x 0) (y 0)
with_carries x y k (suc i) = sum (sum (x (suc i)) (y (suc i))) (k i)

-- k has the carries of x + y into places 1 to 31
unfoldable pub carries_trees : {F : Type 0} → (x y k : ℕ → Tree F) → List (Tree F)
carries_trees x y k = sum (product (x 0) (y 0)) (k 0) ∷ tabulate 30 (λ i. sum (majority (x (suc i)) (y (suc i)) (k i)) (k (suc i)))

-- k has the carries of x + y, and s is x + y + z modulo 2^32
unfoldable pub sum3_trees : {F : Type 0} → (x y z k s : ℕ → Tree F) → List (Tree F)
sum3_trees x y z k s = carries_trees x y k ++ sum2_trees (with_carries x y k) z s

-- x xor (y turned to the left by s), bit by bit
abbrev pub turned : {F : Type 0} → (x y : ℕ → Tree F) → ℕ → ℕ → Tree F
turned x y s i = sum (x i) (y (rotated_place s i))

-- half of a step, which turns d by s and b by t, on the words a, b, c, d before it, the message word m, the carries k
-- of a + b, and d and b after it
unfoldable pub binary_half_trees : {F : Type 0} → ℕ → ℕ → (a b c d m k d' b' : ℕ → Tree F) → List (Tree F)
binary_half_trees s t a b c d m k d' b' = sum3_trees a b m k (turned d d' s) ++ sum2_trees c d' (turned b b' t)

-- the carry into place i of X + Y
unfoldable pub carry : ℕ → ℕ → ℕ → ℕ
carry X Y zero = 0
carry X Y (suc i) = (bit_at X i + bit_at Y i + carry X Y i) / 2
