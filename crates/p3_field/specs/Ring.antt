-- Commutative rings: their operations as plain data, and the laws of these operations.
use Rattle.std.specs.Prelude.{◌≡◌, ℕ, zero, suc}

-- the operations of a commutative ring on `A`
pub record Ring (A : Type 0) : Type 0 where
  pub zero : A
  pub one : A
  pub add : A → A → A
  pub mul : A → A → A
  pub neg : A → A

-- the laws of a commutative ring with one
pub record RingLaws {A : Type 0} (r : Ring A) : Type 0 where
  pub add_comm : (x y : A) → r.add x y ≡ r.add y x
  pub add_assoc : (x y z : A) → r.add (r.add x y) z ≡ r.add x (r.add y z)
  pub add_zero : (x : A) → r.add x r.zero ≡ x
  pub add_neg : (x : A) → r.add x (r.neg x) ≡ r.zero
  pub mul_comm : (x y : A) → r.mul x y ≡ r.mul y x
  pub mul_assoc : (x y z : A) → r.mul (r.mul x y) z ≡ r.mul x (r.mul y z)
  pub mul_one : (x : A) → r.mul x r.one ≡ x
  pub mul_add : (x y z : A) → r.mul x (r.add y z) ≡ r.add (r.mul x y) (r.mul x z)

-- `x` minus `y`
abbrev pub sub : {A : Type 0} → Ring A → A → A → A
sub r x y = r.add x (r.neg y)

-- `x` to the power `n`: the product of `n` factors `x`
unfoldable pub pow : {A : Type 0} → Ring A → A → ℕ → A
pow r x zero = r.one
pow r x (suc n) = r.mul x (pow r x n)

-- the sum of `n` ones
unfoldable pub of_nat : {A : Type 0} → Ring A → ℕ → A
of_nat r zero = r.zero
of_nat r (suc n) = r.add r.one (of_nat r n)
