-- Bits as elements of a ring: what x (x - 1) and x + y - 2xy are of them.
use Rattle.std.proofs.Common.{◌≡◌, ℕ, zero, suc, ◌+◌, ◌*◌, ◌%◌, ◌<◌, ◌⊎◌, inl, inr, refl, sym, ◌∙◌, ap, arith, lit<}
use Rattle.std.specs.Prelude.{bit_xor}
use Rattle.p3_field.specs.Ring.{Ring, RingLaws, of_nat, sub}
use Rattle.p3_field.specs.Laws.Algebra.{mul_zero, zero_mul, of_nat_add, of_nat_mul}
use Rattle.p3_field.specs.Laws.Roots.{NoZeroDivisors, sub_zero, sub_self}
use Rattle.air_core.specs.declared.cells.Cell.{Cell}
use Rattle.air_core.specs.declared.cells.ExtCell.{ExtCell}
use Rattle.air_core.specs.Tree.{eval_tree}
use Rattle.air_gadgets.specs.Words.{cells_reading, IsBit, TellsDifference, BoolMeans, XorMeans}

xor_number : (m n : ℕ) → m < 2 → n < 2 → m + n ≡ (m + n) % 2 + 2 * (m * n)
xor_number zero n a b = let e : zero * n ≡ 0 = omega arith in omega (arith, e, b)
xor_number (suc zero) n a b = let e : suc zero * n ≡ n = omega arith in omega (arith, e, b)
xor_number (suc (suc m)) n a b = absurd (omega (arith, a))

xor_is : (m n : ℕ) → m < 2 → n < 2 → (m + n) % 2 ≡ bit_xor m n
xor_is zero zero a b = refl
xor_is zero (suc zero) a b = refl
xor_is (suc zero) zero a b = refl
xor_is (suc zero) (suc zero) a b = refl
xor_is zero (suc (suc n)) a b = absurd (omega (arith, b))
xor_is (suc zero) (suc (suc n)) a b = absurd (omega (arith, b))
xor_is (suc (suc m)) n a b = absurd (omega (arith, a))

module _ {A : Type 0} (r : Ring A) (L : RingLaws r) where
  -- x + y - 2xy is the exclusive or of bits
  pub xor_value : (x y : A) (m n : ℕ) → m < 2 → n < 2 → x ≡ of_nat r m → y ≡ of_nat r n → sub r (r.add x y) (r.mul (of_nat r 2) (r.mul x y)) ≡ of_nat r ((m + n) % 2)
  xor_value x y m n a b e f =
      let z = (m + n) % 2 in
      let k = 2 * (m * n) in
      let sum : r.add x y ≡ of_nat r (z + k) = cc (e, f, of_nat_add r L m n, xor_number m n a b) in
      let twice : r.mul (of_nat r 2) (r.mul x y) ≡ of_nat r k = cc (e, f, of_nat_mul r L m n, of_nat_mul r L 2 (m * n)) in
      cc (sum, twice, of_nat_add r L z k, L.add_assoc (of_nat r z) (of_nat r k) (r.neg (of_nat r k)), L.add_neg (of_nat r k), L.add_zero (of_nat r z))

  pub of_one : of_nat r 1 ≡ r.one
  unfolding of_nat
  of_one = L.add_zero r.one

  of_zero : of_nat r 0 ≡ r.zero
  unfolding of_nat
  of_zero = refl

  -- x (x - 1) is zero where x is zero or one
  pub bit_vanishes : (x : A) → IsBit r x → r.mul x (sub r x r.one) ≡ r.zero
  bit_vanishes x (inl h) = ap (λ v. r.mul v (sub r x r.one)) h ∙ zero_mul r L (sub r x r.one)
  bit_vanishes x (inr h) = ap (r.mul x) (sub_self r L x r.one h) ∙ mul_zero r L x

  vanishing : NoZeroDivisors r → (x : A) → (x ≡ r.zero) ⊎ (x ≡ r.zero → ⊥) → r.mul x (sub r x r.one) ≡ r.zero → IsBit r x
  vanishing N x (inl h) e = inl h
  vanishing N x (inr d) e = inr (sub_zero r L x r.one (N x (sub r x r.one) d e))

  -- zero and one as numbers
  pub bool_value : (x : A) (n : ℕ) → n < 2 → x ≡ of_nat r n → r.mul x (sub r x r.one) ≡ r.zero
  bool_value x zero a e = bit_vanishes x (inl (e ∙ of_zero))
  bool_value x (suc zero) a e = bit_vanishes x (inr (e ∙ of_one))
  bool_value x (suc (suc n)) a e = absurd (omega (arith, a))

  xor_at : (x y : A) (m n : ℕ) → m < 2 → n < 2 → x ≡ of_nat r m → y ≡ of_nat r n → sub r (r.add x y) (r.mul (of_nat r 2) (r.mul x y)) ≡ of_nat r (bit_xor m n)
  xor_at x y m n a b e f = xor_value x y m n a b e f ∙ ap (of_nat r) (xor_is m n a b)

  pub xor_means : (at : Cell → A) (at_ext : ExtCell → A) → XorMeans r (cells_reading r at at_ext)
  xor_means at at_ext s t m n a b e f = xor_at _ _ m n a b e f

  -- of values that are zero or one the xor is zero where they are equal, and else one
  pub xor_tells : (r.one ≡ r.zero → ⊥) → (x y : A) → IsBit r x → IsBit r y → TellsDifference r x y (sub r (r.add x y) (r.mul (of_nat r 2) (r.mul x y)))
  xor_tells d x y (inl h) (inl k) = inl (h ∙ sym k, xor_at x y 0 0 (lit< tt) (lit< tt) (h ∙ sym of_zero) (k ∙ sym of_zero) ∙ of_zero)
  xor_tells d x y (inl h) (inr k) = inr ((λ e. d (sym k ∙ (sym e ∙ h))), xor_at x y 0 1 (lit< tt) (lit< tt) (h ∙ sym of_zero) (k ∙ sym of_one) ∙ of_one)
  xor_tells d x y (inr h) (inl k) = inr ((λ e. d (sym h ∙ (e ∙ k))), xor_at x y 1 0 (lit< tt) (lit< tt) (h ∙ sym of_one) (k ∙ sym of_zero) ∙ of_one)
  xor_tells d x y (inr h) (inr k) = inl (h ∙ sym k, xor_at x y 1 1 (lit< tt) (lit< tt) (h ∙ sym of_one) (k ∙ sym of_one) ∙ of_zero)

  -- where a product is zero only where a factor is, x (x - 1) is zero exactly where x is zero or one
  pub bool_means : NoZeroDivisors r → ((x y : A) → (x ≡ y) ⊎ (x ≡ y → ⊥)) → (at : Cell → A) (at_ext : ExtCell → A) → BoolMeans r (cells_reading r at at_ext)
  bool_means N decided at at_ext t =
      let x = eval_tree (cells_reading r at at_ext) t in
      ((λ e. vanishing N x (decided x r.zero) e), bit_vanishes x)
