-- First consequences of the laws of a commutative ring.
use Rattle.std.proofs.Common.{◌≡◌, ◌≢◌, ℕ, zero, suc, ◌+◌, ◌*◌, ◌/◌, ◌%◌, ◌^◌, ◌<◌, List, ◌∷◌, length, get_or, drop, sym, ◌∙◌, ap, arith, add-one, drop-cons}
use Rattle.std.proofs.Math.Nat.{pow-suc}
use Rattle.p3_field.specs.Ring.{Ring, RingLaws, pow, of_nat}
use Rattle.p3_field.specs.Poly.{eval_poly}

module _ {A : Type 0} (r : Ring A) (L : RingLaws r) where
  pub zero_add : (x : A) → r.add r.zero x ≡ x
  zero_add x = L.add_comm r.zero x ∙ L.add_zero x

  pub one_mul : (x : A) → r.mul r.one x ≡ x
  one_mul x = L.mul_comm r.one x ∙ L.mul_one x

  pub add_mul : (x y z : A) → r.mul (r.add x y) z ≡ r.add (r.mul x z) (r.mul y z)
  add_mul x y z = cc (L.mul_comm (r.add x y) z, L.mul_add z x y, L.mul_comm z x, L.mul_comm z y)

  pub add_swap : (a b c d : A) → r.add (r.add a b) (r.add c d) ≡ r.add (r.add a c) (r.add b d)
  add_swap a b c d = cc (L.add_assoc a b (r.add c d), L.add_assoc b c d, L.add_comm b c, L.add_assoc c b d, L.add_assoc a c (r.add b d))

  pub mul_swap : (a b c d : A) → r.mul (r.mul a b) (r.mul c d) ≡ r.mul (r.mul a c) (r.mul b d)
  mul_swap a b c d = cc (L.mul_assoc a b (r.mul c d), L.mul_assoc b c d, L.mul_comm b c, L.mul_assoc c b d, L.mul_assoc a c (r.mul b d))

  -- what is added on both sides may go
  pub add_cancel : (x y z : A) → r.add x y ≡ r.add x z → y ≡ z
  add_cancel x y z e =
      let n = r.neg x in
      cc (e, L.add_assoc n x y, L.add_assoc n x z, L.add_comm n x, L.add_neg x, zero_add y, zero_add z)

  pub mul_zero : (x : A) → r.mul x r.zero ≡ r.zero
  mul_zero x = add_cancel (r.mul x r.zero) (r.mul x r.zero) r.zero
      (sym (L.mul_add x r.zero r.zero) ∙ (ap (r.mul x) (L.add_zero r.zero) ∙ sym (L.add_zero (r.mul x r.zero))))

  pub zero_mul : (x : A) → r.mul r.zero x ≡ r.zero
  zero_mul x = L.mul_comm r.zero x ∙ mul_zero x

  -- the only opposite
  pub neg_unique : (x y : A) → r.add x y ≡ r.zero → y ≡ r.neg x
  neg_unique x y e = add_cancel x y (r.neg x) (e ∙ sym (L.add_neg x))

  pub neg_zero : r.neg r.zero ≡ r.zero
  neg_zero = sym (neg_unique r.zero r.zero (L.add_zero r.zero))

  pub neg_neg : (x : A) → r.neg (r.neg x) ≡ x
  neg_neg x = sym (neg_unique (r.neg x) x (L.add_comm (r.neg x) x ∙ L.add_neg x))

  pub neg_add : (x y : A) → r.neg (r.add x y) ≡ r.add (r.neg x) (r.neg y)
  neg_add x y = sym (neg_unique (r.add x y) (r.add (r.neg x) (r.neg y))
      (add_swap x y (r.neg x) (r.neg y) ∙ cc (L.add_neg x, L.add_neg y, L.add_zero r.zero)))

  pub neg_mul : (x y : A) → r.mul (r.neg x) y ≡ r.neg (r.mul x y)
  neg_mul x y = neg_unique (r.mul x y) (r.mul (r.neg x) y)
      (sym (add_mul x (r.neg x) y) ∙ cc (L.add_neg x, zero_mul y))

  pub mul_neg : (x y : A) → r.mul x (r.neg y) ≡ r.neg (r.mul x y)
  mul_neg x y = cc (L.mul_comm x (r.neg y), neg_mul y x, L.mul_comm y x)

  pub neg_mul_neg : (x y : A) → r.mul (r.neg x) (r.neg y) ≡ r.mul x y
  neg_mul_neg x y = cc (neg_mul x (r.neg y), mul_neg x y, neg_neg (r.mul x y))

  -- sums of ones
  pub of_nat_add : (m n : ℕ) → of_nat r (m + n) ≡ r.add (of_nat r m) (of_nat r n)
  unfolding of_nat
  of_nat_add zero n = let e : zero + n ≡ n = omega arith in ap (of_nat r) e ∙ sym (zero_add (of_nat r n))
  of_nat_add (suc m) n =
      let e : suc m + n ≡ suc (m + n) = omega arith in
      ap (of_nat r) e ∙ (ap (r.add r.one) (of_nat_add m n) ∙ sym (L.add_assoc r.one (of_nat r m) (of_nat r n)))

  pub of_nat_mul : (m n : ℕ) → of_nat r (m * n) ≡ r.mul (of_nat r m) (of_nat r n)
  unfolding of_nat
  of_nat_mul zero n = let e : zero * n ≡ zero = omega arith in ap (of_nat r) e ∙ sym (zero_mul (of_nat r n))
  of_nat_mul (suc m) n =
      let e : suc m * n ≡ n + m * n = omega arith in
      ap (of_nat r) e ∙ (of_nat_add n (m * n) ∙
      cc (of_nat_mul m n, add_mul r.one (of_nat r m) (of_nat r n), one_mul (of_nat r n)))

  pub pow_add : (x : A) (m n : ℕ) → pow r x (m + n) ≡ r.mul (pow r x m) (pow r x n)
  unfolding pow
  pow_add x zero n = let e : zero + n ≡ n = omega arith in ap (pow r x) e ∙ sym (one_mul (pow r x n))
  pow_add x (suc m) n =
      let e : suc m + n ≡ suc (m + n) = omega arith in
      ap (pow r x) e ∙ (ap (r.mul x) (pow_add x m n) ∙ sym (L.mul_assoc x (pow r x m) (pow r x n)))

  pub pow_square : (x : A) (n : ℕ) → pow r (r.mul x x) n ≡ pow r x (n + n)
  unfolding pow
  pow_square x zero = let e : zero ≡ zero + zero = omega arith in ap (pow r x) e
  pow_square x (suc n) =
      let e : suc n + suc n ≡ suc (suc (n + n)) = omega arith in
      ap (r.mul (r.mul x x)) (pow_square x n) ∙ (L.mul_assoc x x (pow r x (n + n)) ∙ ap (pow r x) (sym e))

  -- one turn of square and multiply
  pub odd_step : (p b : A) (n : ℕ) → n % 2 ≡ 1 → r.mul (r.mul p b) (pow r (r.mul b b) (n / 2)) ≡ r.mul p (pow r b n)
  unfolding pow
  odd_step p b n h =
      let e : suc (n / 2 + n / 2) ≡ n = omega arith in
      let f : r.mul b (pow r b (n / 2 + n / 2)) ≡ pow r b n = ap (pow r b) e in
      cc (L.mul_assoc p b (pow r (r.mul b b) (n / 2)), pow_square b (n / 2), f)

  pub even_step : (p b : A) (n : ℕ) → n % 2 ≢ 1 → r.mul p (pow r (r.mul b b) (n / 2)) ≡ r.mul p (pow r b n)
  even_step p b n h =
      let e : n / 2 + n / 2 ≡ n = omega arith in
      cc (pow_square b (n / 2), e)

  pub pow_double : (x y : A) (c : ℕ) → y ≡ pow r x (2 ^ c) → r.mul y y ≡ pow r x (2 ^ (c + 1))
  pow_double x y c e =
      let f : 2 ^ (c + 1) ≡ 2 ^ c + 2 ^ c = rw (add-one, pow-suc) (omega arith) in
      cc (f, pow_add x (2 ^ c) (2 ^ c))

  pub pow_one : (x : A) → pow r x 1 ≡ x
  unfolding pow
  pow_one x = L.mul_one x

  pub horner_step : (cs : List A) (i : ℕ) (x c sum : A) → i < length cs → c ≡ get_or cs i c → sum ≡ eval_poly r (drop (i + 1) cs) x
      → r.add (r.mul sum x) c ≡ eval_poly r (drop i cs) x
  horner_step cs i x c sum h e f =
      let d : drop i cs ≡ c ∷ drop (i + 1) cs = rw add-one (drop-cons cs i c h ∙ ap (λ v. v ∷ drop (suc i) cs) (sym e)) in
      let k : eval_poly r (drop i cs) x ≡ r.add c (r.mul x (eval_poly r (drop (i + 1) cs) x)) = ap (λ l. eval_poly r l x) d in
      cc (k, f, L.add_comm (r.mul sum x) c, L.mul_comm sum x)

-- where one and one is zero, each value twice is
pub twice_zero : {A : Type 0} (r : Ring A) → RingLaws r → r.add r.one r.one ≡ r.zero → (x : A) → r.add x x ≡ r.zero
twice_zero r L two x = cc (L.mul_one x, L.mul_add x r.one r.one, two, mul_zero r L x)
