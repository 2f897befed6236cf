-- The value of a multilinear polynomial: a variable after another, at points of zeros and ones, and along one coordinate.
use Rattle.std.proofs.Common.{◌≡◌, ℕ, zero, suc, ◌+◌, ◌*◌, ◌/◌, ◌%◌, ◌^◌, ◌<◌, List, [], ◌∷◌, ◌++◌, length, get_or, refl, sym, ◌∙◌, ap, arith}
use Rattle.std.specs.Int.{bit_at}
use Rattle.std.proofs.lemmas.Nat.Bits.{bit_at_lowest, bit_at-suc}
use Rattle.std.proofs.lemmas.List.{length-append}
use Rattle.std.proofs.Math.Nat.{pow-suc}
use Rattle.p3_field.specs.Ring.{Ring, RingLaws, sub, of_nat}
use Rattle.p3_field.specs.Poly.{tabulate, total, product}
use Rattle.p3_field.specs.Laws.Algebra.{one_mul}
use Rattle.p3_field.specs.Laws.Sums.{total_same}
use Rattle.p3_field.specs.Laws.Products.{product_front, product_same}
use Rattle.p3_field.specs.Laws.Tabulate.{length-tabulate, get_or-tabulate, tabulate_same}
use Rattle.p3_field.specs.Laws.Solver.{expressions, var, solve}
use Rattle.plain_pcs.specs.Multilinear.{factor, weight, multilinear_value}

-- the value that takes the place of two neighbours a, b where the variable is x
abbrev pub between : {A : Type 0} → Ring A → A → A → A → A
between r x a b = r.add a (r.mul x (sub r b a))

abbrev one_term : {A : Type 0} → Ring A → A → A → A → A → A
one_term r x a b w = r.mul (between r x a b) w

abbrev two_terms : {A : Type 0} → Ring A → A → A → A → A → A
two_terms r x a b w = r.add (r.mul a (r.mul (sub r r.one x) w)) (r.mul b (r.mul x w))

-- the value v, with the factor of a variable at x and a weight w of the others
abbrev weighed : {A : Type 0} → Ring A → ℕ → A → A → A → A
weighed r b x v w = r.mul v (r.mul (factor r b x) w)

module _ {A : Type 0} (r : Ring A) (L : RingLaws r) where
  -- a sum over places, taken by twos
  total_pairs : (n : ℕ) (t : ℕ → A) → total r (2 * n) t ≡ total r n (λ i. r.add (t (2 * i)) (t (2 * i + 1)))
  total_pairs zero t = refl
  total_pairs (suc n) t =
      let u : ℕ → A = λ i. t (suc (suc i)) in
      let long : 2 * suc n ≡ suc (suc (2 * n)) = omega arith in
      let rest = total_pairs n u ∙ total_same r L n (λ i. r.add (u (2 * i)) (u (2 * i + 1))) (λ i. r.add (t (2 * suc i)) (t (2 * suc i + 1))) (λ i k.
      let a : suc (suc (2 * i)) ≡ 2 * suc i = omega arith in
      let b : suc (suc (2 * i + 1)) ≡ 2 * suc i + 1 = omega arith in
      cc (ap t a, ap t b)) in
      ap (λ k. total r k t) long ∙ (sym (L.add_assoc (t 0) (t 1) (total r (2 * n) u)) ∙ ap (r.add (r.add (t 0) (t 1))) rest)

  -- the lowest bit of a place is its first variable
  weight-cons : (x : A) (xs : List A) (i : ℕ) → weight r (x ∷ xs) i ≡ r.mul (factor r (i % 2) x) (weight r xs (i / 2))
  unfolding weight
  weight-cons x xs i =
      let low = ap (λ b. factor r b x) (bit_at_lowest i) in
      let rest = product_same r L (length xs) (λ j. factor r (bit_at i (suc j)) (get_or xs j r.zero)) (λ j. factor r (bit_at (i / 2) j) (get_or xs j r.zero)) (λ j k. ap (λ b. factor r b (get_or xs j r.zero)) (bit_at-suc i j)) in
      product_front r L (length xs) (λ j. factor r (bit_at i j) (get_or (x ∷ xs) j r.zero))
      ∙ (ap (λ f. r.mul f (product r (length xs) (λ j. factor r (bit_at i (suc j)) (get_or xs j r.zero)))) low ∙ ap (r.mul (factor r (i % 2) x)) rest)

  weight_even : (x : A) (xs : List A) (i : ℕ) → weight r (x ∷ xs) (2 * i) ≡ r.mul (sub r r.one x) (weight r xs i)
  weight_even x xs i =
      let bit : 2 * i % 2 ≡ 0 = omega arith in
      let half : 2 * i / 2 ≡ i = omega arith in
      weight-cons x xs (2 * i) ∙ (ap (λ b. r.mul (factor r b x) (weight r xs (2 * i / 2))) bit ∙ ap (λ k. r.mul (sub r r.one x) (weight r xs k)) half)

  weight_odd : (x : A) (xs : List A) (i : ℕ) → weight r (x ∷ xs) (2 * i + 1) ≡ r.mul x (weight r xs i)
  weight_odd x xs i =
      let bit : (2 * i + 1) % 2 ≡ 1 = omega arith in
      let half : (2 * i + 1) / 2 ≡ i = omega arith in
      weight-cons x xs (2 * i + 1) ∙ (ap (λ b. r.mul (factor r b x) (weight r xs ((2 * i + 1) / 2))) bit ∙ ap (λ k. r.mul x (weight r xs k)) half)

  two_terms_are_one : (x a b w : A) → one_term r x a b w ≡ two_terms r x a b w
  two_terms_are_one x a b w =
      solve r L (x ∷ a ∷ b ∷ w ∷ []) (one_term expressions (var 0) (var 1) (var 2) (var 3)) (two_terms expressions (var 0) (var 1) (var 2) (var 3)) refl

  -- the polynomial with its first variable set
  pub first_variable : (vs ws : List A) (x : A) (xs : List A)
      → ws ≡ tabulate (2 ^ length xs) (λ i. between r x (get_or vs (2 * i) r.zero) (get_or vs (2 * i + 1) r.zero))
      → multilinear_value r ws xs ≡ multilinear_value r vs (x ∷ xs)
  unfolding multilinear_value
  first_variable vs ws x xs e =
      let n = 2 ^ length xs in
      let v : ℕ → A = λ i. get_or vs i r.zero in
      let t : ℕ → A = λ i. r.mul (v i) (weight r (x ∷ xs) i) in
      let f : ℕ → A = λ i. between r x (v (2 * i)) (v (2 * i + 1)) in
      let long : 2 * n ≡ 2 ^ suc (length xs) = omega (arith, pow-suc 2 (length xs)) in
      let each = total_same r L n (λ i. r.mul (get_or ws i r.zero) (weight r xs i)) (λ i. r.add (t (2 * i)) (t (2 * i + 1))) (λ i k.
      let item : get_or ws i r.zero ≡ f i = ap (λ l. get_or l i r.zero) e ∙ get_or-tabulate n f i r.zero k in
      let w = weight r xs i in
      ap (λ y. r.mul y w) item ∙ (two_terms_are_one x (v (2 * i)) (v (2 * i + 1)) w
      ∙ cc (ap (r.mul (v (2 * i))) (weight_even x xs i), ap (r.mul (v (2 * i + 1))) (weight_odd x xs i)))) in
      each ∙ (sym (total_pairs n t) ∙ ap (λ k. total r k t) long)

  -- the polynomial of no variable
  pub constant_value : (vs : List A) → multilinear_value r vs [] ≡ get_or vs 0 r.zero
  unfolding multilinear_value weight
  constant_value vs = L.add_zero (r.mul (get_or vs 0 r.zero) r.one) ∙ L.mul_one (get_or vs 0 r.zero)

  -- between two neighbours at zero, and at one
  at_zero : (a b : A) → between r (of_nat r 0) a b ≡ a
  unfolding of_nat
  at_zero a b = solve r L (a ∷ b ∷ []) (between expressions expressions.zero (var 0) (var 1)) (var 0) refl

  at_one : (a b : A) → between r (of_nat r 1) a b ≡ b
  unfolding of_nat
  at_one a b = solve r L (a ∷ b ∷ []) (between expressions (expressions.add expressions.one expressions.zero) (var 0) (var 1)) (var 1) refl

  at_bit : (t : ℕ → A) (i b : ℕ) → i % 2 ≡ b → between r (of_nat r b) (t (2 * (i / 2))) (t (2 * (i / 2) + 1)) ≡ t i
  at_bit t i zero e =
      let here : 2 * (i / 2) ≡ i = omega arith in
      at_zero (t (2 * (i / 2))) (t (2 * (i / 2) + 1)) ∙ ap t here
  at_bit t i (suc zero) e =
      let here : 2 * (i / 2) + 1 ≡ i = omega arith in
      at_one (t (2 * (i / 2))) (t (2 * (i / 2) + 1)) ∙ ap t here
  at_bit t i (suc (suc b)) e = absurd (omega arith)

  -- at the point of the bits of i it has value i
  pub at_bits : (vs : List A) (m i : ℕ) → i < 2 ^ m → multilinear_value r vs (tabulate m (λ j. of_nat r (bit_at i j))) ≡ get_or vs i r.zero
  at_bits vs zero i h =
      let first : 0 ≡ i = omega arith in
      constant_value vs ∙ ap (λ k. get_or vs k r.zero) first
  at_bits vs (suc m) i h =
      let v : ℕ → A = λ k. get_or vs k r.zero in
      let x = of_nat r (bit_at i 0) in
      let f : ℕ → A = λ k. between r x (v (2 * k)) (v (2 * k + 1)) in
      let ws = tabulate (2 ^ m) f in
      let rest = tabulate m (λ j. of_nat r (bit_at i (suc j))) in
      let bits : rest ≡ tabulate m (λ j. of_nat r (bit_at (i / 2) j)) = tabulate_same m (λ j. of_nat r (bit_at i (suc j))) (λ j. of_nat r (bit_at (i / 2) j)) (λ j k. ap (of_nat r) (bit_at-suc i j)) in
      let long : length rest ≡ m = length-tabulate m (λ j. of_nat r (bit_at i (suc j))) in
      let half : i / 2 < 2 ^ m = omega (arith, h, pow-suc 2 m) in
      let set : multilinear_value r ws rest ≡ multilinear_value r vs (x ∷ rest) = first_variable vs ws x rest (ap (λ k. tabulate (2 ^ k) f) (sym long)) in
      sym set ∙ (ap (multilinear_value r ws) bits ∙ (at_bits ws m (i / 2) half ∙ (get_or-tabulate (2 ^ m) f (i / 2) r.zero half ∙ at_bit v i (bit_at i 0) (sym (bit_at_lowest i)))))

  weighed_low : (x v w : A) → weighed r 0 x v w ≡ between r x (weighed r 0 r.zero v w) (weighed r 0 r.one v w)
  weighed_low x v w =
      solve r L (x ∷ v ∷ w ∷ []) (weighed expressions 0 (var 0) (var 1) (var 2))
      (between expressions (var 0) (weighed expressions 0 expressions.zero (var 1) (var 2)) (weighed expressions 0 expressions.one (var 1) (var 2))) refl

  weighed_high : (x v w : A) → weighed r 1 x v w ≡ between r x (weighed r 1 r.zero v w) (weighed r 1 r.one v w)
  weighed_high x v w =
      solve r L (x ∷ v ∷ w ∷ []) (weighed expressions 1 (var 0) (var 1) (var 2))
      (between expressions (var 0) (weighed expressions 1 expressions.zero (var 1) (var 2)) (weighed expressions 1 expressions.one (var 1) (var 2))) refl

  factor_affine : (b : ℕ) (x v w : A) → weighed r b x v w ≡ between r x (weighed r b r.zero v w) (weighed r b r.one v w)
  factor_affine zero x v w = weighed_low x v w
  factor_affine (suc b) x v w = weighed_high x v w

  scaled_between : (f x a b v : A) → r.mul v (r.mul f (between r x a b)) ≡ between r x (r.mul v (r.mul f a)) (r.mul v (r.mul f b))
  scaled_between f x a b v =
      solve r L (f ∷ x ∷ a ∷ b ∷ v ∷ []) (expressions.mul (var 4) (expressions.mul (var 0) (between expressions (var 1) (var 2) (var 3))))
      (between expressions (var 1) (expressions.mul (var 4) (expressions.mul (var 0) (var 2))) (expressions.mul (var 4) (expressions.mul (var 0) (var 3)))) refl

  -- a weight, with a scalar, along the coordinate after those of ys
  weight_affine : (ys after : List A) (x v : A) (i : ℕ)
      → r.mul v (weight r (ys ++ x ∷ after) i) ≡ between r x (r.mul v (weight r (ys ++ r.zero ∷ after) i)) (r.mul v (weight r (ys ++ r.one ∷ after) i))
  weight_affine [] after x v i =
      let W = weight r after (i / 2) in
      ap (r.mul v) (weight-cons x after i)
      ∙ (factor_affine (i % 2) x v W
      ∙ (ap (λ a. between r x a (weighed r (i % 2) r.one v W)) (sym (ap (r.mul v) (weight-cons r.zero after i)))
      ∙ ap (λ b. between r x (r.mul v (weight r (r.zero ∷ after) i)) b) (sym (ap (r.mul v) (weight-cons r.one after i)))))
  weight_affine (y ∷ ys) after x v i =
      let f = factor r (i % 2) y in
      let at : A → A = λ z. r.mul v (weight r (y ∷ (ys ++ z ∷ after)) i) in
      let under : A → A = λ z. weight r (ys ++ z ∷ after) (i / 2) in
      let cons : (z : A) → at z ≡ r.mul v (r.mul f (under z)) = λ z. ap (r.mul v) (weight-cons y (ys ++ z ∷ after) i) in
      let one : under x ≡ between r x (under r.zero) (under r.one) = without_scalar (under x) (under r.zero) (under r.one) x (weight_affine ys after x r.one (i / 2)) in
      cons x
      ∙ (ap (λ u. r.mul v (r.mul f u)) one
      ∙ (scaled_between f x (under r.zero) (under r.one) v
      ∙ (ap (λ a. between r x a (r.mul v (r.mul f (under r.one)))) (sym (cons r.zero)) ∙ ap (λ b. between r x (at r.zero) b) (sym (cons r.one)))))
    where
      without_scalar : (w a b x : A) → r.mul r.one w ≡ between r x (r.mul r.one a) (r.mul r.one b) → w ≡ between r x a b
      without_scalar w a b x e = sym (one_mul r L w) ∙ (e ∙ (ap (λ c. between r x c (r.mul r.one b)) (one_mul r L a) ∙ ap (between r x a) (one_mul r L b)))

  between_sums : (x a b c d : A) → r.add (between r x a b) (between r x c d) ≡ between r x (r.add a c) (r.add b d)
  between_sums x a b c d =
      solve r L (x ∷ a ∷ b ∷ c ∷ d ∷ []) (expressions.add (between expressions (var 0) (var 1) (var 2)) (between expressions (var 0) (var 3) (var 4)))
      (between expressions (var 0) (expressions.add (var 1) (var 3)) (expressions.add (var 2) (var 4))) refl

  between_zeros : (x : A) → r.zero ≡ between r x r.zero r.zero
  between_zeros x = solve r L (x ∷ []) expressions.zero (between expressions (var 0) expressions.zero expressions.zero) refl

  total_between : (n : ℕ) (x : A) (t u v : ℕ → A) → ((i : ℕ) → t i ≡ between r x (u i) (v i)) → total r n t ≡ between r x (total r n u) (total r n v)
  total_between zero x t u v h = between_zeros x
  total_between (suc n) x t u v h =
      let rest = total_between n x (λ i. t (suc i)) (λ i. u (suc i)) (λ i. v (suc i)) (λ i. h (suc i)) in
      let U = total r n (λ i. u (suc i)) in
      let V = total r n (λ i. v (suc i)) in
      ap (λ a. r.add a (total r n (λ i. t (suc i)))) (h zero)
      ∙ (ap (r.add (between r x (u zero) (v zero))) rest ∙ between_sums x (u zero) (v zero) U V)

  -- Along one coordinate it is a line: its value at x is that at zero, and x times what is between that and the value at one.
  -- So `at_bits` fixes it everywhere.
  pub value_affine : (vs ys after : List A) (x : A)
      → multilinear_value r vs (ys ++ x ∷ after) ≡ between r x (multilinear_value r vs (ys ++ r.zero ∷ after)) (multilinear_value r vs (ys ++ r.one ∷ after))
  unfolding multilinear_value
  value_affine vs ys after x =
      let n = 2 ^ (length ys + suc (length after)) in
      let t : A → ℕ → A = λ z i. r.mul (get_or vs i r.zero) (weight r (ys ++ z ∷ after) i) in
      let size : (z : A) → total r (2 ^ length (ys ++ z ∷ after)) (t z) ≡ total r n (t z) = λ z. ap (λ k. total r (2 ^ k) (t z)) (length-append ys (z ∷ after)) in
      size x
      ∙ (total_between n x (t x) (t r.zero) (t r.one) (λ i. weight_affine ys after x (get_or vs i r.zero) i)
      ∙ (ap (λ a. between r x a (total r n (t r.one))) (sym (size r.zero)) ∙ ap (λ b. between r x (multilinear_value r vs (ys ++ r.zero ∷ after)) b) (sym (size r.one))))
