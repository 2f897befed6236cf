-- A solver for equations in commutative rings: two expressions with one normal form have one value.
use Rattle.std.proofs.Common.{◌≡◌, ℕ, zero, suc, ◌+◌, ◌-◌, ◌*◌, min, List, [], ◌∷◌, Bool, true, false, nat_eq, nat_lt, refl, sym, ◌∙◌, ap, arith}
use Rattle.p3_field.specs.Ring.{Ring, RingLaws, pow, of_nat}
use Rattle.std.proofs.lemmas.Bool.{eqb-true}
use Rattle.p3_field.specs.Laws.Algebra.{zero_add, one_mul, add_mul, add_swap, mul_swap, mul_zero, zero_mul, neg_zero, neg_neg, neg_add, neg_mul, mul_neg, neg_mul_neg, of_nat_add, of_nat_mul, pow_add}

pub data Expr : Type 0 where
  var : ℕ → Expr
  num : ℕ → Expr
  nought : Expr
  unit : Expr
  plus : Expr → Expr → Expr
  times : Expr → Expr → Expr
  minus : Expr → Expr
  power : Expr → ℕ → Expr

-- expressions are a ring's data: a function over any `Ring` yields its own expression here
abbrev pub expressions : Ring Expr
expressions = record { zero = nought; one = unit; add = plus; mul = times; neg = minus }

-- a term is (pos - neg) times the product of the variables to these powers
pub record SolverTerm : Type 0 where
  pub pos : ℕ
  pub neg : ℕ
  pub mono : List ℕ

abbrev choose : {B : Type 0} → Bool → (Unit {0} → B) → (Unit {0} → B) → B
choose true a b = a tt
choose false a b = b tt

abbrev same_mono : List ℕ → List ℕ → Bool
same_mono [] [] = true
same_mono [] (y ∷ ys) = false
same_mono (x ∷ xs) [] = false
same_mono (x ∷ xs) (y ∷ ys) = choose (nat_eq x y) (λ _. same_mono xs ys) (λ _. false)

abbrev before : List ℕ → List ℕ → Bool
before [] [] = false
before [] (y ∷ ys) = true
before (x ∷ xs) [] = false
before (x ∷ xs) (y ∷ ys) = choose (nat_eq x y) (λ _. before xs ys) (λ _. nat_lt x y)

abbrev mono_mul : List ℕ → List ℕ → List ℕ
mono_mul [] ys = ys
mono_mul (x ∷ xs) [] = x ∷ xs
mono_mul (x ∷ xs) (y ∷ ys) = (x + y) ∷ mono_mul xs ys

abbrev one_var : ℕ → List ℕ
one_var zero = 1 ∷ []
one_var (suc i) = 0 ∷ one_var i

abbrev with_term : ℕ → ℕ → List ℕ → List SolverTerm → List SolverTerm
with_term p n m rest = choose (nat_eq p n) (λ _. rest) (λ _. record { pos = p - n; neg = n - p; mono = m } ∷ rest)

abbrev merge_one : SolverTerm → (List SolverTerm → List SolverTerm) → List SolverTerm → List SolverTerm
merge_one x rest [] = x ∷ rest []
merge_one x rest (y ∷ ys) =
    choose (same_mono x.mono y.mono)
    (λ _. with_term (x.pos + y.pos) (x.neg + y.neg) x.mono (rest ys))
    (λ _. choose (before x.mono y.mono) (λ _. x ∷ rest (y ∷ ys)) (λ _. y ∷ merge_one x rest ys))

abbrev merge : List SolverTerm → List SolverTerm → List SolverTerm
merge [] q = q
merge (x ∷ p) q = merge_one x (merge p) q

abbrev term_mul : SolverTerm → SolverTerm → SolverTerm
term_mul x y = record { pos = x.pos * y.pos + x.neg * y.neg; neg = x.pos * y.neg + x.neg * y.pos; mono = mono_mul x.mono y.mono }

abbrev scale : SolverTerm → List SolverTerm → List SolverTerm
scale x [] = []
scale x (y ∷ q) = term_mul x y ∷ scale x q

abbrev product : List SolverTerm → List SolverTerm → List SolverTerm
product [] q = []
product (x ∷ p) q = merge (scale x q) (product p q)

abbrev opposite : List SolverTerm → List SolverTerm
opposite [] = []
opposite (x ∷ p) = record { pos = x.neg; neg = x.pos; mono = x.mono } ∷ opposite p

abbrev one_term : List SolverTerm
one_term = record { pos = 1; neg = 0; mono = [] } ∷ []

abbrev product_power : List SolverTerm → ℕ → List SolverTerm
product_power p zero = one_term
product_power p (suc n) = product p (product_power p n)

abbrev pub normal : Expr → List SolverTerm
normal (var i) = record { pos = 1; neg = 0; mono = one_var i } ∷ []
normal (num n) = with_term n 0 [] []
normal nought = []
normal unit = one_term
normal (plus a b) = merge (normal a) (normal b)
normal (times a b) = product (normal a) (normal b)
normal (minus a) = opposite (normal a)
normal (power a n) = product_power (normal a) n

module _ {A : Type 0} (r : Ring A) where
  abbrev pub lookup : List A → ℕ → A
  lookup [] i = r.one
  lookup (v ∷ vs) zero = v
  lookup (v ∷ vs) (suc i) = lookup vs i

  abbrev pub eval : List A → Expr → A
  eval vs (var i) = lookup vs i
  eval vs (num n) = of_nat r n
  eval vs nought = r.zero
  eval vs unit = r.one
  eval vs (plus a b) = r.add (eval vs a) (eval vs b)
  eval vs (times a b) = r.mul (eval vs a) (eval vs b)
  eval vs (minus a) = r.neg (eval vs a)
  eval vs (power a n) = pow r (eval vs a) n

  abbrev mono_value : List A → List ℕ → A
  mono_value [] m = r.one
  mono_value (v ∷ vs) [] = r.one
  mono_value (v ∷ vs) (n ∷ m) = r.mul (pow r v n) (mono_value vs m)

  abbrev signed : ℕ → ℕ → A
  signed p n = r.add (of_nat r p) (r.neg (of_nat r n))

  abbrev term_value : List A → SolverTerm → A
  term_value vs t = r.mul (signed t.pos t.neg) (mono_value vs t.mono)

  abbrev terms_value : List A → List SolverTerm → A
  terms_value vs [] = r.zero
  terms_value vs (t ∷ p) = r.add (term_value vs t) (terms_value vs p)

choose_both : {B : Type 0} {C : Type 0} (f : B → C) (v : C) (b : Bool) (x y : Unit {0} → B) → (b ≡ true → f (x tt) ≡ v) → (b ≡ false → f (y tt) ≡ v) → f (choose b x y) ≡ v
choose_both f v true x y p q = p refl
choose_both f v false x y p q = q refl

same_nat : (x y : ℕ) → nat_eq x y ≡ true → x ≡ y
same_nat x y e = eqb-true x y e

choose_false : (b c : Bool) → choose b (λ _. c) (λ _. false) ≡ true → (b ≡ true) × (c ≡ true)
choose_false true c e = (refl, e)
choose_false false c e = (e, cc)

same_is : (x y : List ℕ) → same_mono x y ≡ true → x ≡ y
same_is [] [] e = refl
same_is [] (y ∷ ys) e = cc
same_is (x ∷ xs) [] e = cc
same_is (x ∷ xs) (y ∷ ys) e =
    let h = choose_false (nat_eq x y) (same_mono xs ys) e in
    cc (same_nat x y h.0, same_is xs ys h.1)

module _ {A : Type 0} (r : Ring A) (L : RingLaws r) (vs : List A) where
  mono_mul_value : (us : List A) (x y : List ℕ) → mono_value r us (mono_mul x y) ≡ r.mul (mono_value r us x) (mono_value r us y)
  mono_mul_value [] x y = sym (L.mul_one r.one)
  mono_mul_value (u ∷ us) [] y = sym (one_mul r L (mono_value r (u ∷ us) y))
  mono_mul_value (u ∷ us) (x ∷ xs) [] = sym (L.mul_one (mono_value r (u ∷ us) (x ∷ xs)))
  mono_mul_value (u ∷ us) (x ∷ xs) (y ∷ ys) =
      cc (pow_add r L u x y, mono_mul_value us xs ys, mul_swap r L (pow r u x) (pow r u y) (mono_value r us xs) (mono_value r us ys))

  signed_cancel : (k p n : ℕ) → signed r (k + p) (k + n) ≡ signed r p n
  signed_cancel k p n =
      let K = of_nat r k in let P = of_nat r p in let N = of_nat r n in
      cc (of_nat_add r L k p, of_nat_add r L k n, neg_add r L K N, add_swap r L K P (r.neg K) (r.neg N), L.add_neg K, zero_add r L (r.add P (r.neg N)))

  signed_least : (p n : ℕ) → signed r (p - n) (n - p) ≡ signed r p n
  signed_least p n =
      let e : min p n + (p - n) ≡ p = omega arith in
      let f : min p n + (n - p) ≡ n = omega arith in
      cc (signed_cancel (min p n) (p - n) (n - p), e, f)

  signed_add : (p n q m : ℕ) → signed r (p + q) (n + m) ≡ r.add (signed r p n) (signed r q m)
  signed_add p n q m =
      cc (of_nat_add r L p q, of_nat_add r L n m, neg_add r L (of_nat r n) (of_nat r m), add_swap r L (of_nat r p) (of_nat r q) (r.neg (of_nat r n)) (r.neg (of_nat r m)))

  signed_mul : (p n q m : ℕ) → signed r (p * q + n * m) (p * m + n * q) ≡ r.mul (signed r p n) (signed r q m)
  signed_mul p n q m =
      let P = of_nat r p in let N = of_nat r n in let Q = of_nat r q in let M = of_nat r m in
      signed_add (p * q) (p * m) (n * m) (n * q)
      ∙ cc (
        of_nat_mul r L p q,
        of_nat_mul r L n m,
        of_nat_mul r L p m,
        of_nat_mul r L n q,
        mul_neg r L P M,
        neg_mul r L N Q,
        neg_mul_neg r L N M,
        L.mul_add P Q (r.neg M),
        L.mul_add (r.neg N) Q (r.neg M),
        add_mul r L P (r.neg N) (r.add Q (r.neg M)),
        L.add_comm (r.mul N M) (r.neg (r.mul N Q)),
      )

  same_signs : (p n : ℕ) → p ≡ n → signed r p n ≡ r.zero
  same_signs p n e = ap (λ k. signed r p k) (sym e) ∙ L.add_neg (of_nat r p)

  with_term_value : (p n : ℕ) (m : List ℕ) (q : List SolverTerm) → terms_value r vs (with_term p n m q) ≡ r.add (r.mul (signed r p n) (mono_value r vs m)) (terms_value r vs q)
  with_term_value p n m q =
      let M = mono_value r vs m in
      choose_both (terms_value r vs) (r.add (r.mul (signed r p n) M) (terms_value r vs q)) (nat_eq p n) (λ _. q) (λ _. record { pos = p - n; neg = n - p; mono = m } ∷ q)
      (λ e. cc (same_signs p n (same_nat p n e), zero_mul r L M, zero_add r L (terms_value r vs q)))
      (λ e. cc (signed_least p n))

  merge_one_value : (x : SolverTerm) (rest : List SolverTerm → List SolverTerm) (c : A) → ((q : List SolverTerm) → terms_value r vs (rest q) ≡ r.add c (terms_value r vs q)) → (q : List SolverTerm)
      → terms_value r vs (merge_one x rest q) ≡ r.add (r.add (term_value r vs x) c) (terms_value r vs q)
  merge_one_value x rest c h [] = cc (h [], L.add_assoc (term_value r vs x) c r.zero)
  merge_one_value x rest c h (y ∷ ys) =
      let X = term_value r vs x in let Y = term_value r vs y in let Q = terms_value r vs ys in
      let later : terms_value r vs (merge_one x rest ys) ≡ r.add (r.add X c) Q = merge_one_value x rest c h ys in
      let goal = r.add (r.add X c) (r.add Y Q) in
      choose_both (terms_value r vs) goal (same_mono x.mono y.mono)
      (λ _. with_term (x.pos + y.pos) (x.neg + y.neg) x.mono (rest ys))
      (λ _. choose (before x.mono y.mono) (λ _. x ∷ rest (y ∷ ys)) (λ _. y ∷ merge_one x rest ys))
      (λ e. with_term_value (x.pos + y.pos) (x.neg + y.neg) x.mono (rest ys)
      ∙ cc (
        signed_add x.pos x.neg y.pos y.neg,
        add_mul r L (signed r x.pos x.neg) (signed r y.pos y.neg) (mono_value r vs x.mono),
        same_is x.mono y.mono e,
        h ys,
        add_swap r L X Y c Q,
      ))
      (λ e. choose_both (terms_value r vs) goal (before x.mono y.mono) (λ _. x ∷ rest (y ∷ ys)) (λ _. y ∷ merge_one x rest ys)
      (λ _. cc (h (y ∷ ys), L.add_assoc X c (r.add Y Q)))
      (λ _. cc (later, L.add_assoc Y (r.add X c) Q, L.add_comm Y (r.add X c), L.add_assoc (r.add X c) Y Q)))

  merge_value : (p q : List SolverTerm) → terms_value r vs (merge p q) ≡ r.add (terms_value r vs p) (terms_value r vs q)
  merge_value [] q = sym (zero_add r L (terms_value r vs q))
  merge_value (x ∷ p) q = merge_one_value x (merge p) (terms_value r vs p) (merge_value p) q

  term_mul_value : (x y : SolverTerm) → term_value r vs (term_mul x y) ≡ r.mul (term_value r vs x) (term_value r vs y)
  term_mul_value x y =
      cc (
        signed_mul x.pos x.neg y.pos y.neg,
        mono_mul_value vs x.mono y.mono,
        mul_swap r L (signed r x.pos x.neg) (signed r y.pos y.neg) (mono_value r vs x.mono) (mono_value r vs y.mono),
      )

  scale_value : (x : SolverTerm) (q : List SolverTerm) → terms_value r vs (scale x q) ≡ r.mul (term_value r vs x) (terms_value r vs q)
  scale_value x [] = sym (mul_zero r L (term_value r vs x))
  scale_value x (y ∷ q) = cc (term_mul_value x y, scale_value x q, L.mul_add (term_value r vs x) (term_value r vs y) (terms_value r vs q))

  product_value : (p q : List SolverTerm) → terms_value r vs (product p q) ≡ r.mul (terms_value r vs p) (terms_value r vs q)
  product_value [] q = sym (zero_mul r L (terms_value r vs q))
  product_value (x ∷ p) q =
      merge_value (scale x q) (product p q)
      ∙ cc (scale_value x q, product_value p q, add_mul r L (term_value r vs x) (terms_value r vs p) (terms_value r vs q))

  opposite_value : (p : List SolverTerm) → terms_value r vs (opposite p) ≡ r.neg (terms_value r vs p)
  opposite_value [] = sym (neg_zero r L)
  opposite_value (x ∷ p) =
      let P = of_nat r x.pos in let N = of_nat r x.neg in let M = mono_value r vs x.mono in
      cc (
        opposite_value p,
        neg_add r L (term_value r vs x) (terms_value r vs p),
        neg_mul r L (r.add P (r.neg N)) M,
        neg_add r L P (r.neg N),
        neg_neg r L N,
        L.add_comm (r.neg P) N,
      )

  signed_num : (n : ℕ) → signed r n 0 ≡ of_nat r n
  unfolding of_nat
  signed_num n = cc (neg_zero r L, L.add_zero (of_nat r n))

  signed_one : signed r 1 0 ≡ r.one
  unfolding of_nat
  signed_one = cc (neg_zero r L, L.add_zero r.one)

  no_variables : (us : List A) → mono_value r us [] ≡ r.one
  no_variables [] = refl
  no_variables (u ∷ us) = refl

  one_value : terms_value r vs one_term ≡ r.one
  one_value = cc (signed_one, no_variables vs, L.mul_one r.one, L.add_zero r.one)

  product_power_value : (p : List SolverTerm) (n : ℕ) → terms_value r vs (product_power p n) ≡ pow r (terms_value r vs p) n
  unfolding pow
  product_power_value p zero = one_value
  product_power_value p (suc n) = product_value p (product_power p n) ∙ ap (r.mul (terms_value r vs p)) (product_power_value p n)

  one_var_value : (us : List A) (i : ℕ) → mono_value r us (one_var i) ≡ lookup r us i
  unfolding pow
  one_var_value [] i = refl
  one_var_value (u ∷ us) zero = cc (no_variables us, L.mul_one u)
  one_var_value (u ∷ us) (suc i) = cc (one_var_value us i, one_mul r L (lookup r us i))

  pub normal_value : (e : Expr) → terms_value r vs (normal e) ≡ eval r vs e
  normal_value (var i) =
      cc (signed_one, one_var_value vs i, one_mul r L (lookup r vs i), L.add_zero (lookup r vs i))
  normal_value (num n) =
      with_term_value n 0 [] [] ∙ cc (signed_num n, no_variables vs, L.mul_one (of_nat r n), L.add_zero (of_nat r n))
  normal_value nought = refl
  normal_value unit = one_value
  normal_value (plus a b) = merge_value (normal a) (normal b) ∙ cc (normal_value a, normal_value b)
  normal_value (times a b) = product_value (normal a) (normal b) ∙ cc (normal_value a, normal_value b)
  normal_value (minus a) = opposite_value (normal a) ∙ cc (normal_value a)
  normal_value (power a n) = product_power_value (normal a) n ∙ ap (λ v. pow r v n) (normal_value a)

  -- expressions with one normal form have one value
  pub solve : (e f : Expr) → normal e ≡ normal f → eval r vs e ≡ eval r vs f
  solve e f p = sym (normal_value e) ∙ (ap (terms_value r vs) p ∙ normal_value f)
