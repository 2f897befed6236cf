-- The ring of polynomials of degree below 4 modulo x^4 - w.
use Rattle.std.proofs.Common.{◌≡◌, List, [], ◌∷◌, refl}
use Rattle.p3_field.specs.Ring.{Ring, RingLaws}
use Rattle.p3_field.specs.Quartic.{FourCoefficients, quartic_ring_over, quartic_norm_over, quartic_adjoint_over}
use Rattle.p3_field.specs.Laws.Solver.{Expr, var, nought, times, expressions, solve}

-- the same ring over expressions, and three values of 12 variables; variable 0 is w
abbrev E : Ring (FourCoefficients Expr)
E = quartic_ring_over expressions (var 0)

abbrev x' : FourCoefficients Expr
x' = record { c0 = var 1; c1 = var 2; c2 = var 3; c3 = var 4 }

abbrev y' : FourCoefficients Expr
y' = record { c0 = var 5; c1 = var 6; c2 = var 7; c3 = var 8 }

abbrev z' : FourCoefficients Expr
z' = record { c0 = var 9; c1 = var 10; c2 = var 11; c3 = var 12 }

module _ {A : Type 0} (r : Ring A) (L : RingLaws r) (w : A) where
  abbrev V : FourCoefficients A → FourCoefficients A → FourCoefficients A → List A
  V x y z = w ∷ x.c0 ∷ x.c1 ∷ x.c2 ∷ x.c3 ∷ y.c0 ∷ y.c1 ∷ y.c2 ∷ y.c3 ∷ z.c0 ∷ z.c1 ∷ z.c2 ∷ z.c3 ∷ []

  pub quartic_ring_over_laws : RingLaws (quartic_ring_over r w)
  quartic_ring_over_laws = record {
    add_comm = λ x y. λ i. record { c0 = L.add_comm x.c0 y.c0 i; c1 = L.add_comm x.c1 y.c1 i; c2 = L.add_comm x.c2 y.c2 i; c3 = L.add_comm x.c3 y.c3 i };
    add_assoc = λ x y z. λ i. record { c0 = L.add_assoc x.c0 y.c0 z.c0 i; c1 = L.add_assoc x.c1 y.c1 z.c1 i; c2 = L.add_assoc x.c2 y.c2 z.c2 i; c3 = L.add_assoc x.c3 y.c3 z.c3 i };
    add_zero = λ x. λ i. record { c0 = L.add_zero x.c0 i; c1 = L.add_zero x.c1 i; c2 = L.add_zero x.c2 i; c3 = L.add_zero x.c3 i };
    add_neg = λ x. λ i. record { c0 = L.add_neg x.c0 i; c1 = L.add_neg x.c1 i; c2 = L.add_neg x.c2 i; c3 = L.add_neg x.c3 i };
    mul_comm = λ x y. λ i. record {
      c0 = solve r L (V x y x) (E.mul x' y').c0 (E.mul y' x').c0 refl i;
      c1 = solve r L (V x y x) (E.mul x' y').c1 (E.mul y' x').c1 refl i;
      c2 = solve r L (V x y x) (E.mul x' y').c2 (E.mul y' x').c2 refl i;
      c3 = solve r L (V x y x) (E.mul x' y').c3 (E.mul y' x').c3 refl i;
    };
    mul_assoc = λ x y z. λ i. record {
      c0 = solve r L (V x y z) (E.mul (E.mul x' y') z').c0 (E.mul x' (E.mul y' z')).c0 refl i;
      c1 = solve r L (V x y z) (E.mul (E.mul x' y') z').c1 (E.mul x' (E.mul y' z')).c1 refl i;
      c2 = solve r L (V x y z) (E.mul (E.mul x' y') z').c2 (E.mul x' (E.mul y' z')).c2 refl i;
      c3 = solve r L (V x y z) (E.mul (E.mul x' y') z').c3 (E.mul x' (E.mul y' z')).c3 refl i;
    };
    mul_one = λ x. λ i. record {
      c0 = solve r L (V x x x) (E.mul x' E.one).c0 x'.c0 refl i;
      c1 = solve r L (V x x x) (E.mul x' E.one).c1 x'.c1 refl i;
      c2 = solve r L (V x x x) (E.mul x' E.one).c2 x'.c2 refl i;
      c3 = solve r L (V x x x) (E.mul x' E.one).c3 x'.c3 refl i;
    };
    mul_add = λ x y z. λ i. record {
      c0 = solve r L (V x y z) (E.mul x' (E.add y' z')).c0 (E.add (E.mul x' y') (E.mul x' z')).c0 refl i;
      c1 = solve r L (V x y z) (E.mul x' (E.add y' z')).c1 (E.add (E.mul x' y') (E.mul x' z')).c1 refl i;
      c2 = solve r L (V x y z) (E.mul x' (E.add y' z')).c2 (E.add (E.mul x' y') (E.mul x' z')).c2 refl i;
      c3 = solve r L (V x y z) (E.mul x' (E.add y' z')).c3 (E.add (E.mul x' y') (E.mul x' z')).c3 refl i;
    };
  }

pub mul_adjoint : {A : Type 0} (r : Ring A) (L : RingLaws r) (w : A) (x : FourCoefficients A) →
    (quartic_ring_over r w).mul x (quartic_adjoint_over r w x) ≡ record { c0 = quartic_norm_over r w x; c1 = r.zero; c2 = r.zero; c3 = r.zero }
mul_adjoint r L w x = λ i. record {
  c0 = solve r L (V r L w x x x) (E.mul x' (quartic_adjoint_over expressions (var 0) x')).c0 (quartic_norm_over expressions (var 0) x') refl i;
  c1 = solve r L (V r L w x x x) (E.mul x' (quartic_adjoint_over expressions (var 0) x')).c1 expressions.zero refl i;
  c2 = solve r L (V r L w x x x) (E.mul x' (quartic_adjoint_over expressions (var 0) x')).c2 expressions.zero refl i;
  c3 = solve r L (V r L w x x x) (E.mul x' (quartic_adjoint_over expressions (var 0) x')).c3 expressions.zero refl i;
}

abbrev pub scaled4 : {A : Type 0} → Ring A → A → FourCoefficients A → FourCoefficients A
scaled4 r k x = record { c0 = r.mul k x.c0; c1 = r.mul k x.c1; c2 = r.mul k x.c2; c3 = r.mul k x.c3 }

pub mul_scaled4 : {A : Type 0} (r : Ring A) (L : RingLaws r) (w k : A) (x y : FourCoefficients A) → (quartic_ring_over r w).mul x (scaled4 r k y) ≡ scaled4 r k ((quartic_ring_over r w).mul x y)
mul_scaled4 r L w k x y =
    let z : FourCoefficients _ = record { c0 = k; c1 = k; c2 = k; c3 = k } in
    let e = E.mul x' (scaled4 expressions (var 9) y') in
    let f = scaled4 expressions (var 9) (E.mul x' y') in
    λ i. record {
      c0 = solve r L (V r L w x y z) e.c0 f.c0 refl i;
      c1 = solve r L (V r L w x y z) e.c1 f.c1 refl i;
      c2 = solve r L (V r L w x y z) e.c2 f.c2 refl i;
      c3 = solve r L (V r L w x y z) e.c3 f.c3 refl i;
    }

-- the product of two constants
pub zero_parts : {A : Type 0} (r : Ring A) (L : RingLaws r) (w a b : A) →
    ◌≡◌ {A = FourCoefficients A} (record { c0 = r.mul a b; c1 = r.zero; c2 = r.zero; c3 = r.zero }) ((quartic_ring_over r w).mul (record { c0 = a; c1 = r.zero; c2 = r.zero; c3 = r.zero }) (record { c0 = b; c1 = r.zero; c2 = r.zero; c3 = r.zero }))
zero_parts r L w a b =
    let e = E.mul (record { c0 = var 1; c1 = nought; c2 = nought; c3 = nought }) (record { c0 = var 2; c1 = nought; c2 = nought; c3 = nought }) in
    λ i. record {
      c0 = solve r L (w ∷ a ∷ b ∷ []) (times (var 1) (var 2)) e.c0 refl i;
      c1 = solve r L (w ∷ a ∷ b ∷ []) nought e.c1 refl i;
      c2 = solve r L (w ∷ a ∷ b ∷ []) nought e.c2 refl i;
      c3 = solve r L (w ∷ a ∷ b ∷ []) nought e.c3 refl i;
    }

-- c0 1 + c1 x + c2 x^2 + c3 x^3
abbrev pub sum_of_parts : {A : Type 0} → Ring A → A → FourCoefficients A → FourCoefficients A
sum_of_parts {A} r w x =
    let R = quartic_ring_over r w in
    let of : A → FourCoefficients A = λ a. record { c0 = a; c1 = r.zero; c2 = r.zero; c3 = r.zero } in
    R.add (R.mul (of x.c0) R.one)
    (R.add (R.mul (of x.c1) (record { c0 = r.zero; c1 = r.one; c2 = r.zero; c3 = r.zero }))
    (R.add (R.mul (of x.c2) (record { c0 = r.zero; c1 = r.zero; c2 = r.one; c3 = r.zero }))
    (R.add (R.mul (of x.c3) (record { c0 = r.zero; c1 = r.zero; c2 = r.zero; c3 = r.one })) R.zero)))

pub sum_of_parts_is : {A : Type 0} (r : Ring A) (L : RingLaws r) (w : A) (x : FourCoefficients A) → sum_of_parts r w x ≡ x
sum_of_parts_is r L w x =
    let e = sum_of_parts expressions (var 0) (record { c0 = var 1; c1 = var 2; c2 = var 3; c3 = var 4 }) in
    let v = w ∷ x.c0 ∷ x.c1 ∷ x.c2 ∷ x.c3 ∷ [] in
    λ i. record {
      c0 = solve r L v e.c0 (var 1) refl i;
      c1 = solve r L v e.c1 (var 2) refl i;
      c2 = solve r L v e.c2 (var 3) refl i;
      c3 = solve r L v e.c3 (var 4) refl i;
    }

-- x0 a + x1 b + x2 c + x3 d
abbrev pub weighted_four : {A : Type 0} → Ring A → FourCoefficients A → A → A → A → A → A
weighted_four r x a b c d = r.add (r.mul x.c0 a) (r.add (r.mul x.c1 b) (r.add (r.mul x.c2 c) (r.mul x.c3 d)))

-- the product by its coefficients: each is a sum of four products, where the upper coefficients of y are first taken w times
abbrev pub by_coefficients : {A : Type 0} → Ring A → A → FourCoefficients A → FourCoefficients A → FourCoefficients A
by_coefficients r w x y =
    let d1 = r.mul w y.c1 in let d2 = r.mul w y.c2 in let d3 = r.mul w y.c3 in
    record {
      c0 = weighted_four r x y.c0 d3 d2 d1;
      c1 = weighted_four r x y.c1 y.c0 d3 d2;
      c2 = weighted_four r x y.c2 y.c1 y.c0 d3;
      c3 = weighted_four r x y.c3 y.c2 y.c1 y.c0;
    }

pub by_coefficients_is : {A : Type 0} (r : Ring A) (L : RingLaws r) (w : A) (x y : FourCoefficients A) → by_coefficients r w x y ≡ (quartic_ring_over r w).mul x y
by_coefficients_is r L w x y =
    let e = by_coefficients expressions (var 0) x' y' in
    let f = E.mul x' y' in
    λ i. record {
      c0 = solve r L (V r L w x y x) e.c0 f.c0 refl i;
      c1 = solve r L (V r L w x y x) e.c1 f.c1 refl i;
      c2 = solve r L (V r L w x y x) e.c2 f.c2 refl i;
      c3 = solve r L (V r L w x y x) e.c3 f.c3 refl i;
    }

-- x with its odd coefficients negated: the product of the two has no odd coefficients
abbrev pub conjugate4 : {A : Type 0} → Ring A → FourCoefficients A → FourCoefficients A
conjugate4 r x = record { c0 = x.c0; c1 = r.neg x.c1; c2 = x.c2; c3 = r.neg x.c3 }

abbrev even_norm : {A : Type 0} → Ring A → A → FourCoefficients A → A
even_norm r w e = r.add (r.mul e.c0 e.c0) (r.neg (r.mul w (r.mul e.c2 e.c2)))

pub even_norm_is : {A : Type 0} (r : Ring A) (L : RingLaws r) (w : A) (x : FourCoefficients A) →
    even_norm r w ((quartic_ring_over r w).mul x (conjugate4 r x)) ≡ quartic_norm_over r w x
even_norm_is r L w x =
    solve r L (V r L w x x x) (even_norm expressions (var 0) (E.mul x' (conjugate4 expressions x'))) (quartic_norm_over expressions (var 0) x') refl

abbrev over_even : {A : Type 0} → Ring A → A → A → FourCoefficients A → FourCoefficients A → FourCoefficients A
over_even r w k j e = (quartic_ring_over r w).mul j (record { c0 = r.mul k e.c0; c1 = r.zero; c2 = r.neg (r.mul k e.c2); c3 = r.zero })

pub over_even_is : {A : Type 0} (r : Ring A) (L : RingLaws r) (w k : A) (x : FourCoefficients A) →
    over_even r w k (conjugate4 r x) ((quartic_ring_over r w).mul x (conjugate4 r x)) ≡ scaled4 r k (quartic_adjoint_over r w x)
over_even_is r L w k x =
    let y : FourCoefficients _ = record { c0 = k; c1 = k; c2 = k; c3 = k } in
    let j = conjugate4 expressions x' in
    let e = over_even expressions (var 0) (var 5) j (E.mul x' j) in
    let f = scaled4 expressions (var 5) (quartic_adjoint_over expressions (var 0) x') in
    λ i. record {
      c0 = solve r L (V r L w x y x) e.c0 f.c0 refl i;
      c1 = solve r L (V r L w x y x) e.c1 f.c1 refl i;
      c2 = solve r L (V r L w x y x) e.c2 f.c2 refl i;
      c3 = solve r L (V r L w x y x) e.c3 f.c3 refl i;
    }
