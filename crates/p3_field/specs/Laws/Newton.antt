-- A polynomial of degree below n with given values at n points.
use Rattle.std.proofs.Common.{◌≡◌, ℕ, zero, suc, ◌<◌, inl, inr, List, ◌∷◌, length, refl, sym, ◌∙◌, ap, arith}
use Rattle.std.proofs.lemmas.Bool.{cases_eq}
use Rattle.p3_field.specs.Ring.{Ring, RingLaws, sub}
use Rattle.p3_field.specs.Poly.{eval_poly, Apart, scale_poly}
use Rattle.p3_field.specs.Newton.{times_linear, root_product, newton_step, newton}
use Rattle.p3_field.specs.Field.{FieldLaws}
use Rattle.p3_field.specs.Laws.Algebra.{zero_add, mul_zero, zero_mul, add_mul}
use Rattle.p3_field.specs.Laws.Coeffs.{length_add, length_scale}
use Rattle.p3_field.specs.Laws.Values.{eval_add, eval_scale}
use Rattle.p3_field.specs.Laws.Roots.{sub_zero, sub_self, field_no_zero_divisors}

module _ {A : Type 0} (r : Ring A) (L : RingLaws r) where
  pub eval_times_linear : (a : A) (f : List A) (x : A) → eval_poly r (times_linear r a f) x ≡ r.mul (sub r x a) (eval_poly r f x)
  eval_times_linear a f x =
      let F = eval_poly r f x in
      cc (
        eval_add r L (scale_poly r (r.neg a) f) (r.zero ∷ f) x,
        eval_scale r L (r.neg a) f x,
        zero_add r L (r.mul x F),
        L.add_comm (r.mul (r.neg a) F) (r.mul x F),
        add_mul r L x (r.neg a) F,
      )

  pub length_times_linear : (a : A) (f : List A) (n : ℕ) → length f ≡ n → length (times_linear r a f) ≡ suc n
  length_times_linear a f n e =
      length_add r L (scale_poly r (r.neg a) f) (r.zero ∷ f) (suc n) (let l : length (scale_poly r (r.neg a) f) ≡ length f = length_scale r L (r.neg a) f in omega arith) (ap suc e)

  pub length_root_product : (n : ℕ) (p : ℕ → A) → length (root_product r n p) ≡ suc n
  length_root_product zero p = refl
  length_root_product (suc n) p = length_times_linear (p n) (root_product r n p) (suc n) (length_root_product n p)

  pub root_product_zero : (n : ℕ) (p : ℕ → A) (i : ℕ) → i < n → eval_poly r (root_product r n p) (p i) ≡ r.zero
  root_product_zero zero p i h = absurd (omega arith)
  root_product_zero (suc n) p i h =
      let G = root_product r n p in
      eval_times_linear (p n) G (p i) ∙ (elim (cases_eq i n) [
        | inl e ↦ ap (λ w. r.mul w (eval_poly r G (p i))) (sub_self r L (p i) (p n) (ap p e)) ∙ zero_mul r L (eval_poly r G (p i))
        | inr e ↦ ap (r.mul (sub r (p i) (p n))) (root_product_zero n p i (omega arith)) ∙ mul_zero r L (sub r (p i) (p n))
      ])

  module _ (inv : A → A) (W : FieldLaws r inv) where
    pub root_product_not_zero : (n : ℕ) (p : ℕ → A) (x : A) → ((i : ℕ) → i < n → x ≡ p i → ⊥) → eval_poly r (root_product r n p) x ≡ r.zero → ⊥
    root_product_not_zero zero p x a e = W.one_differs (cc (e, mul_zero r L x, L.add_zero r.one))
    root_product_not_zero (suc n) p x a e =
        let G = root_product r n p in
        root_product_not_zero n p x (λ i k. a i (omega arith))
        (field_no_zero_divisors r L inv W (sub r x (p n)) (eval_poly r G x) (λ z. a n (omega arith) (sub_zero r L x (p n) z)) (sym (eval_times_linear (p n) G x) ∙ e))

    pub length_newton : (n : ℕ) (p v : ℕ → A) → length (newton r inv n p v) ≡ n
    length_newton zero p v = refl
    length_newton (suc n) p v =
        let f = newton r inv n p v in let g = root_product r n p in
        let c = r.mul (sub r (v n) (eval_poly r f (p n))) (inv (eval_poly r g (p n))) in
        let l : length f ≡ n = length_newton n p v in
        length_add r L f (scale_poly r c g) (suc n) (omega arith) (length_scale r L c g ∙ length_root_product n p)

    newton_old : (f g : List A) (x y z : A) → eval_poly r g z ≡ r.zero → eval_poly r (newton_step r inv f g x y) z ≡ eval_poly r f z
    newton_old f g x y z e =
        let c = r.mul (sub r y (eval_poly r f x)) (inv (eval_poly r g x)) in
        cc (eval_add r L f (scale_poly r c g) z, eval_scale r L c g z, e, mul_zero r L c, L.add_zero (eval_poly r f z))

    newton_new : (f g : List A) (x y : A) → (eval_poly r g x ≡ r.zero → ⊥) → eval_poly r (newton_step r inv f g x y) x ≡ y
    newton_new f g x y n =
        let F = eval_poly r f x in let G = eval_poly r g x in let d = sub r y F in
        let c = r.mul d (inv G) in
        cc (
          eval_add r L f (scale_poly r c g) x,
          eval_scale r L c g x,
          L.mul_assoc d (inv G) G,
          L.mul_comm (inv G) G,
          W.mul_inv G n,
          L.mul_one d,
          L.add_comm F d,
          L.add_assoc y (r.neg F) F,
          L.add_comm (r.neg F) F,
          L.add_neg F,
          L.add_zero y,
        )

    pub newton_value : (n : ℕ) (p v : ℕ → A) → Apart n p → (i : ℕ) → i < n → eval_poly r (newton r inv n p v) (p i) ≡ v i
    newton_value zero p v a i h = absurd (omega arith)
    newton_value (suc n) p v a i h =
        let f = newton r inv n p v in let g = root_product r n p in
        elim (cases_eq i n) [
          | inl e ↦ ap (λ k. eval_poly r (newton_step r inv f g (p n) (v n)) (p k)) e
              ∙ (newton_new f g (p n) (v n) (root_product_not_zero n p (p n) (λ j k z. a j n k (omega arith) (sym z))) ∙ ap v (sym e))
          | inr e ↦ newton_old f g (p n) (v n) (p i) (root_product_zero n p i (omega arith))
              ∙ newton_value n p v (λ j k l m. a j k l (omega arith)) i (omega arith)
        ]
