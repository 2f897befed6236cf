-- Products over all domains but one, and their quotients.
use Rattle.std.proofs.Common.{◌≡◌, ℕ, zero, suc, ◌+◌, ◌-◌, ◌^◌, ◌<◌, List, length, get_or, take, drop, slice_range, sym, ◌∙◌, ap, subst, arith}
use Rattle.std.proofs.lemmas.Nat.{pow_pos}
use Rattle.std.proofs.lemmas.List.{get_or-take, get_or-drop, length-take-le, length-drop}
use Rattle.p3_field.specs.Ring.{Ring, RingLaws}
use Rattle.p3_field.specs.Field.{FieldLaws, RingHom, TwoAdic}
use Rattle.p3_field.specs.Laws.Algebra.{one_mul, mul_swap, mul_zero, zero_mul}
use Rattle.p3_field.specs.Laws.Roots.{field_no_zero_divisors}
use Rattle.p3_field.specs.Laws.SubgroupSelectors.{inv_one}
use Rattle.p3_field.specs.Domain.{CosetData, point}
use Rattle.commit_core.specs.Space.{IsPoint}
use Rattle.p3_field.specs.Poly.{product}
use Rattle.p3_field.specs.Laws.Products.{product_same}
use Rattle.p3_uni_stark.specs.Recombine.{product_but, domain_at, AllDisjoint}

module _ {A : Type 0} (r : Ring A) (L : RingLaws r) where
  module _ (inv : A → A) (W : FieldLaws r inv) where
    pub inv_mul : (x y : A) → (x ≡ r.zero → ⊥) → (y ≡ r.zero → ⊥) → inv (r.mul x y) ≡ r.mul (inv x) (inv y)
    inv_mul x y a b =
        let z = inv (r.mul x y) in
        let p = r.mul (inv x) (inv y) in
        let whole : r.mul (r.mul x y) z ≡ r.one = W.mul_inv (r.mul x y) (λ e. b (field_no_zero_divisors r L inv W x y a e)) in
        let parts : r.mul (r.mul x y) p ≡ r.one = mul_swap r L x y (inv x) (inv y) ∙ ((λ i. r.mul (W.mul_inv x a i) (W.mul_inv y b i)) ∙ L.mul_one r.one) in
        sym (one_mul r L z) ∙ (ap (λ v. r.mul v z) (sym parts ∙ L.mul_comm (r.mul x y) p) ∙ (L.mul_assoc p (r.mul x y) z ∙ (ap (r.mul p) whole ∙ L.mul_one p)))

    module _ {B : Type 0} (s : Ring B) (M : RingLaws s) (f : A → B) (H : RingHom r s f) where
      -- a product of quotients is the product of what is divided over that of the divisors
      quotients : (n : ℕ) (p : ℕ → B) (u : ℕ → A) → (product r n u ≡ r.zero → ⊥)
          → s.mul (product s n p) (f (inv (product r n u))) ≡ product s n (λ j. s.mul (p j) (f (inv (u j))))
      quotients zero p u h = ap (λ v. s.mul s.one (f v)) (inv_one r L inv W) ∙ (ap (s.mul s.one) H.keeps_one ∙ M.mul_one s.one)
      quotients (suc n) p u h =
          let U = product r n u in
          let low : U ≡ r.zero → ⊥ = λ e. h (ap (λ v. r.mul v (u n)) e ∙ zero_mul r L (u n)) in
          let last : u n ≡ r.zero → ⊥ = λ e. h (ap (r.mul U) e ∙ mul_zero r L U) in
          let i : inv (r.mul U (u n)) ≡ r.mul (inv U) (inv (u n)) = inv_mul U (u n) low last in
          ap (λ v. s.mul (s.mul (product s n p) (p n)) (f v)) i
          ∙ (ap (s.mul (s.mul (product s n p) (p n))) (H.keeps_mul (inv U) (inv (u n)))
          ∙ (mul_swap s M (product s n p) (p n) (f (inv U)) (f (inv (u n)))
          ∙ ap (λ v. s.mul v (s.mul (p n) (f (inv (u n))))) (quotients n p u low)))

      -- the same over all but one
      pub quotients_but : (n i : ℕ) (p : ℕ → B) (u : ℕ → A) (x y : B) (U V : A) → x ≡ product s i p → y ≡ product s (n - suc i) (λ j. p (suc i + j))
          → U ≡ product r i u → V ≡ product r (n - suc i) (λ j. u (suc i + j)) → (U ≡ r.zero → ⊥) → (V ≡ r.zero → ⊥)
          → s.mul (s.mul x y) (f (inv (r.mul U V))) ≡ product_but s n i (λ j. s.mul (p j) (f (inv (u j))))
      quotients_but n i p u x y U V at_x at_y at_U at_V a b =
          let m = n - suc i in
          let q : ℕ → B = λ j. p (suc i + j) in
          let v : ℕ → A = λ j. u (suc i + j) in
          let before : s.mul x (f (inv U)) ≡ product s i (λ j. s.mul (p j) (f (inv (u j)))) = (λ k. s.mul (at_x k) (f (inv (at_U k)))) ∙ quotients i p u (λ e. a (at_U ∙ e)) in
          let after : s.mul y (f (inv V)) ≡ product s m (λ j. s.mul (q j) (f (inv (v j)))) = (λ k. s.mul (at_y k) (f (inv (at_V k)))) ∙ quotients m q v (λ e. b (at_V ∙ e)) in
          ap (λ z. s.mul (s.mul x y) (f z)) (inv_mul U V a b)
          ∙ (ap (s.mul (s.mul x y)) (H.keeps_mul (inv U) (inv V))
          ∙ (mul_swap s M x y (f (inv U)) (f (inv V))
          ∙ (λ k. s.mul (before k) (after k))))

-- the first point of a domain lies in no other
pub first_outside : {F : Type 0} (f : TwoAdic F) (ds : List (CosetData F)) (i j : ℕ) (x : F) (d : CosetData F) → i < length ds → j < length ds → (i ≡ j → ⊥) → AllDisjoint f ds
    → x ≡ point f.ring f.root (domain_at f.ring ds i) 0 → d ≡ domain_at f.ring ds j → IsPoint (2 ^ d.log_size) (point f.ring f.root d) (λ v. v) x → ⊥
first_outside {F = F} f ds i j x d hi hj differ apart first same is =
    let P : CosetData F → Type 0 = λ e. IsPoint (2 ^ e.log_size) (point f.ring f.root e) (λ v. v) x in
    let (b, below, at) = subst P same is in
    apart i hi j hj differ 0 b (pow_pos (domain_at f.ring ds i).log_size) below (sym first ∙ at)

-- the product over the domains before domain i
pub before_is : {F B : Type 0} (r : Ring F) (s : Ring B) (M : RingLaws s) (ds : List (CosetData F)) (i : ℕ) (w : CosetData F → B) → i < length ds
    → product s (length (take i ds)) (λ j. w (domain_at r (take i ds) j)) ≡ product s i (λ j. w (domain_at r ds j))
before_is r s M ds i w h =
    let n : length (take i ds) ≡ i = length-take-le i ds (omega arith) in
    ap (λ m. product s m (λ j. w (domain_at r (take i ds) j))) n
    ∙ product_same s M i (λ j. w (domain_at r (take i ds) j)) (λ j. w (domain_at r ds j)) (λ j k. ap w (get_or-take i ds j _ k))

-- the product over the domains after domain i
pub after_is : {F B : Type 0} (r : Ring F) (s : Ring B) (M : RingLaws s) (ds : List (CosetData F)) (i : ℕ) (w : CosetData F → B) → i < length ds
    → product s (length (slice_range ds (i + 1) (length ds))) (λ j. w (domain_at r (slice_range ds (i + 1) (length ds)) j)) ≡ product s (length ds - suc i) (λ j. w (domain_at r ds (suc i + j)))
after_is {F = F} r s M ds i w h =
    let m = length ds - (i + 1) in
    let rest = drop (i + 1) ds in
    let n : length (take m rest) ≡ m = length-take-le m rest (omega (arith, length-drop (i + 1) ds)) in
    let d : CosetData F = record { shift = r.one; log_size = 0 } in
    let count : m ≡ length ds - suc i = omega arith in
    ap (λ k. product s k (λ j. w (domain_at r (take m rest) j))) n
    ∙ (product_same s M m (λ j. w (domain_at r (take m rest) j)) (λ j. w (domain_at r ds (suc i + j)))
    (λ j k. ap w (get_or-take m rest j d k ∙ (get_or-drop (i + 1) ds j d ∙ (let e : i + 1 + j ≡ suc i + j = omega arith in ap (λ a. get_or ds a d) e))))
    ∙ ap (λ k. product s k (λ j. w (domain_at r ds (suc i + j)))) count)

-- where the domains after domain i stand
pub after_at : {X : Type 0} (ds : List X) (i j : ℕ) (d : X) → j < length (slice_range ds (i + 1) (length ds))
    → (suc i + j < length ds) × (get_or (slice_range ds (i + 1) (length ds)) j d ≡ get_or ds (suc i + j) d)
after_at ds i j d h =
    let m = length ds - (i + 1) in
    let rest = drop (i + 1) ds in
    let n : length (take m rest) ≡ m = length-take-le m rest (omega (arith, length-drop (i + 1) ds)) in
    let k : j < m = omega (arith, n, h) in
    (omega (arith, k), get_or-take m rest j d k ∙ (get_or-drop (i + 1) ds j d ∙ (let e : i + 1 + j ≡ suc i + j = omega arith in ap (λ a. get_or ds a d) e)))
