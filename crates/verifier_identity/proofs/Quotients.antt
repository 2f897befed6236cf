-- Division by a value that isn't zero, and comparisons by a field's own test.
use Rattle.std.proofs.Common.{◌≡◌, Bool, true, false, ◌↔◌, refl, sym, ◌∙◌, ap}
use Rattle.std.specs.Prelude.{not, IsTrue}
use Rattle.p3_field.specs.Ring.{Ring, RingLaws}
use Rattle.p3_field.specs.Field.{FieldLaws}

-- a over v is q exactly where a is v times q
pub quotient_is : {A : Type 0} (r : Ring A) → RingLaws r → (inv : A → A) → FieldLaws r inv → (a v q : A) → (v ≡ r.zero → ⊥) → (r.mul a (inv v) ≡ q) ↔ (a ≡ r.mul v q)
quotient_is r L inv W a v q n =
    let unit = W.mul_inv v n in
    let back : r.mul v (r.mul a (inv v)) ≡ a = cc (L.mul_comm a (inv v), L.mul_assoc v (inv v) a, unit, L.mul_comm r.one a, L.mul_one a) in
    let there : r.mul (r.mul v q) (inv v) ≡ q = cc (L.mul_comm v q, L.mul_assoc q v (inv v), unit, L.mul_one q) in
    ((λ e. sym back ∙ ap (r.mul v) e), (λ e. ap (λ w. r.mul w (inv v)) e ∙ there))

pub not_both : (b : Bool) → b ≡ false → IsTrue b → ⊥
not_both b e h =
    let t : b ≡ true = h in
    cc

not_false : (b : Bool) → not b ≡ false → b ≡ true
not_false true e = refl
not_false false e = cc

-- what a field's own test for two different values tells
module _ {A : Type 0} (eq : A → A → Bool) (x y : A) (differ : Bool) (told : differ ≡ not (eq x y)) where
  pub same_where_told : ((x y : A) → eq x y ≡ true → x ≡ y) → differ ≡ false → x ≡ y
  same_where_told sure h = sure x y (not_false (eq x y) (sym told ∙ h))

  pub different_where_told : ((x : A) → eq x x ≡ true) → differ ≡ true → x ≡ y → ⊥
  different_where_told own h k =
      let same : eq x y ≡ true = ap (λ z. eq z y) k ∙ own y in
      let no : differ ≡ false = told ∙ ap not same in
      cc
