-- Whether two messages send one tuple on one bus.
use Rattle.std.proofs.Common.{◌≡◌, ℕ, inl, inr, Bool, true, false, ◌&&◌, nat_eq, List, refl, sym, ◌∙◌, ap}
use Rattle.std.specs.Cmp.Lexicographic.{pointwise, pointwise_decides}
use Rattle.std.proofs.lemmas.Bool.Decides.{eqb_tells}
use Rattle.p3_lookup.specs.Messages.{Message, is_of}
use Rattle.stark_balance.specs.Nets.{ArePaired, are_paired}

module _ {F : Type 0} (eq : F → F → Bool) (eq_same : (x y : F) → eq x y ≡ true → x ≡ y) (same_eq : (x : F) → eq x x ≡ true) where
  both : (a b : Bool) → (a && b) ≡ true → (a ≡ true) × (b ≡ true)
  both true b h = (refl, h)
  both false b h = (h, cc)

  same_nat : (a b : ℕ) → nat_eq a b ≡ true → a ≡ b
  same_nat a b h = elim (eqb_tells a b) [ inl p ↦ p.1 | inr p ↦ absurd (cc (p.0, h)) ]

  own_nat : (a : ℕ) → nat_eq a a ≡ true
  own_nat a = elim (eqb_tells a a) [ inl p ↦ p.0 | inr p ↦ absurd (p.1 refl) ]

  decides : (x y : F) → (eq x y ≡ true → x ≡ y) × (x ≡ y → eq x y ≡ true)
  decides x y = (eq_same x y, λ h. ap (eq x) (sym h) ∙ same_eq x)

  -- the message that passes the test of a bus and a tuple has them
  pub is_of_is : (b : ℕ) (t : List F) (m : Message F) → is_of eq b t m ≡ true → (m.bus ≡ b) × (m.tuple ≡ t)
  is_of_is b t m h =
      let p = both (nat_eq m.bus b) (pointwise eq m.tuple t) h in
      (same_nat m.bus b p.0, (pointwise_decides decides m.tuple t).0 p.1)

  pub is_of_own : (m : Message F) → is_of eq m.bus m.tuple m ≡ true
  is_of_own m = ap (λ x. x && pointwise eq m.tuple m.tuple) (own_nat m.bus) ∙ (pointwise_decides decides m.tuple m.tuple).1 refl

  pub paired_is : (m n : Message F) → are_paired eq m n ≡ true → ArePaired m n
  paired_is m n h = is_of_is n.bus n.tuple m h

  pub paired_passes : (m n : Message F) → ArePaired m n → are_paired eq m n ≡ true
  paired_passes m n p = ap (λ b. is_of eq b n.tuple m) (sym p.0) ∙ ap (λ t. is_of eq m.bus t m) (sym p.1) ∙ is_of_own m
