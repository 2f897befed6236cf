-- What has an inverse in a two-adic field: the generators, and the sizes of the subgroups.
use Rattle.std.proofs.Common.{◌≡◌, ℕ, ◌^◌, ◌≤◌, sym, ◌∙◌, ap}
use Rattle.std.proofs.lemmas.Nat.{pow_pos}
use Rattle.p3_field.specs.Ring.{Ring, RingLaws, of_nat}
use Rattle.p3_field.specs.Field.{FieldLaws, TwoAdicLaws}
use Rattle.p3_field.specs.Laws.Algebra.{mul_zero}
use Rattle.p3_field.specs.Laws.Coset.{two_adic_order}
use Rattle.p3_field.specs.Laws.TwoAdic.{root_not_zero, two_adic_inverses}

module _ {A : Type 0} (r : Ring A) (L : RingLaws r) (inv : A → A) (W : FieldLaws r inv) (top : ℕ) (gen : ℕ → A) (T : TwoAdicLaws r top gen) where
  pub root_inverts : (k : ℕ) → k ≤ top → gen k ≡ r.zero → ⊥
  root_inverts k h = root_not_zero r L inv W (2 ^ k) (gen k) (pow_pos k) (two_adic_order r L top gen T k h)

  pub size_inverts : (k : ℕ) → k ≤ top → of_nat r (2 ^ k) ≡ r.zero → ⊥
  size_inverts k h z =
      let I = two_adic_inverses r L inv W top gen T k r.one h W.one_differs in
      W.one_differs (sym I.of_size ∙ (ap (r.mul (inv (of_nat r (2 ^ k)))) z ∙ mul_zero r L (inv (of_nat r (2 ^ k)))))
