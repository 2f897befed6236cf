-- Where each table's identity holds at zeta, each table holds, or one of the two challenges is unlucky for some table.
use Rattle.std.proofs.Common.{ℕ, zero, suc, ◌<◌, ◌≤◌, ◌⊎◌, inl, inr, List, [], ◌∷◌, length, get_or, refl, arith}
use Rattle.std.specs.List.{All, Contains}
use Rattle.p3_field.specs.Field.{TwoAdic, Extension}
use Rattle.law_committed.specs.Batch.{DividedTable, IsUnluckyAlphaOfBatch, IsUnluckyZetaOfBatch, AreIdentities, AllHold}
use Rattle.law_committed.specs.Committed.{Holds}
use Rattle.law_committed.specs.Fields.{FieldsLaws}
use Rattle.law_committed.specs.Unlucky.{IsUnluckyZeta, IsUnluckyAlpha}
use Rattle.law_committed.specs.Laws.Soundness.{holds_or_unlucky}

-- each item has P, or there is one with Q, where each has one of the two
pub all_or_one : {X : Type 0} (P Q : X → Type 0) (xs : List X) → All (λ x. P x ⊎ Q x) xs → All P xs ⊎ ((x : X) × Contains xs x × Q x)
all_or_one P Q [] h = inl (λ k d l. absurd (omega (arith, l)))
all_or_one P Q (x ∷ xs) h = elim (h zero x (omega arith)) [
  | inr q ↦ inr (x, (zero, omega arith, refl), q)
  | inl p ↦ elim (all_or_one P Q xs (λ k d l. h (suc k) d (omega (arith, l)))) [
    | inr c ↦ inr (c.0, (suc c.1.0, omega (arith, c.1.1), c.1.2), c.2)
    | inl a ↦ inl (λ k d l. both P x xs p a k d l)
  ]
]
  where
    both : {X : Type 0} (P : X → Type 0) (x : X) (xs : List X) → P x → All P xs → (k : ℕ) (d : X) → k < length (x ∷ xs) → P (get_or (x ∷ xs) k d)
    both P x xs p a zero d l = p
    both P x xs p a (suc k) d l = a k d (omega (arith, l))

module _ {F E : Type 0} (f : TwoAdic F) (e : Extension F E) (top : ℕ) (inverse : E → E) (L : FieldsLaws f e top inverse) where
  pub batch_holds_or_unlucky : (batch : List (DividedTable F E)) (alpha zeta : E) → All (λ b. b.table.log_height ≤ top) batch
      → AreIdentities f e batch alpha zeta → AllHold f e batch ⊎ (IsUnluckyAlphaOfBatch f e batch alpha ⊎ IsUnluckyZetaOfBatch f e batch alpha zeta)
  batch_holds_or_unlucky batch alpha zeta fits I =
      let Q = λ (b : DividedTable F E). IsUnluckyAlpha f e b.table b.trees alpha ⊎ IsUnluckyZeta f e b.table b.trees b.quotient alpha zeta in
      elim (all_or_one (λ b. Holds f e b.table b.trees) Q batch (λ k d l.
      let b = get_or batch k d in
      holds_or_unlucky f e top inverse L b.table b.trees b.quotient alpha zeta (fits k d l) (I k d l))) [
        | inl a ↦ inl a
        | inr c ↦ elim c.2 [
          | inl a ↦ inr (inl (c.0, c.1, a))
          | inr z ↦ inr (inr (c.0, c.1, z))
        ]
      ]
