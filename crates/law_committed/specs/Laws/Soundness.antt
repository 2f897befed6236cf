-- Where the identity of a committed table holds at zeta, each tree is zero on each row, or alpha or zeta is unlucky.
use Rattle.std.proofs.Common.{◌≡◌, ℕ, zero, suc, ◌<◌, ◌≤◌, ◌⊎◌, inl, inr, List, sym, ◌∙◌, ap, subst, arith}
use Rattle.std.specs.List.{All}
use Rattle.std.proofs.Math.ListN.{get_or-map}
use Rattle.std.proofs.lemmas.Bool.{cases_eq}
use Rattle.std.proofs.lemmas.List.{length-map}
use Rattle.p3_field.specs.Field.{TwoAdic, Extension}
use Rattle.p3_field.specs.Poly.{IsZeroPoly, eval_poly}
use Rattle.p3_field.specs.Laws.Algebra.{zero_mul}
use Rattle.p3_field.specs.Laws.Roots.{sub_zero}
use Rattle.p3_field.specs.Laws.Selectors.{vanishing_polynomial_vanishes}
use Rattle.p3_field.specs.Laws.Values.{eval_zero}
use Rattle.air_core.specs.Tree.{Tree, eval_tree}
use Rattle.p3_uni_stark.specs.Fold.{fold}
use Rattle.p3_uni_stark.specs.Recombine.{recombined}
use Rattle.law_committed.specs.Committed.{CommittedTable, Holds, row, row_point, row_count_of, trace_domain}
use Rattle.law_committed.specs.Fields.{FieldsLaws}
use Rattle.law_committed.specs.Identity.{CommittedIdentity, CommittedQuotient, chunk_values, identity_poly, rows_vanishing_polynomial}
use Rattle.law_committed.specs.Unlucky.{IsUnluckyAlpha, IsUnluckyZeta, constraint_values}
use Rattle.law_committed.specs.Laws.Decided.{items_decided, zero_decided}
use Rattle.law_committed.specs.Laws.Identity.{identity_at, identity_value}

module _ {F E : Type 0} (f : TwoAdic F) (e : Extension F E) (top : ℕ) (inverse : E → E) (L : FieldsLaws f e top inverse) (t : CommittedTable F E) (trees : List (Tree F)) where
  -- where the identity polynomial is zero, the fold of the trees' values is zero on every row
  pub fold_on_row : (q : CommittedQuotient F) (alpha : E) → t.log_height ≤ top → IsZeroPoly e.ring (identity_poly f e t trees q alpha)
      → (i : ℕ) → fold e.ring alpha (constraint_values f e t trees i) ≡ e.ring.zero
  fold_on_row q alpha fits z i =
      let s = e.ring in
      let x = row_point f e t i in
      let R = recombined f e q.domains (chunk_values f e q x) x in
      let V = eval_poly s (rows_vanishing_polynomial f e t) x in
      let gone : V ≡ s.zero = vanishing_polynomial_vanishes f.ring L.below s L.above e.embed L.embeds f.inv L.below_field top f.root L.roots (trace_domain f e t) i L.below_field.one_differs fits in
      let same = sub_zero s L.above (fold s alpha (constraint_values f e t trees i)) (s.mul V R)
      (sym (identity_value e L.above f t trees q alpha x) ∙ eval_zero s L.above (identity_poly f e t trees q alpha) x z) in
      same ∙ (ap (λ v. s.mul v R) gone ∙ zero_mul s L.above R)

  -- each of the first m rows is zero throughout, or there is one that isn't
  rows_decided : (m : ℕ) → ((i : ℕ) → i < m → All (λ v. v ≡ e.ring.zero) (constraint_values f e t trees i))
      ⊎ ((i : ℕ) × (i < m) × (All (λ v. v ≡ e.ring.zero) (constraint_values f e t trees i) → ⊥))
  rows_decided zero = inl (λ i h. absurd (omega (arith, h)))
  rows_decided (suc m) = elim (items_decided e.ring.zero L.above_decided (constraint_values f e t trees m)) [
    | inr d ↦ inr (m, omega arith, d)
    | inl a ↦ elim (rows_decided m) [
      | inr d ↦ inr (d.0, omega (arith, d.1), d.2)
      | inl b ↦ inl (λ i h. elim (cases_eq i m) [
        | inl w ↦ subst (λ k. All (λ v. v ≡ e.ring.zero) (constraint_values f e t trees k)) (sym w) a
        | inr w ↦ b i (omega (arith, h, w))
      ])
    ]
  ]

  rows_hold : ((i : ℕ) → i < row_count_of t → All (λ v. v ≡ e.ring.zero) (constraint_values f e t trees i)) → Holds f e t trees
  rows_hold a i below k u h =
      let g = eval_tree (row f e t i) in
      sym (get_or-map g trees k u) ∙ a i below k (g u) (omega (arith, h, length-map trees g))

  -- The middle part of soundness for one table.
  pub holds_or_unlucky : (q : CommittedQuotient F) (alpha zeta : E) → t.log_height ≤ top → CommittedIdentity f e t trees q alpha zeta
      → Holds f e t trees ⊎ (IsUnluckyAlpha f e t trees alpha ⊎ IsUnluckyZeta f e t trees q alpha zeta)
  holds_or_unlucky q alpha zeta fits I = elim (zero_decided e.ring L.above_decided (identity_poly f e t trees q alpha)) [
    | inr d ↦ inr (inr (record { differs = d; vanishes = (identity_at e L.above f t trees q alpha zeta).0 I }))
    | inl z ↦ elim (rows_decided (row_count_of t)) [
      | inl a ↦ inl (rows_hold a)
      | inr d ↦ inr (inl (d.0, d.1, record { differs = d.2; vanishes = fold_on_row q alpha fits z d.0 }))
    ]
  ]
