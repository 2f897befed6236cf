-- The first of an opening's checks that fails.
use Rattle.std.proofs.Common.{inl, inr, refl}
use Rattle.p3_field.specs.Checks.{FirstFails}
use Rattle.plain_pcs.specs.PlainMmcs.{row_opening_checks}
use Rattle.plain_pcs.specs.declared.plain_mmcs.PlainMmcsError.TheVariants.{Dimensions, Index, Value}

module _ (Shape Place Values : Type 0) where
  pub wrong_opening : (Shape → ⊥) → FirstFails (row_opening_checks Shape Place Values) Dimensions
  unfolding FirstFails
  wrong_opening n = inr (n, refl)

  pub wrong_place : Shape → (Place → ⊥) → FirstFails (row_opening_checks Shape Place Values) Index
  unfolding FirstFails
  wrong_place s n = inl (s, inr (n, refl))

  pub wrong_rows : Shape → Place → (Values → ⊥) → FirstFails (row_opening_checks Shape Place Values) Value
  unfolding FirstFails
  wrong_rows s p n = inl (s, inl (p, inr (n, refl)))
