-- The laws of the two fields that a proof is over, in one place: those of a two-adic field, of a field above it, and of the
-- coefficients by which the larger one's values are written.
use Rattle.std.specs.Prelude.{◌≡◌, ◌⊎◌, ℕ, map}
use Rattle.p3_field.specs.BabyBear.{reduce, baby_bear_ring, baby_bear_inv, baby_bear_root}
use Rattle.p3_field.specs.Quartic.{quartic_ring, of_baby_bear_value, quartic_basis, quartic_coefficients, quartic_from_coefficients}
use Rattle.p3_field.specs.declared.baby_bear.BabyBear.{BabyBear}
use Rattle.p3_field.specs.declared.quartic.QuarticExtension.{QuarticExtension}
use Rattle.p3_field.specs.Ring.{RingLaws}
use Rattle.p3_field.specs.Field.{TwoAdic, Extension, FieldLaws, TwoAdicLaws, RingHom, VectorLaws, combine}

-- two values are one, or they aren't
abbrev pub AreDecided : Type 0 → Type 0
AreDecided A = (x y : A) → (x ≡ y) ⊎ (x ≡ y → ⊥)

-- f is a field with subgroups of each size up to 2^top, and e is a field above it, with the inverses `inverse`
pub record FieldsLaws {F E : Type 0} (f : TwoAdic F) (e : Extension F E) (top : ℕ) (inverse : E → E) : Type 0 where
  pub below : RingLaws f.ring
  pub below_field : FieldLaws f.ring f.inv
  pub below_decided : AreDecided F
  pub roots : TwoAdicLaws f.ring top f.root
  pub above : RingLaws e.ring
  pub above_field : FieldLaws e.ring inverse
  pub above_decided : AreDecided E
  pub embeds : RingHom f.ring e.ring e.embed
  pub vector : VectorLaws e.dimension e.coefficients e.from_coefficients
  pub spans : (x : E) → combine e.ring e.basis 0 (map e.embed (e.coefficients x)) ≡ x

-- BabyBear and its quartic extension as data
abbrev pub baby_bear_field : TwoAdic BabyBear
baby_bear_field = record { ring = baby_bear_ring; inv = baby_bear_inv; root = baby_bear_root; generator = reduce 31 }

abbrev pub quartic_extension : Extension BabyBear QuarticExtension
quartic_extension = record { ring = quartic_ring; embed = of_baby_bear_value; dimension = 4; basis = quartic_basis; coefficients = quartic_coefficients; from_coefficients = quartic_from_coefficients }
