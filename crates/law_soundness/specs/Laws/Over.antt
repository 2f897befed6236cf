-- What is known of fields and of a scheme, for a configuration over them.
use Rattle.std.proofs.Common.{ℕ, sym, subst}
use Rattle.p3_field.specs.Field.{TwoAdic, Extension}
use Rattle.plain_pcs.specs.Scheme.{PlainCommitmentData}
use Rattle.law_committed.specs.Fields.{FieldsLaws}
use Rattle.batch_config.specs.Setting.{Setting}
use Rattle.law_soundness.specs.PlainSetting.{IsOverFields, plain_scheme}
use Rattle.law_soundness.specs.Laws.Bound.{Binds}

module _ {S F E : Type 0} (f : TwoAdic F) (e : Extension F E) (top : ℕ) (c : Setting S F E (PlainCommitmentData F)) (over : IsOverFields f e top c) where
  pub own_laws : (inverse : E → E) → FieldsLaws f e top inverse → FieldsLaws c.field c.extension c.two_adicity inverse
  own_laws inverse L =
      subst (λ (g : TwoAdic F). FieldsLaws g c.extension c.two_adicity inverse) (sym over.field_is)
      (subst (λ (h : Extension F E). FieldsLaws f h c.two_adicity inverse) (sym over.extension_is) (subst (λ (n : ℕ). FieldsLaws f e n inverse) (sym over.two_adicity_is) L))

  pub own_binds : (log_blowup : ℕ) → Binds (record { field = f; most = top; log_blowup = log_blowup }) e.ring e.embed → Binds (plain_scheme c log_blowup) c.extension.ring c.extension.embed
  own_binds log_blowup B =
      let at = λ (g : TwoAdic F) (h : Extension F E) (n : ℕ). Binds (record { field = g; most = n; log_blowup = log_blowup }) h.ring h.embed in
      subst (λ (g : TwoAdic F). at g c.extension c.two_adicity) (sym over.field_is)
      (subst (λ (h : Extension F E). at f h c.two_adicity) (sym over.extension_is) (subst (λ (n : ℕ). at f e n) (sym over.two_adicity_is) B))
