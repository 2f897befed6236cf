-- What is known of fields, for a configuration over them.
use Rattle.std.proofs.Common.{ℕ, sym, subst}
use Rattle.p3_field.specs.Field.{TwoAdic, Extension}
use Rattle.plain_pcs.specs.Scheme.{PlainCommitmentData}
use Rattle.batch_config.specs.Setting.{Setting}
use Rattle.law_soundness.specs.PlainSetting.{IsOverFields}

pub own_facts : {S F E : Type 0} (f : TwoAdic F) (e : Extension F E) (top : ℕ) (c : Setting S F E (PlainCommitmentData F)) → IsOverFields f e top c
    → (P : TwoAdic F → Extension F E → Type 0) → P f e → P c.field c.extension
own_facts {F = F} {E = E} f e top c over P h = subst (λ (g : TwoAdic F). P g c.extension) (sym over.field_is) (subst (λ (x : Extension F E). P f x) (sym over.extension_is) h)
