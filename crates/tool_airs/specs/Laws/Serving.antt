-- The program's configuration serves for tables of any AIRs.
use Rattle.std.proofs.Common.{◌≡◌, ℕ, ◌^◌, ◌≤◌, refl, sym, subst}
use Rattle.p3_field.specs.BabyBear.{baby_bear_ring, reduce}
use Rattle.p3_field.specs.Laws.Algebra.{one_mul}
use Rattle.p3_field.specs.Laws.BabyBearField.{baby_bear_31, baby_bear_31_power}
use Rattle.p3_field.specs.Laws.BabyBearLaws.{baby_bear_laws}
use Rattle.p3_field.specs.Quartic.{quartic_inv}
use Rattle.p3_field.specs.Ring.{pow}
use Rattle.law_committed.specs.Fields.{FieldsLaws, baby_bear_field, quartic_extension}
use Rattle.law_joining.specs.Shaped.{Serves}
use Rattle.transcript_version.specs.declared.TranscriptVersion.TheVariants.{V2}
use Rattle.tool_statement.specs.Config.{tool_setting}

pub serves : FieldsLaws baby_bear_field quartic_extension 27 quartic_inv → Serves (tool_setting V2) quartic_inv
unfolding tool_setting
serves L =
    let shift_is = sym (one_mul baby_bear_ring baby_bear_laws (reduce 31)) in
    record {
      fields = L;
      plain = refl;
      shift = subst (λ x. x ≡ baby_bear_ring.zero → ⊥) shift_is baby_bear_31;
      shifted = λ k h. subst (λ x. pow baby_bear_ring x (2 ^ k) ≡ baby_bear_ring.one → ⊥) shift_is (baby_bear_31_power k h);
    }
