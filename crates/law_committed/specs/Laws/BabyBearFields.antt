-- BabyBear and its quartic extension meet the laws.
use Rattle.std.specs.Prelude.{◌&&◌, nat_eq}
use Rattle.p3_field.specs.Quartic.{quartic_inv}
use Rattle.p3_field.specs.Laws.BabyBearLaws.{baby_bear_laws}
use Rattle.p3_field.specs.Laws.BabyBearField.{baby_bear_field_laws, baby_bear_root_laws, baby_bear_same_eq, baby_bear_eq_same}
use Rattle.p3_field.specs.Laws.QuarticLaws.{quartic_laws, quartic_hom}
use Rattle.p3_field.specs.Laws.QuarticField.{quartic_field_laws, quartic_eq_same, quartic_same_eq}
use Rattle.p3_field.specs.Laws.QuarticVector.{quartic_vector_laws, quartic_spans}
use Rattle.p3_field.specs.Laws.TwoAdic.{decide_by}
use Rattle.law_committed.specs.Fields.{FieldsLaws, baby_bear_field, quartic_extension}

pub baby_bear_fields : FieldsLaws baby_bear_field quartic_extension 27 quartic_inv
baby_bear_fields = record {
  below = baby_bear_laws;
  below_field = baby_bear_field_laws;
  below_decided = decide_by (λ x y. nat_eq x.value y.value) baby_bear_same_eq baby_bear_eq_same;
  roots = baby_bear_root_laws;
  above = quartic_laws;
  above_field = quartic_field_laws;
  above_decided = decide_by
      (λ x y. nat_eq x.c0.value y.c0.value && (nat_eq x.c1.value y.c1.value && (nat_eq x.c2.value y.c2.value && nat_eq x.c3.value y.c3.value)))
      quartic_eq_same quartic_same_eq;
  embeds = quartic_hom;
  vector = quartic_vector_laws;
  spans = quartic_spans;
}
