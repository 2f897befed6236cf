-- `Sha256Challenger` as the functions that a script is played with.
use Rattle.std.specs.Prelude.{List}
use Rattle.std.specs.List.{fold}
use Rattle.p3_field.specs.declared.baby_bear.BabyBear.{BabyBear}
use Rattle.p3_field.specs.declared.quartic.QuarticExtension.{QuarticExtension}
use Rattle.p3_challenger.specs.Script.{ChallengerOf}
use Rattle.p3_challenger.specs.Elements.{ElementChallenger}
use Rattle.p3_challenger.specs.Sha256.{observed, observed_extension, drawn_element, after_draw, drawn_extension, after_extension_draw, bits_drawn}
use Rattle.p3_challenger.specs.declared.sha256_challenger.Sha256Challenger.{Sha256Challenger}

-- the challenger's functions, opaque values being observed as these elements
abbrev pub sha256_functions : {M : Type 0} → (M → List BabyBear) → ChallengerOf Sha256Challenger BabyBear QuarticExtension M
sha256_functions opaque = record {
  observe = observed;
  observe_extension = observed_extension;
  observe_opaque = λ s m. fold observed s (opaque m);
  draw = drawn_extension;
  after_draw = after_extension_draw;
  draw_bits = bits_drawn;
  after_bits = λ s b. after_draw s;
}

abbrev pub sha256_elements : ElementChallenger Sha256Challenger BabyBear
sha256_elements = record { observe = observed; draw = drawn_element; after_draw = after_draw; draw_bits = bits_drawn; after_bits = λ s b. after_draw s }
