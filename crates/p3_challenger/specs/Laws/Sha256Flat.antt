-- `Sha256Challenger` over `QuarticExtension` observes and draws base elements.
use Rattle.std.proofs.Common.{List, refl}
use Rattle.p3_field.specs.declared.baby_bear.BabyBear.{BabyBear}
use Rattle.p3_field.specs.Quartic.{quartic_coefficients}
use Rattle.p3_challenger.specs.Elements.{draw_all, after_draws, IsOverElements}
use Rattle.p3_challenger.specs.Sha256Functions.{sha256_functions, sha256_elements}
use Rattle.p3_challenger.specs.Sha256.{observed_extension, drawn_extension, after_extension_draw}

pub sha256-over : {M : Type 0} (opaque : M → List BabyBear) → IsOverElements (sha256_functions opaque) sha256_elements quartic_coefficients opaque 4
unfolding observed_extension drawn_extension after_extension_draw draw_all after_draws
sha256-over opaque = record {
  observes = λ s x. refl;
  observes_extension = λ s x. refl;
  observes_opaque = λ s m. refl;
  draws = λ s. refl;
  leaves = λ s. refl;
  draws_bits = λ s n. refl;
  leaves_bits = λ s n. refl;
}
