-- The batch of one table, step by step.
use Rattle.std.proofs.Common.{ℕ, List, refl}
use Rattle.p3_field.specs.Ring.{Ring}
use Rattle.batch_transcript.specs.BatchScript.{pattern, from_main, from_preprocessed, from_lookup, from_permutation, from_quotient, from_ood, from_opening, script, bindings_script, main_script, preprocessed_script, pair_script, permutation_script, quotient_script, ood_script, opening_script}
use Rattle.batch_transcript.specs.Single.{HasNineSteps, HasNineValues}

pub single-pattern : (d : ℕ) → HasNineSteps d
unfolding pattern from_main from_preprocessed from_lookup from_permutation from_quotient from_ood from_opening
single-pattern d version width n bits = refl

pub single-script : {F E : Type 0} (M : Type 0) (r : Ring E) (parts : E → List F) (d : ℕ) → HasNineValues M r parts d
unfolding script bindings_script main_script preprocessed_script pair_script permutation_script quotient_script ood_script opening_script
single-script M r parts d opaque version width bits k main quotient publics witness = refl
