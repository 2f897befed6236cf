-- Configurations over BabyBear serve for jobs; and what is made for a job's AIRs is valid.
use Rattle.std.proofs.Common.{◌≡◌, ℕ, ◌^◌, ◌≤◌, refl, sym, subst, arith}
use Rattle.p3_challenger.specs.Script.{ChallengerOf}
use Rattle.p3_field.specs.BabyBear.{baby_bear_inv, baby_bear_ring}
use Rattle.p3_field.specs.Laws.Algebra.{one_mul}
use Rattle.p3_field.specs.Laws.BabyBearField.{baby_bear_31, baby_bear_31_power, baby_bear_canonical_of, baby_bear_field_laws, baby_bear_of_canonical}
use Rattle.p3_field.specs.Laws.BabyBearLaws.{baby_bear_laws}
use Rattle.p3_field.specs.Quartic.{quartic_inv}
use Rattle.p3_field.specs.Ring.{pow}
use Rattle.p3_field.specs.declared.baby_bear.BabyBear.{BabyBear}
use Rattle.p3_field.specs.declared.quartic.QuarticExtension.{QuarticExtension}
use Rattle.air_gadgets.specs.Words.{PrimeFieldLaws}
use Rattle.blake3_prime.specs.Meanings.{RowMeans}
use Rattle.blake3_prime.specs.Laws.TraceRow.{row_means}
use Rattle.law_committed.specs.Fields.{baby_bear_field}
use Rattle.law_committed.specs.Laws.BabyBearFields.{baby_bear_fields}
use Rattle.transcript_version.specs.declared.TranscriptVersion.{TranscriptVersion}
use Rattle.law_tool_valid.specs.Serves.{ServesJobs, baby_bear_setting}

-- BabyBear is a prime field of more than 2^20 elements, so the constraints of compressions mean compressions there
bear_prime : PrimeFieldLaws baby_bear_ring baby_bear_inv 2013265921 (λ (x : BabyBear). x.value)
bear_prime = record {
  ring_laws = baby_bear_laws;
  field_laws = baby_bear_field_laws;
  canonical_below = λ x. x.in_range;
  of_canonical = baby_bear_of_canonical;
  canonical_of = baby_bear_canonical_of;
}

bear_compressions : RowMeans baby_bear_ring
bear_compressions = row_means baby_bear_ring baby_bear_inv 2013265921 (λ (x : BabyBear). x.value) bear_prime (omega arith)

module _ {S C : Type 0} (challenger : ChallengerOf S BabyBear QuarticExtension C) (initial : S) (log_max lookup_bits ood_bits : ℕ) (version : TranscriptVersion) where
  -- the shift is the generator
  shift_is : baby_bear_field.generator ≡ baby_bear_ring.mul baby_bear_ring.one baby_bear_field.generator
  shift_is = sym (one_mul baby_bear_ring baby_bear_laws baby_bear_field.generator)

  pub baby_bear_serves : 10 ≤ log_max → ServesJobs (baby_bear_setting challenger initial log_max lookup_bits ood_bits version) quartic_inv
  baby_bear_serves enough = record {
    fields = baby_bear_fields;
    plain = refl;
    least = refl;
    most = enough;
    subgroups = omega arith;
    order = omega arith;
    shift = subst (λ x. x ≡ baby_bear_ring.zero → ⊥) shift_is baby_bear_31;
    shifted = λ k h. subst (λ x. pow baby_bear_ring x (2 ^ k) ≡ baby_bear_ring.one → ⊥) shift_is (baby_bear_31_power k (omega (arith, h)));
    compressions = bear_compressions;
  }
