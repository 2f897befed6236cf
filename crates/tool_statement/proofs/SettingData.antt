-- The configuration as plain data.
use Rattle.std.proofs.Common.{◌≡◌, ℕ, ◌-◌, false, replicate}
use Rattle.p3_field.specs.BabyBear.{reduce, baby_bear_ring, baby_bear_inv, baby_bear_root}
use Rattle.p3_field.specs.Quartic.{quartic_ring, of_baby_bear_value, quartic_basis, quartic_coefficients, quartic_from_coefficients}
use Rattle.p3_field.specs.declared.baby_bear.BabyBear.{BabyBear}
use Rattle.p3_field.specs.declared.quartic.QuarticExtension.{QuarticExtension}
use Rattle.p3_challenger.specs.Sha256Functions.{sha256_functions}
use Rattle.p3_challenger.specs.declared.sha256_challenger.Sha256Challenger.{Sha256Challenger}
use Rattle.plain_pcs.specs.Scheme.{Blowup, PlainCommitmentData}
use Rattle.plain_pcs.specs.Observing.{commitment_elements}
use Rattle.batch_config.specs.Setting.{Setting}
use Rattle.transcript_version.specs.declared.TranscriptVersion.{TranscriptVersion}
use Rattle.tool_statement.specs.Config.{tool_setting}

abbrev pub setting_with : Blowup → Sha256Challenger → ℕ → ℕ → TranscriptVersion → Setting Sha256Challenger BabyBear QuarticExtension (PlainCommitmentData BabyBear)
setting_with b challenger lookup_bits ood_bits version = record {
  field = record { ring = baby_bear_ring; inv = baby_bear_inv; root = baby_bear_root; generator = reduce 31 };
  two_adicity = 27;
  order = 2013265921;
  extension = record { ring = quartic_ring; embed = of_baby_bear_value; dimension = 4; basis = quartic_basis; coefficients = quartic_coefficients; from_coefficients = quartic_from_coefficients };
  challenger = sha256_functions (commitment_elements baby_bear_ring);
  initial = challenger;
  zk = false;
  log_min = 0;
  log_max = 27 - b.log_blowup;
  lookup_bits = lookup_bits;
  ood_bits = ood_bits;
  version = version;
}

pub setting_is : (b : Blowup) (challenger : Sha256Challenger) (lookup_bits ood_bits : ℕ) (version given : TranscriptVersion) → b ≡ record { log_blowup = 1 } → challenger ≡ record { chain = replicate 32 0; left = 0 }
    → lookup_bits ≡ 4 → ood_bits ≡ 4 → version ≡ given → setting_with b challenger lookup_bits ood_bits version ≡ tool_setting given
unfolding tool_setting
setting_is b challenger lookup_bits ood_bits version given p q r s t = λ i. setting_with (p i) (q i) (r i) (s i) (t i)
