-- The program's configuration as plain data.
use Rattle.std.specs.Prelude.{false, replicate}
use Rattle.p3_field.specs.BabyBear.{reduce, baby_bear_ring, baby_bear_inv, baby_bear_root}
use Rattle.p3_field.specs.Quartic.{quartic_ring, of_baby_bear_value, quartic_basis, quartic_coefficients, quartic_from_coefficients}
use Rattle.p3_field.specs.declared.baby_bear.BabyBear.{BabyBear}
use Rattle.p3_field.specs.declared.quartic.QuarticExtension.{QuarticExtension}
use Rattle.p3_challenger.specs.Sha256Functions.{sha256_functions}
use Rattle.p3_challenger.specs.declared.sha256_challenger.Sha256Challenger.{Sha256Challenger}
use Rattle.plain_pcs.specs.Scheme.{Scheme, PlainCommitmentData, scheme}
use Rattle.plain_pcs.specs.Checks.{Opens, Fault}
use Rattle.plain_pcs.specs.Observing.{commitment_elements}
use Rattle.plain_pcs.specs.declared.commitment.PlainProof.{PlainProof}
use Rattle.plain_pcs.specs.declared.error.PlainError.{PlainError}
use Rattle.batch_config.specs.Setting.{Setting, Backend}
use Rattle.transcript_version.specs.declared.TranscriptVersion.{TranscriptVersion}

-- the plain scheme over BabyBear, which has subgroups of sizes up to 2^27, with a blowup of two
abbrev pub tool_scheme : Scheme BabyBear
tool_scheme = scheme baby_bear_ring baby_bear_inv baby_bear_root (reduce 31) 27 (record { log_blowup = 1 })

-- BabyBear and its quartic extension, the SHA-256 challenger at a chain of zeros, a scheme that masks nothing and whose traces have up to 2^26 rows, four
-- bits for each grinding, and transcripts of this version
unfoldable pub tool_setting : TranscriptVersion → Setting Sha256Challenger BabyBear QuarticExtension (PlainCommitmentData BabyBear)
tool_setting version = record {
  field = record { ring = baby_bear_ring; inv = baby_bear_inv; root = baby_bear_root; generator = reduce 31 };
  two_adicity = 27;
  order = 2013265921;
  extension = record { ring = quartic_ring; embed = of_baby_bear_value; dimension = 4; basis = quartic_basis; coefficients = quartic_coefficients; from_coefficients = quartic_from_coefficients };
  challenger = sha256_functions (commitment_elements baby_bear_ring);
  initial = record { chain = replicate 32 0; left = 0 };
  zk = false;
  log_min = 0;
  log_max = 26;
  lookup_bits = 4;
  ood_bits = 4;
  version = version;
}

-- the plain scheme's verifier
abbrev pub backend_of : Scheme BabyBear → Backend Sha256Challenger BabyBear QuarticExtension (PlainCommitmentData BabyBear) PlainProof PlainError
backend_of s = record {
  opens = λ t claims p. Opens s quartic_ring of_baby_bear_value claims;
  fault = λ t claims p e. Fault s quartic_ring of_baby_bear_value claims e;
}

unfoldable pub tool_backend : Backend Sha256Challenger BabyBear QuarticExtension (PlainCommitmentData BabyBear) PlainProof PlainError
tool_backend = backend_of tool_scheme
