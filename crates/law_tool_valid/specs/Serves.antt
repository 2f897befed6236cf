-- Configurations for jobs.
use Rattle.std.specs.Prelude.{◌≡◌, ℕ, ◌^◌, ◌<◌, ◌≤◌, false}
use Rattle.p3_field.specs.Ring.{Ring, pow}
use Rattle.batch_config.specs.Setting.{Setting}
use Rattle.law_valid.specs.Traced.{quotient_shift}
use Rattle.law_committed.specs.Fields.{FieldsLaws, baby_bear_field, quartic_extension}
use Rattle.p3_challenger.specs.Script.{ChallengerOf}
use Rattle.p3_field.specs.declared.baby_bear.BabyBear.{BabyBear}
use Rattle.p3_field.specs.declared.quartic.QuarticExtension.{QuarticExtension}
use Rattle.blake3_prime.specs.Meanings.{RowMeans}
use Rattle.transcript_version.specs.declared.TranscriptVersion.{TranscriptVersion}
use Rattle.law_tool_valid.specs.Job.{JobTable, swap_of, wheel_of, take_of, give_of, hash_of}

-- what a table needs of the ring that its cells are in: for compressions their constraints mean compressions there
abbrev pub ServesTable : {F : Type 0} → Ring F → JobTable F → Type 0
ServesTable r (swap_of k a b) = Unit {0}
ServesTable r (wheel_of k) = Unit {0}
ServesTable r (take_of words) = Unit {0}
ServesTable r (give_of pairs) = Unit {0}
ServesTable r (hash_of rows) = RowMeans r

-- A configuration serves for jobs: its fields have the laws, its backend masks nothing and takes tables of one row and of up to 2^10, there
-- are subgroups of these sizes, none of which has the quotients' shift among its elements, the order is above eight tables' loads, and the
-- constraints of compressions mean compressions.
pub record ServesJobs {S F E C : Type 0} (c : Setting S F E C) (inverse : E → E) : Type 0 where
  pub fields : FieldsLaws c.field c.extension c.two_adicity inverse
  pub plain : c.zk ≡ false
  pub least : c.log_min ≡ 0
  pub most : 10 ≤ c.log_max
  pub subgroups : 10 ≤ c.two_adicity
  pub order : 8388608 < c.order
  pub shift : quotient_shift c ≡ c.field.ring.zero → ⊥
  pub shifted : (k : ℕ) → k ≤ 10 → pow c.field.ring (quotient_shift c) (2 ^ k) ≡ c.field.ring.one → ⊥
  pub compressions : RowMeans c.field.ring

-- a configuration over BabyBear and its quartic extension, whose backend masks nothing and takes any trace of up to 2^log_max rows
abbrev pub baby_bear_setting : {S C : Type 0} → ChallengerOf S BabyBear QuarticExtension C → (initial : S) → (log_max lookup_bits ood_bits : ℕ) → TranscriptVersion → Setting S BabyBear QuarticExtension C
baby_bear_setting challenger initial log_max lookup_bits ood_bits version = record {
  field = baby_bear_field;
  two_adicity = 27;
  order = 2013265921;
  extension = quartic_extension;
  challenger = challenger;
  initial = initial;
  zk = false;
  log_min = 0;
  log_max = log_max;
  lookup_bits = lookup_bits;
  ood_bits = ood_bits;
  version = version;
}
