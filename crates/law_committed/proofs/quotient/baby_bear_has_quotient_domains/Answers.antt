use Rattle.std.proofs.Common.{◌+◌}
use Rattle.p3_field.specs.Quartic.{quartic_inv}
use Rattle.p3_field.specs.Laws.BabyBearField.{baby_bear_31, baby_bear_31_power}
use Rattle.law_committed.specs.Fields.{baby_bear_field, quartic_extension}
use Rattle.law_committed.specs.Laws.Disjoint.{shift_gives_domain}
use Rattle.law_committed.specs.Laws.BabyBearFields.{baby_bear_fields}
use Rattle.law_committed.proofs.quotient.baby_bear_has_quotient_domains.Goals as goal

pub returns : goal.returns
returns c t log_chunks fits =
    shift_gives_domain baby_bear_field quartic_extension 27 quartic_inv baby_bear_fields t baby_bear_field.generator log_chunks fits baby_bear_31
    (baby_bear_31_power (t.log_height + log_chunks) fits)
