use Rattle.law_committed.specs.Laws.BabyBearFields.{baby_bear_fields}
use Rattle.law_committed.proofs.fields.baby_bear_has_laws.Goals as goal

pub returns : goal.returns
returns c = baby_bear_fields
