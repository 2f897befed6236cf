use Rattle.std.proofs.Common.{refl}
use Rattle.p3_field.specs.Laws.BabyBearField.{baby_bear_root_from}
use Rattle.p3_field.proofs.baby_bear.field.BabyBearTwoAdicCore.two_adic_generator.Goals as goal

pub returns : goal.returns
returns c = baby_bear_root_from _ c.exp_power_of_2.result c.args.bits c.exp_power_of_2.ensures refl
