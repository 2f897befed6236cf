use Rattle.std.proofs.Common.{Some, option_map, sym, ap, ◌∙◌}
use Rattle.p3_field.specs.BabyBear.{reduce}
use Rattle.p3_field.specs.Laws.BabyBearLaws.{baby_bear_of_nat}
use Rattle.json_forms.proofs.forms.BabyBearJsonForm.read.Goals as goal

pub returns-in-Some-clause-ok : goal.returns-in-Some-clause-ok
returns-in-Some-clause-ok c = ap (option_map reduce) (sym c.number.ensures.value ∙ c.in-Some.is) ∙ ap Some (baby_bear_of_nat c.in-Some.n ∙ sym c.from_u64.ensures)
