use Rattle.std.proofs.Common.{List, subst, sym}
use Rattle.std.specs.Prelude.{All}
use Rattle.p3_field.specs.declared.baby_bear.BabyBear.{BabyBear}
use Rattle.p3_lookup.specs.Written.{Written}
use Rattle.cases_air.specs.Taken.{IsTakenLookup}
use Rattle.cases_air.proofs.columns.column.Goals as goal

pub generated-requires-clause-taken : goal.generated-requires-clause-taken
generated-requires-clause-taken c =
    let Q : List (Written BabyBear) → Type 0 = λ ls. All IsTakenLookup ls in
    subst Q (sym c.as_slice-taken.ensures.value) c.in_ok-lookups.ensures

pub push_constraints-requires-clause-taken : goal.push_constraints-requires-clause-taken
push_constraints-requires-clause-taken c =
    let Q : List (Written BabyBear) → Type 0 = λ ls. All IsTakenLookup ls in
    subst Q (sym c.as_slice-taken.ensures.value) c.in_ok-lookups.ensures
