use Rattle.std.proofs.Common.{List, subst, sym}
use Rattle.std.specs.Prelude.{All}
use Rattle.std.proofs.lemmas.List.Elements.{All-append}
use Rattle.p3_field.specs.declared.baby_bear.BabyBear.{BabyBear}
use Rattle.p3_lookup.specs.Written.{Written}
use Rattle.cases_air.specs.Taken.{IsTakenLookup}
use Rattle.cases_air.proofs.Taken.{none_of, one_of}
use Rattle.cases_air.proofs.lookups.lookups_of.Goals as goal

pub loop-word-init : goal.loop-word-init
loop-word-init c =
    let Q : List (Written BabyBear) → Type 0 = λ ls. All IsTakenLookup ls in
    subst Q (sym c.new-lookups.ensures.items) (none_of IsTakenLookup)

pub loop-word-preserved : goal.loop-word-preserved
loop-word-preserved c =
    let Q : List (Written BabyBear) → Type 0 = λ ls. All IsTakenLookup ls in
    subst Q (sym c.in_ok-push.ensures.items) (All-append IsTakenLookup _ _ c.loop-word.invariant (one_of IsTakenLookup _ c.in_ok-lookup_of.ensures))
