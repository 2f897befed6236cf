use Rattle.std.proofs.Common.{◌≡◌, List, All, map, take, refl, sym, ◌∙◌, subst, arith}
use Rattle.std.proofs.lemmas.Grind.{common_steps}
use Rattle.air_core.specs.Shape.{declared_shape}
use Rattle.air_core.specs.Laws.Reads.{not_true}
use Rattle.p3_lookup.specs.Lookup.{IsLookup}
use Rattle.p3_lookup.specs.Written.{Written, read}
use Rattle.batch_statement.proofs.Turns.{one_more, at_item}
use Rattle.batch_statement.proofs.reads.are_lookups.Goals as goal

pub loop-i-preserved : goal.loop-i-preserved
loop-i-preserved g c =
    let s = declared_shape (g.A.BaseAir.declaration c.args.air.now) in
    one_more (read {F = g.row.F.Denot}) (IsLookup s) c.args.lookups.now c.loop-i.i c.index-lookups-i.result c.loop-i-test.true c.index-lookups-i.is c.loop-i.invariant (c.is_lookup.ensures.0 c.if-not-is_lookup.false)

pub returns-then-not-is_lookup : goal.returns-then-not-is_lookup
returns-then-not-is_lookup g c =
    let s = declared_shape (g.A.BaseAir.declaration c.args.air.now) in (
      (λ h. absurd (not_true h)),
      λ h. sym c.if-not-is_lookup.true ∙ c.is_lookup.ensures.1 (at_item (read {F = g.row.F.Denot}) (IsLookup s) c.args.lookups.now c.loop-i.i c.index-lookups-i.result c.loop-i-test.true c.index-lookups-i.is h),
    )

pub returns : goal.returns
returns g c =
    let s = declared_shape (g.A.BaseAir.declaration c.args.air.now) in
    let all : take c.loop-i.i c.args.lookups.now ≡ c.args.lookups.now = grind (arith, common_steps) in
    let Q : List (Written g.row.F.Denot) → Type 0 = λ ys. All (IsLookup s) (map read ys) in
    ((λ h. subst Q all c.loop-i.invariant), λ h. refl)
