use Rattle.std.proofs.Common.{◌≡◌, ℕ, ◌<◌, List, [], All, length, map, get_or, refl, sym, ◌∙◌, ap, subst, arith}
use Rattle.air_core.specs.Shape.{Declaration, declared_shape}
use Rattle.air_core.specs.Laws.Reads.{not_true}
use Rattle.p3_lookup.specs.Lookup.{LookupData, IsLookup}
use Rattle.p3_lookup.specs.Written.{read_all}
use Rattle.batch_statement.proofs.Turns.{mapped_item, place_more, at_place}
use Rattle.batch_statement.proofs.reads.lookups_fit.Goals as goal

pub returns-then-not-are_lookups : goal.returns-then-not-are_lookups
returns-then-not-are_lookups g c =
    let i = c.loop-i.i in
    let within : i < length c.args.airs.now = omega arith in
    let inside : i < length c.args.lookups.now = omega arith in
    let s = declared_shape (g.A.BaseAir.declaration c.index-airs-i.result) in
    let P : ℕ → Declaration g.row.F.Denot → Type 0 = λ k d. All (IsLookup (declared_shape d)) (get_or (map read_all c.args.lookups.now) k []) in
    let Q : List (LookupData g.row.F.Denot) → Type 0 = λ ls. All (IsLookup s) ls in
    let own : get_or (map read_all c.args.lookups.now) i [] ≡ read_all c.as_slice.result.now =
    mapped_item (read_all {F = g.row.F.Denot}) c.args.lookups.now i c.index-lookups-i.result [] inside c.index-lookups-i.is ∙ ap (read_all {F = g.row.F.Denot}) (sym c.as_slice.ensures) in (
      (λ h. absurd (not_true h)),
      λ h. sym c.if-not-are_lookups.true ∙ c.are_lookups.ensures.1 (subst Q own (at_place g.A.BaseAir.declaration P c.args.airs.now i c.args.n c.index-airs-i.result c.loop-i-test.true within c.index-airs-i.is h)),
    )

pub loop-i-preserved : goal.loop-i-preserved
loop-i-preserved g c =
    let i = c.loop-i.i in
    let within : i < length c.args.airs.now = omega arith in
    let inside : i < length c.args.lookups.now = omega arith in
    let s = declared_shape (g.A.BaseAir.declaration c.index-airs-i.result) in
    let P : ℕ → Declaration g.row.F.Denot → Type 0 = λ k d. All (IsLookup (declared_shape d)) (get_or (map read_all c.args.lookups.now) k []) in
    let Q : List (LookupData g.row.F.Denot) → Type 0 = λ ls. All (IsLookup s) ls in
    let own : get_or (map read_all c.args.lookups.now) i [] ≡ read_all c.as_slice.result.now =
    mapped_item (read_all {F = g.row.F.Denot}) c.args.lookups.now i c.index-lookups-i.result [] inside c.index-lookups-i.is ∙ ap (read_all {F = g.row.F.Denot}) (sym c.as_slice.ensures) in
    place_more g.A.BaseAir.declaration P c.args.airs.now i c.index-airs-i.result within c.index-airs-i.is c.loop-i.invariant
    (subst Q (sym own) (c.are_lookups.ensures.0 c.if-not-are_lookups.false))

pub returns : goal.returns
returns g c = ((λ h k lt. c.loop-i.invariant k (omega arith)), λ h. refl)
