use Rattle.std.proofs.Common.{◌≡◌, Some, length, map, refl, sym, ◌∙◌, ap, arith}
use Rattle.std.specs.Prelude.{slice_get}
use Rattle.std.proofs.lemmas.List.{length-map}
use Rattle.std.proofs.lemmas.Option.{slice_get_read, slice_get_within}
use Rattle.commit_core.specs.Claims.{PointClaim}
use Rattle.p3_field.specs.Checks.{NoneFails}
use Rattle.plain_pcs.specs.Checks.{point_checks}
use Rattle.plain_pcs.specs.declared.error.PlainError.TheVariants.{Value}
use Rattle.p3_field.specs.Laws.Checks.{none_of_items, first_of_items}
use Rattle.plain_pcs.proofs.Parts.{no_wrong_value, wrong_value, one_more}
use Rattle.plain_pcs.proofs.verifying.points_fault.Goals as goal

pub returns-in-Some : goal.returns-in-Some
returns-in-Some g c = λ s m k A.
    let ring = g.E.RingCore.ring in
    let embed = g.E.ExtensionField.embed in
    let at = c.loop-point.point in
    let p = c.index-points-point.result in
    let vs = c.args.polynomials.now in
    let here : slice_get c.args.points.now at ≡ Some p = slice_get_read c.args.points.now (length c.args.points.now) at p refl (omega arith) c.index-points-point.is in
    let point = ap (λ (v : PointClaim g.row.E.Denot). v.point) c.opening.view_is in
    let values = c.deref.ensures.value ∙ ap (λ (v : PointClaim g.row.E.Denot). v.values) c.opening.view_is in
    let fault = wrong_value s ring embed m k (map (λ f. f.items) vs) A c.args.round c.args.matrix at p (length vs) c.opening.inside.point c.deref.result.now c.in-Some.column
    (sym (length-map vs (λ f. f.items))) point values c.in-Some.ensures in
    first_of_items (point_checks s ring embed c.args.round c.args.matrix m k) c.args.points.now at p (Value c.args.round c.args.matrix at c.in-Some.column) here
    (λ j y lt q. c.loop-point.invariant s m k A j y lt q) fault

pub loop-point-preserved : goal.loop-point-preserved
loop-point-preserved g c = λ s m k A.
    let ring = g.E.RingCore.ring in
    let embed = g.E.ExtensionField.embed in
    let at = c.loop-point.point in
    let p = c.index-points-point.result in
    let vs = c.args.polynomials.now in
    let here : slice_get c.args.points.now at ≡ Some p = slice_get_read c.args.points.now (length c.args.points.now) at p refl (omega arith) c.index-points-point.is in
    let point = ap (λ (v : PointClaim g.row.E.Denot). v.point) c.opening.view_is in
    let values = c.deref.ensures.value ∙ ap (λ (v : PointClaim g.row.E.Denot). v.values) c.opening.view_is in
    let none = no_wrong_value s ring embed m k (map (λ f. f.items) vs) A c.args.round c.args.matrix at p (length vs) c.opening.inside.point c.deref.result.now
    (sym (length-map vs (λ f. f.items))) point values c.in_default.ensures in
    one_more c.args.points.now at p (λ i x. NoneFails (point_checks s ring embed c.args.round c.args.matrix m k i x)) here
    (λ j y lt q. c.loop-point.invariant s m k A j y lt q) none

pub returns : goal.returns
returns g c = λ s m k A.
    none_of_items (point_checks s g.E.RingCore.ring g.E.ExtensionField.embed c.args.round c.args.matrix m k) c.args.points.now
    (λ j y q. c.loop-point.invariant s m k A j y (let b = slice_get_within c.args.points.now j y q in omega (arith, b)) q)
