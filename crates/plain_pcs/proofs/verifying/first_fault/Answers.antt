use Rattle.std.proofs.Common.{◌≡◌, Some, None, length, refl, arith}
use Rattle.std.specs.Prelude.{slice_get}
use Rattle.std.proofs.lemmas.Option.{slice_get_read, slice_get_within}
use Rattle.plain_pcs.specs.Scheme.{scheme}
use Rattle.p3_field.specs.Checks.{NoneFails}
use Rattle.plain_pcs.specs.Checks.{round_checks, opening_claim_checks}
use Rattle.p3_field.specs.Laws.Checks.{none_of_items, first_of_items}
use Rattle.plain_pcs.proofs.Parts.{one_more, along_claim}
use Rattle.plain_pcs.proofs.verifying.first_fault.Goals as goal

pub returns-in-Some : goal.returns-in-Some
unfolding opening_claim_checks
returns-in-Some g c =
    let s = scheme g.F.RingCore.ring g.F.FieldCore.inv g.F.TwoAdicCore.root g.F.FieldCore.GENERATOR g.F.TwoAdicCore.TWO_ADICITY (record { log_blowup = c.args.log_blowup }) in
    let ring = g.E.RingCore.ring in
    let embed = g.E.ExtensionField.embed in
    let i = c.loop-round.round in
    let cs = c.args.claims.now in
    let x = c.index-claims-round.result in
    let here : slice_get cs i ≡ Some x = slice_get_read cs (length cs) i x refl (omega arith) c.index-claims-round.is in
    let fault = along_claim s ring embed i c.claim.inside.commitment c.claim.inside.matrices.items c.deref.result.now x c.in_ok-error.field-0 (Some c.in-Some.error)
    c.deref.ensures.value c.claim.view_is c.in-Some.is c.in_ok-error.ensures in
    first_of_items (round_checks s ring embed) cs i x c.in-Some.error here c.loop-round.invariant fault

pub loop-round-preserved : goal.loop-round-preserved
loop-round-preserved g c =
    let s = scheme g.F.RingCore.ring g.F.FieldCore.inv g.F.TwoAdicCore.root g.F.FieldCore.GENERATOR g.F.TwoAdicCore.TWO_ADICITY (record { log_blowup = c.args.log_blowup }) in
    let ring = g.E.RingCore.ring in
    let embed = g.E.ExtensionField.embed in
    let i = c.loop-round.round in
    let cs = c.args.claims.now in
    let x = c.index-claims-round.result in
    let here : slice_get cs i ≡ Some x = slice_get_read cs (length cs) i x refl (omega arith) c.index-claims-round.is in
    let none = along_claim s ring embed i c.claim.inside.commitment c.claim.inside.matrices.items c.deref.result.now x c.in_ok-error.field-0 None
    c.deref.ensures.value c.claim.view_is c.in_default.is c.in_ok-error.ensures in
    one_more cs i x (λ j y. NoneFails (round_checks s ring embed j y)) here c.loop-round.invariant none

pub returns : goal.returns
unfolding opening_claim_checks
returns g c =
    let s = scheme g.F.RingCore.ring g.F.FieldCore.inv g.F.TwoAdicCore.root g.F.FieldCore.GENERATOR g.F.TwoAdicCore.TWO_ADICITY (record { log_blowup = c.args.log_blowup }) in
    let cs = c.args.claims.now in
    none_of_items (round_checks s g.E.RingCore.ring g.E.ExtensionField.embed) cs
    (λ j y q. c.loop-round.invariant j y (let b = slice_get_within cs j y q in omega (arith, b)) q)
