use Rattle.std.proofs.Common.{◌≡◌, Option, Some, length, refl, subst, arith}
use Rattle.std.specs.Prelude.{slice_get, zip}
use Rattle.std.proofs.lemmas.Option.{slice_get_read}
use Rattle.plain_pcs.specs.declared.error.PlainError.{PlainError}
use Rattle.plain_pcs.specs.Scheme.{scheme}
use Rattle.p3_field.specs.Checks.{NoneFails, FirstRefusal}
use Rattle.plain_pcs.specs.Checks.{matrix_checks}
use Rattle.p3_field.specs.Laws.Checks.{none_of_items, first_of_items}
use Rattle.plain_pcs.proofs.Parts.{one_more, zip_within}
use Rattle.plain_pcs.specs.Laws.Listed.{zip_item}
use Rattle.plain_pcs.proofs.verifying.matrices_fault.Goals as goal

pub returns-in-Some : goal.returns-in-Some
returns-in-Some g c =
    let s = scheme g.F.RingCore.ring g.F.FieldCore.inv g.F.TwoAdicCore.root g.F.FieldCore.GENERATOR g.F.TwoAdicCore.TWO_ADICITY (record { log_blowup = c.args.log_blowup }) in
    let ring = g.E.RingCore.ring in
    let embed = g.E.ExtensionField.embed in
    let i = c.loop-number.number in
    let ms = c.args.matrices.now in
    let cs = c.args.claims.now in
    let m = c.index-matrices-number.result in
    let x = c.index-claims-number.result in
    let matrix : slice_get ms i ≡ Some m = slice_get_read ms (length ms) i m refl (omega (arith, c.requires.count)) c.index-matrices-number.is in
    let claim : slice_get cs i ≡ Some x = slice_get_read cs (length cs) i x refl (omega arith) c.index-claims-number.is in
    let P : Option PlainError → Type 0 = λ a. FirstRefusal (matrix_checks s ring embed c.args.round i (m, x)) a in
    first_of_items (matrix_checks s ring embed c.args.round) (zip ms cs) i (m, x) c.in-Some.error (zip_item ms cs i m x matrix claim)
    c.loop-number.invariant (subst P c.in-Some.is c.in_ok-error.ensures)

pub loop-number-preserved : goal.loop-number-preserved
loop-number-preserved g c =
    let s = scheme g.F.RingCore.ring g.F.FieldCore.inv g.F.TwoAdicCore.root g.F.FieldCore.GENERATOR g.F.TwoAdicCore.TWO_ADICITY (record { log_blowup = c.args.log_blowup }) in
    let ring = g.E.RingCore.ring in
    let embed = g.E.ExtensionField.embed in
    let i = c.loop-number.number in
    let ms = c.args.matrices.now in
    let cs = c.args.claims.now in
    let m = c.index-matrices-number.result in
    let x = c.index-claims-number.result in
    let matrix : slice_get ms i ≡ Some m = slice_get_read ms (length ms) i m refl (omega (arith, c.requires.count)) c.index-matrices-number.is in
    let claim : slice_get cs i ≡ Some x = slice_get_read cs (length cs) i x refl (omega arith) c.index-claims-number.is in
    let P : Option PlainError → Type 0 = λ a. FirstRefusal (matrix_checks s ring embed c.args.round i (m, x)) a in
    one_more (zip ms cs) i (m, x) (λ j y. NoneFails (matrix_checks s ring embed c.args.round j y)) (zip_item ms cs i m x matrix claim)
    c.loop-number.invariant (subst P c.in_default.is c.in_ok-error.ensures)

pub returns : goal.returns
returns g c =
    let s = scheme g.F.RingCore.ring g.F.FieldCore.inv g.F.TwoAdicCore.root g.F.FieldCore.GENERATOR g.F.TwoAdicCore.TWO_ADICITY (record { log_blowup = c.args.log_blowup }) in
    let ms = c.args.matrices.now in
    let cs = c.args.claims.now in
    none_of_items (matrix_checks s g.E.RingCore.ring g.E.ExtensionField.embed c.args.round) (zip ms cs)
    (λ j y q. c.loop-number.invariant j y (let b = zip_within ms cs j y q in omega (arith, b)) q)
