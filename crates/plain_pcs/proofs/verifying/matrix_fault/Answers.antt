use Rattle.std.proofs.Common.{◌+◌, ◌^◌, IsTrue, length, map, sym, ◌∙◌, ap, rules}
use Rattle.std.proofs.lemmas.List.{length-map}
use Rattle.p3_field.specs.Domain.{CosetData}
use Rattle.commit_core.specs.Claims.{MatrixClaim}
use Rattle.plain_pcs.specs.Scheme.{scheme}
use Rattle.plain_pcs.specs.Checks.{HasDimensions}
use Rattle.plain_pcs.specs.Faults.{AreColumnPolynomials}
use Rattle.plain_pcs.specs.declared.error.PlainError.TheVariants.{Degree}
use Rattle.plain_pcs.proofs.Parts.{not_told, widths_here, polynomials_found, no_high_degree, high_degree, wrong_dimensions, after_dimensions, after_degrees}
use Rattle.plain_pcs.proofs.verifying.matrix_fault.Goals as goal

pub returns-then-not-has_dimensions : goal.returns-then-not-has_dimensions
returns-then-not-has_dimensions g c =
    let s = scheme g.F.RingCore.ring g.F.FieldCore.inv g.F.TwoAdicCore.root g.F.FieldCore.GENERATOR g.F.TwoAdicCore.TWO_ADICITY (record { log_blowup = c.args.log_blowup }) in
    wrong_dimensions s g.E.RingCore.ring g.E.ExtensionField.embed c.args.round c.args.number c.args.matrix.now c.args.claim.now
    (not_told c.has_dimensions.result (HasDimensions s g.E.RingCore.ring g.E.ExtensionField.embed c.args.matrix.now c.args.claim.now) c.has_dimensions.ensures c.if-not-has_dimensions.true)

pub column_polynomials-requires : goal.column_polynomials-requires
column_polynomials-requires g c =
    let told : IsTrue c.has_dimensions.result = search rules in
    let D = c.has_dimensions.ensures.0 told in
    (c.args.claim.now.domain.log_size + c.args.log_blowup, D.fits, D.height_is)

pub returns-in-Some : goal.returns-in-Some
returns-in-Some g c =
    let s = scheme g.F.RingCore.ring g.F.FieldCore.inv g.F.TwoAdicCore.root g.F.FieldCore.GENERATOR g.F.TwoAdicCore.TWO_ADICITY (record { log_blowup = c.args.log_blowup }) in
    let ring = g.E.RingCore.ring in
    let embed = g.E.ExtensionField.embed in
    let m = c.args.matrix.now in
    let claim = c.args.claim.now in
    let k = claim.domain.log_size in
    let vs = c.deref.result.now in
    let told : IsTrue c.has_dimensions.result = search rules in
    let D = c.has_dimensions.ensures.0 told in
    let inside = ap (λ (v : MatrixClaim g.row.E.Denot (CosetData g.row.F.Denot)). v.domain.log_size) c.claim.view_is in
    let A : AreColumnPolynomials s m k (map (λ f. f.items) vs) =
    polynomials_found g.F.RingCore.ring g.met.F.RingCore.ring_laws g.F.FieldCore.inv g.met.F.FieldCore.field_laws g.F.TwoAdicCore.TWO_ADICITY g.F.TwoAdicCore.root g.met.F.TwoAdicCore.root_laws
    (λ f. f.items) g.F.FieldCore.GENERATOR c.args.log_blowup k m c.in_ok-polynomials.polynomials.items vs g.met.F.FieldCore.generator_not_zero D.fits D.height_is c.in_ok-polynomials.ensures c.deref.ensures.value in
    after_dimensions s ring embed c.args.round c.args.number m claim (Degree c.args.round c.args.number c.in-Some.column) D
    (high_degree s ring embed m k (map (λ f. f.items) vs) A c.args.round c.args.number (length vs) c.size.result c.in-Some.column (sym (length-map vs (λ f. f.items)))
    (c.size.ensures ∙ ap (λ n. 2 ^ n) inside) c.in-Some.ensures)

pub points_fault-requires : goal.points_fault-requires
points_fault-requires g c =
    let s = scheme g.F.RingCore.ring g.F.FieldCore.inv g.F.TwoAdicCore.root g.F.FieldCore.GENERATOR g.F.TwoAdicCore.TWO_ADICITY (record { log_blowup = c.args.log_blowup }) in
    let m = c.args.matrix.now in
    let claim = c.args.claim.now in
    let k = claim.domain.log_size in
    let told : IsTrue c.has_dimensions.result = search rules in
    let D : HasDimensions s g.E.RingCore.ring g.E.ExtensionField.embed m claim = c.has_dimensions.ensures.0 told in
    let vs = c.deref-2.result.now in
    let A : AreColumnPolynomials s m k (map (λ f. f.items) vs) =
    polynomials_found g.F.RingCore.ring g.met.F.RingCore.ring_laws g.F.FieldCore.inv g.met.F.FieldCore.field_laws g.F.TwoAdicCore.TWO_ADICITY g.F.TwoAdicCore.root g.met.F.TwoAdicCore.root_laws
    (λ f. f.items) g.F.FieldCore.GENERATOR c.args.log_blowup k m c.in_ok-polynomials.polynomials.items vs g.met.F.FieldCore.generator_not_zero D.fits D.height_is c.in_ok-polynomials.ensures c.deref-2.ensures.value in
    widths_here c.deref-3.result.now claim.points m.width (length vs)
    (c.deref-3.ensures.value ∙ ap (λ (v : MatrixClaim g.row.E.Denot (CosetData g.row.F.Denot)). v.points) c.claim.view_is)
    (sym (length-map vs (λ f. f.items)) ∙ A.count) D.widths_are

pub returns : goal.returns
returns g c =
    let s = scheme g.F.RingCore.ring g.F.FieldCore.inv g.F.TwoAdicCore.root g.F.FieldCore.GENERATOR g.F.TwoAdicCore.TWO_ADICITY (record { log_blowup = c.args.log_blowup }) in
    let ring = g.E.RingCore.ring in
    let embed = g.E.ExtensionField.embed in
    let m = c.args.matrix.now in
    let claim = c.args.claim.now in
    let k = claim.domain.log_size in
    let vs = c.deref.result.now in
    let ws = c.deref-2.result.now in
    let told : IsTrue c.has_dimensions.result = search rules in
    let D = c.has_dimensions.ensures.0 told in
    let inside = ap (λ (v : MatrixClaim g.row.E.Denot (CosetData g.row.F.Denot)). v.domain.log_size) c.claim.view_is in
    let found = polynomials_found g.F.RingCore.ring g.met.F.RingCore.ring_laws g.F.FieldCore.inv g.met.F.FieldCore.field_laws g.F.TwoAdicCore.TWO_ADICITY g.F.TwoAdicCore.root g.met.F.TwoAdicCore.root_laws
    (λ f. f.items) g.F.FieldCore.GENERATOR c.args.log_blowup k m c.in_ok-polynomials.polynomials.items in
    let A : AreColumnPolynomials s m k (map (λ f. f.items) vs) = found vs g.met.F.FieldCore.generator_not_zero D.fits D.height_is c.in_ok-polynomials.ensures c.deref.ensures.value in
    let B : AreColumnPolynomials s m k (map (λ f. f.items) ws) = found ws g.met.F.FieldCore.generator_not_zero D.fits D.height_is c.in_ok-polynomials.ensures c.deref-2.ensures.value in
    after_degrees s ring embed c.args.round c.args.number m claim c.deref-3.result.now c.points_fault.result D
    (no_high_degree s ring embed m k (map (λ f. f.items) vs) A c.args.round c.args.number (length vs) c.size.result (sym (length-map vs (λ f. f.items)))
    (c.size.ensures ∙ ap (λ n. 2 ^ n) inside) c.in_default.ensures)
    (c.deref-3.ensures.value ∙ ap (λ (v : MatrixClaim g.row.E.Denot (CosetData g.row.F.Denot)). v.points) c.claim.view_is)
    (c.points_fault.ensures s m k B)
