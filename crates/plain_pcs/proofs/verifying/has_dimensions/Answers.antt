use Rattle.std.proofs.Common.{◌≡◌, ◌+◌, ◌^◌, ◌≤◌, ◌∙◌, sym, ap, arith}
use Rattle.p3_field.specs.Domain.{CosetData}
use Rattle.p3_matrix.specs.Matrix.{height}
use Rattle.commit_core.specs.Claims.{MatrixClaim}
use Rattle.plain_pcs.specs.Scheme.{scheme}
use Rattle.p3_matrix.specs.Laws.Powers.{one_shifted_left}
use Rattle.plain_pcs.proofs.Parts.{dimensions_by}
use Rattle.plain_pcs.proofs.verifying.has_dimensions.Goals as goal

pub returns : goal.returns
returns g c =
    let s = scheme g.F.RingCore.ring g.F.FieldCore.inv g.F.TwoAdicCore.root g.F.FieldCore.GENERATOR g.F.TwoAdicCore.TWO_ADICITY (record { log_blowup = c.args.log_blowup }) in
    let top = g.F.TwoAdicCore.TWO_ADICITY in
    let claim = c.args.claim.now in
    let n = c.log_size.result + c.args.log_blowup in
    let size : c.log_size.result ≡ claim.domain.log_size = c.log_size.ensures ∙ ap (λ (v : MatrixClaim g.row.E.Denot (CosetData g.row.F.Denot)). v.domain.log_size) c.claim.view_is in
    let points = c.deref.ensures.value ∙ ap (λ (v : MatrixClaim g.row.E.Denot (CosetData g.row.F.Denot)). v.points) c.claim.view_is in
    let below : n ≤ top = omega (arith, c.TWO_ADICITY.ensures) in
    let fits : claim.domain.log_size + c.args.log_blowup ≤ top = omega arith in
    let rows : height c.args.matrix.now ≡ 2 ^ (claim.domain.log_size + c.args.log_blowup) =
    sym c.height.ensures.result ∙ (c.if-height-log_height.false ∙ (one_shifted_left n (omega (arith, below, g.met.F.TwoAdicCore.below_64)) ∙ ap (λ k. 2 ^ (k + c.args.log_blowup)) size)) in
    dimensions_by s g.E.RingCore.ring g.E.ExtensionField.embed c.args.matrix.now claim c.have_width.result c.width.result c.deref.result.now fits rows c.width.ensures points c.have_width.ensures
