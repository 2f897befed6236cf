use Rattle.std.proofs.Common.{◌≡◌, ◌∙◌, Some, length, get_or, refl, subst, ap}
use Rattle.std.specs.Prelude.{slice_get}
use Rattle.std.proofs.lemmas.Option.{slice_get_read}
use Rattle.p3_matrix.specs.Matrix.{Rows}
use Rattle.plain_pcs.specs.Scheme.{scheme}
use Rattle.plain_pcs.specs.Transfer.{IsTransfer}
use Rattle.plain_pcs.proofs.Evaluated.{evaluated}
use Rattle.plain_pcs.proofs.evaluating.evaluations_on_domain.Goals as goal

pub returns-then-log_size : goal.returns-then-log_size
returns-then-log_size g c =
    let r = g.F.RingCore.ring in
    let root = g.F.TwoAdicCore.root in
    let items = c.args.prover_data.now in
    let d = c.index.result.now in
    let item : d ≡ get_or items c.args.idx d = c.index.ensures ∙ ap (λ l. get_or l c.args.idx d) c.prover_data.view_is in
    let at : slice_get items c.args.idx ≡ Some d = slice_get_read items (length items) c.args.idx d refl c.requires.index item in
    λ b commitment cs k held one.
    evaluated (scheme r g.F.FieldCore.inv root g.F.FieldCore.GENERATOR g.F.TwoAdicCore.TWO_ADICITY b) items commitment cs c.args.idx d k c.args.domain c.in_ok-rows.rows held at one c.in_ok-rows.ensures

pub returns : goal.returns
returns g c =
    let r = g.F.RingCore.ring in
    let root = g.F.TwoAdicCore.root in
    let items = c.args.prover_data.now in
    let d = c.index.result.now in
    let v = c.in_ok-values.values in
    let item : d ≡ get_or items c.args.idx d = c.index.ensures ∙ ap (λ l. get_or l c.args.idx d) c.prover_data.view_is in
    let at : slice_get items c.args.idx ≡ Some d = slice_get_read items (length items) c.args.idx d refl c.requires.index item in
    let moved : IsTransfer r root d.0 c.args.domain d.1 v = subst (λ (m : Rows g.row.F.Denot). IsTransfer r root d.0 c.args.domain m v) c.in_ok-copy.ensures c.in_ok-values.ensures in
    λ b commitment cs k held one.
    evaluated (scheme r g.F.FieldCore.inv root g.F.FieldCore.GENERATOR g.F.TwoAdicCore.TWO_ADICITY b) items commitment cs c.args.idx d k c.args.domain v held at one moved
