use Rattle.std.proofs.Common.{◌≡◌, length, ◌∙◌, ap, arith}
use Rattle.std.proofs.lemmas.Result.{IfOk-weaker}
use Rattle.plain_pcs.specs.Scheme.{scheme}
use Rattle.plain_pcs.proofs.Parts.{wrong_shape, after_shape}
use Rattle.plain_pcs.proofs.verifying.round_fault.Goals as goal

pub returns-then-matrices-claims : goal.returns-then-matrices-claims
returns-then-matrices-claims g c =
    let s = scheme g.F.RingCore.ring g.F.FieldCore.inv g.F.TwoAdicCore.root g.F.FieldCore.GENERATOR g.F.TwoAdicCore.TWO_ADICITY (record { log_blowup = c.args.log_blowup }) in
    let view = ap length (c.deref-matrices.ensures.value ∙ c.matrices.ensures) in
    wrong_shape s g.E.RingCore.ring g.E.ExtensionField.embed c.args.round (record { commitment = c.args.commitment.now; matrices = c.args.claims.now })
    (λ e. c.if-matrices-claims.true (omega (arith, view, e)))

pub returns : goal.returns
returns g c =
    let s = scheme g.F.RingCore.ring g.F.FieldCore.inv g.F.TwoAdicCore.root g.F.FieldCore.GENERATOR g.F.TwoAdicCore.TWO_ADICITY (record { log_blowup = c.args.log_blowup }) in
    let view = c.deref-matrices.ensures.value ∙ c.matrices.ensures in
    let count : length c.args.commitment.now.matrices ≡ length c.args.claims.now = omega (arith, ap length view, c.if-matrices-claims.false) in
    IfOk-weaker c.matrices_fault.result _ _
    (λ a f. after_shape s g.E.RingCore.ring g.E.ExtensionField.embed c.args.round (record { commitment = c.args.commitment.now; matrices = c.args.claims.now }) c.deref-matrices.result.now a view count f)
    c.matrices_fault.ensures
