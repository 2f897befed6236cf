use Rattle.std.proofs.Common.{sym, ◌∙◌, arith}
use Rattle.plain_pcs.specs.Scheme.{scheme}
use Rattle.plain_pcs.specs.Extension.{IsCommittable}
use Rattle.plain_pcs.proofs.Lists.{one_earlier, first_without, all_earlier}
use Rattle.plain_pcs.proofs.extending.first_not_committable.Goals as goal

pub returns-then-not-is_committable : goal.returns-then-not-is_committable
returns-then-not-is_committable g c =
    let s = scheme g.F.RingCore.ring g.F.FieldCore.inv g.F.TwoAdicCore.root g.F.FieldCore.GENERATOR g.F.TwoAdicCore.TWO_ADICITY (record { log_blowup = c.args.log_blowup }) in
    first_without (λ e. IsCommittable s e.0 e.1) c.args.evaluations.now c.loop-matrix.matrix c.index-evaluations-matrix.result (omega arith) c.index-evaluations-matrix.is c.loop-matrix.invariant
    (λ p. let e = sym c.if-not-is_committable.true ∙ c.is_committable.ensures.1 p in cc)

pub loop-matrix-preserved : goal.loop-matrix-preserved
loop-matrix-preserved g c =
    let s = scheme g.F.RingCore.ring g.F.FieldCore.inv g.F.TwoAdicCore.root g.F.FieldCore.GENERATOR g.F.TwoAdicCore.TWO_ADICITY (record { log_blowup = c.args.log_blowup }) in
    one_earlier (λ e. IsCommittable s e.0 e.1) c.args.evaluations.now c.loop-matrix.matrix c.index-evaluations-matrix.result (omega arith) c.index-evaluations-matrix.is c.loop-matrix.invariant
    (c.is_committable.ensures.0 c.if-not-is_committable.false)

pub returns : goal.returns
returns g c =
    let s = scheme g.F.RingCore.ring g.F.FieldCore.inv g.F.TwoAdicCore.root g.F.FieldCore.GENERATOR g.F.TwoAdicCore.TWO_ADICITY (record { log_blowup = c.args.log_blowup }) in
    all_earlier (λ e. IsCommittable s e.0 e.1) c.args.evaluations.now c.loop-matrix.matrix (omega arith) c.loop-matrix.invariant
