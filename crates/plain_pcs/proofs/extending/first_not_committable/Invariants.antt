use Rattle.plain_pcs.specs.Scheme.{scheme}
use Rattle.plain_pcs.specs.Extension.{IsCommittable}
use Rattle.plain_pcs.proofs.Lists.{Earlier}
use Rattle.plain_pcs.proofs.extending.first_not_committable.Given as goal

abbrev pub invariant-loop-matrix : goal.invariant-loop-matrix
invariant-loop-matrix g l =
    Earlier (λ e. IsCommittable (scheme g.F.RingCore.ring g.F.FieldCore.inv g.F.TwoAdicCore.root g.F.FieldCore.GENERATOR g.F.TwoAdicCore.TWO_ADICITY (record { log_blowup = l.log_blowup })) e.0 e.1) l.evaluations l.matrix
