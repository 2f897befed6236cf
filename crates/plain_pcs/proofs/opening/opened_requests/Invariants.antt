use Rattle.std.proofs.Common.{◌≡◌, List, map, take}
use Rattle.std.specs.Prelude.{zip}
use Rattle.commit_core.specs.Commitments.{OpenedCommitment, nested, opened_round}
use Rattle.commit_core.specs.Periodic.{EachFrom}
use Rattle.plain_pcs.specs.Scheme.{PlainCommitmentData}
use Rattle.plain_pcs.specs.Opening.{EachHasValues}
use Rattle.plain_pcs.proofs.opening.opened_requests.Given as goal

abbrev pub invariant-loop-request : goal.invariant-loop-request
invariant-loop-request g l = (held : List (OpenedCommitment (PlainCommitmentData g.row.F.Denot) g.row.F.Denot)) → EachFrom l.requests held (λ r h. EachHasValues g.F.RingCore.ring g.F.TwoAdicCore.root l.log_blowup r.prover_data h.matrices)
    → nested l.rounds ≡ map (λ p. opened_round g.E.RingCore.ring g.E.ExtensionField.embed p.0 p.1) (take l.request-index (zip held l.requests))
