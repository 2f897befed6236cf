use Rattle.std.proofs.Common.{inr}
use Rattle.example_commit.proofs.Refusals.{cause_is, handed_as_one}
use Rattle.example_commit.proofs.witnesses.witness_verified.Goals as goal

pub returns-in_err-proof-clause-refused : goal.returns-in_err-proof-clause-refused
returns-in_err-proof-clause-refused g c =
    let T = g.P.MultilinearPcs in
    let faults = T.open_fault c.args.pcs.now c.in_ok-commitment.prover_data c.args.protocol.now in
    handed_as_one g.row.P-Proof.Denot faults _
    (λ e h. inr (
      c.in_ok-commitment.ensures.refusal,
      (
        (c.in_ok-commitment.commitment, c.in_ok-commitment.prover_data),
        c.in_ok-commitment.ensures.held,
        cause_is faults e (g.met.P.MultilinearPcs.one_open_fault c.args.pcs.now c.in_ok-commitment.prover_data c.args.protocol.now) h,
      ),
    ))
    c.from_residual-in_err-proof.result c.in_err-proof.field-0.0 c.from_residual-in_err-proof.ensures.1 c.in_err-proof.ensures.refusal

pub returns-in-Ok-clause-granted : goal.returns-in-Ok-clause-granted
returns-in-Ok-clause-granted g c =
    (c.in_ok-commitment.ensures.refusal, ((c.in_ok-commitment.commitment, c.in_ok-commitment.prover_data), c.in_ok-commitment.ensures.held, c.in_ok-proof.ensures.refusal))
