use Rattle.std.proofs.Common.{map, ◌∙◌}
use Rattle.verifier_batch.proofs.Whole.{claimed_same, claims_moved, claims_verdict, domains_moved, place_moved}
use Rattle.verifier_batch.proofs.openings.proof_claims.Goals as goal

pub returns-clause-verdict : goal.returns-clause-verdict
returns-clause-verdict g c =
    let a = c.args in
    claims_verdict _ g.A.BaseAir.declaration g.A.Air.trees a.airs.now (map (λ v. v.items) a.public_values.now) a.common.now a.proof.now g.row.SC-Pcs-Error.Denot _ _ _ _ _ _
    c.requires.formed c.requires.shape c.commitments_of.ensures c.opened_of.ensures c.bits_of.ensures c.requires.chunks (c.deref.ensures.value ∙ c.in_ok-widths.ensures)
    c.commitments_with_opening_points.ensures.verdict

pub returns-clause-claims : goal.returns-clause-claims
returns-clause-claims g c =
    let a = c.args in
    claims_moved g.SC.Val.RingCore.ring g.SC.Val.TwoAdicCore.root g.SC.Val.FieldCore.GENERATOR _ g.SC.Challenge.RingCore.ring g.SC.Challenge.ExtensionField.embed a.zeta _ _ _ _
    (claimed_same g.A.BaseAir.declaration g.A.Air.trees a.airs.now a.common.now a.proof.now _ _ _ _ _
    c.commitments_of.ensures c.opened_of.ensures c.bits_of.ensures c.requires.chunks)
    c.commitments_with_opening_points.ensures.claims

pub returns-clause-domains : goal.returns-clause-domains
returns-clause-domains g c =
    domains_moved g.SC.Val.RingCore.ring g.SC.Val.TwoAdicCore.root g.SC.Val.FieldCore.GENERATOR _ _ _ _ _ _ _ _
    c.bits_of.ensures c.requires.chunks c.commitments_with_opening_points.ensures.domains

pub returns-clause-place : goal.returns-clause-place
returns-clause-place g c = place_moved _ _ _ _ _ c.commitments_of.ensures c.commitments_with_opening_points.ensures.place
