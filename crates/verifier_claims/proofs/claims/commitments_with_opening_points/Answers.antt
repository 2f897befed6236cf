use Rattle.std.proofs.Common.{◌<◌, All, length, map, sym, ◌∙◌, ap, subst}
use Rattle.std.proofs.lemmas.List.{length-map}
use Rattle.verifier_shape.specs.Laws.Verdicts.{exits}
use Rattle.batch_statement.specs.Statement.{read_common}
use Rattle.verifier_claims.specs.Claims.{commitment_in, matrix_tables, place_of_preprocessed}
use Rattle.verifier_claims.specs.Laws.Listed.{listed_below}
use Rattle.verifier_claims.proofs.Memory.{after_all, exits_in_memory}
use Rattle.verifier_claims.proofs.Rounds.{claims_agree, sized_agree, tabulate_until}
use Rattle.verifier_claims.proofs.claims.commitments_with_opening_points.Goals as goal

pub returns-in_err-domains-clause-verdict : goal.returns-in_err-domains-clause-verdict
returns-in_err-domains-clause-verdict g c = exits _ _ _ c.from_residual.ensures.1 c.in_err-domains.ensures.verdict

pub returns-in_err-domains-clause-memory : goal.returns-in_err-domains-clause-memory
returns-in_err-domains-clause-memory g c = exits_in_memory _ _ _ c.from_residual.ensures.1 c.in_err-domains.ensures.memory

pub returns-in_err-copies-clause-memory : goal.returns-in_err-copies-clause-memory
returns-in_err-copies-clause-memory g c = after_all _ _ c.in_ok-domains.ensures.verdict

pub returns-in_err-shared-clause-memory : goal.returns-in_err-shared-clause-memory
returns-in_err-shared-clause-memory g c = after_all _ _ c.in_ok-domains.ensures.verdict

pub returns-in_err-claims-clause-memory : goal.returns-in_err-claims-clause-memory
returns-in_err-claims-clause-memory g c = after_all _ _ c.in_ok-domains.ensures.verdict

pub rounds_over-requires-clause-listed : goal.rounds_over-requires-clause-listed
rounds_over-requires-clause-listed g c =
    subst (All (λ i. i < length c.args.airs.now)) (sym (c.matrices_in.ensures ∙ ap matrix_tables c.traces_in-preprocessed.ensures))
    (listed_below (map g.A.BaseAir.declaration c.args.airs.now) (read_common c.args.common.now) (length c.args.airs.now) c.requires (length-map c.args.airs.now g.A.BaseAir.declaration))

pub rounds_over-requires-clause-sized : goal.rounds_over-requires-clause-sized
rounds_over-requires-clause-sized g c =
    sized_agree g.SC.Val.TwoAdicCore.TWO_ADICITY (length c.args.airs.now) c.args.degree_bits.now _ _ _ _ _ _
    c.is_zk.ensures c.instances_of.ensures (ap (map (λ v. v.items)) c.deref.ensures.value) c.in_ok-domains.ensures.sized

pub returns-clause-claims : goal.returns-clause-claims
returns-clause-claims g c =
    claims_agree g.SC.Val.RingCore.ring c.args.zeta g.SC.Challenge.RingCore.ring g.SC.Challenge.ExtensionField.embed g.SC.Val.TwoAdicCore.root
    (map g.A.BaseAir.declaration c.args.airs.now) c.args.degree_bits.now c.in_ok-claims.claims.items _ _ _ _ _ _ _ _ _ _ _ _
    c.is_zk.ensures
    (ap (map (λ v. v.items)) c.deref.ensures.value
    ∙ tabulate_until _ (length c.args.airs.now) _ _ (sym (length-map c.args.airs.now g.A.BaseAir.declaration)) c.in_ok-domains.ensures.domains)
    c.in_ok-copies.ensures (c.in_ok-shared.ensures ∙ ap commitment_in c.traces_in-preprocessed.ensures)
    (c.matrices_in.ensures ∙ ap matrix_tables c.traces_in-preprocessed.ensures) c.instances_of.ensures c.in_ok-claims.ensures

pub returns-clause-domains : goal.returns-clause-domains
returns-clause-domains g c = c.in_ok-domains.ensures.domains

pub returns-clause-place : goal.returns-clause-place
returns-clause-place g c = c.place_of.ensures ∙ ap (place_of_preprocessed c.args.commitments.now) c.traces_in-preprocessed.ensures
