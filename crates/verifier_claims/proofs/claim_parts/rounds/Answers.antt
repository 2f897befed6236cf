use Rattle.std.proofs.Common.{◌++◌, Some, map, sym, ◌∙◌, ap}
use Rattle.std.proofs.lemmas.List.{length-map}
use Rattle.batch_config.specs.Domains.{next_by}
use Rattle.verifier_claims.specs.Claims.{claims_of_round}
use Rattle.verifier_claims.proofs.Rounds.{rounds_are}
use Rattle.verifier_claims.proofs.claim_parts.rounds.Goals as goal

pub returns : goal.returns
returns g c =
    let a = c.args in
    let len = sym (length-map a.airs.now g.A.BaseAir.declaration) in
    rounds_are g.F.RingCore.ring a.zeta (next_by g.E.RingCore.ring g.E.ExtensionField.embed g.F.TwoAdicCore.root a.masks a.zeta) a.masks (map (λ v. v.items) a.domains.now)
    (map g.A.BaseAir.declaration a.airs.now) a.commitments a.preprocessed a.matrices.now a.degree_bits.now a.instances.now
    _ _ _ _ _ _ _ _ (c.requires.bits ∙ len) len (c.requires.domains ∙ len)
    c.in_ok-first.ensures (c.in_ok-second.ensures ∙ ap (λ l. c.in_ok-first.first.items ++ claims_of_round (Some a.commitments.main) l) c.in_ok-mains.ensures) (c.in_ok-third.ensures ∙ ap (λ l. c.in_ok-second.second.items ++ claims_of_round (Some a.commitments.quotient_chunks) l) c.in_ok-chunks.ensures) c.in_ok-fourth.ensures c.in_ok-fifth.ensures
