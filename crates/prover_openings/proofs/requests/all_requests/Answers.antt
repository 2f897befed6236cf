use Rattle.std.proofs.Common.{map}
use Rattle.batch_config.specs.Domains.{next_by}
use Rattle.prover_openings.proofs.AllAsked.{all_asked, if_ok_more}
use Rattle.prover_openings.proofs.requests.all_requests.Goals as goal

pub returns : goal.returns
returns g c =
    let a = c.args in
    if_ok_more _ _ c.with_request-4.result
    (λ v e.
    all_asked g.A.BaseAir.declaration a.instances.now a.common.now a.degree_bits.now a.chunk_counts.now a.zeta (next_by g.E.RingCore.ring g.E.ExtensionField.embed g.F.TwoAdicCore.root a.masks a.zeta) _
    (map (λ x. x.items) c.in_ok-mains.mains.items) (map (λ x. x.items) c.in_ok-chunks.chunks.items) (map (λ x. x.items) c.in_ok-preprocesseds.preprocesseds.items) (map (λ x. x.items) c.in_ok-permutations.permutations.items)
    c.new.result.items c.in_ok-first.first.items c.in_ok-second.second.items c.in_ok-third.third.items v.items _ _ c.tables_of_matrices-matrices.ensures c.lookups_of.ensures
    c.in_ok-mains.ensures c.requires.chunks c.in_ok-chunks.ensures c.in_ok-preprocesseds.ensures c.requires.lookups c.in_ok-permutations.ensures
    c.new.ensures.items c.in_ok-first.ensures c.in_ok-second.ensures c.in_ok-third.ensures e)
    c.with_request-4.ensures
