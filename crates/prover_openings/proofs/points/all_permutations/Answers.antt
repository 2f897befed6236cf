use Rattle.std.proofs.Common.{◌∷◌, ◌++◌, [], arith, map, sym, ◌∙◌}
use Rattle.std.specs.Prelude.{option_to_list}
use Rattle.p3_lookup.specs.Written.{read_all}
use Rattle.verifier_shape.specs.Laws.Items.{item_of_map}
use Rattle.law_honest.specs.HonestProof.{where_some}
use Rattle.prover_openings.proofs.Lists.{flat_push}
use Rattle.prover_openings.proofs.points.all_permutations.Goals as goal

pub loop-index-preserved : goal.loop-index-preserved
loop-index-preserved g c =
    let here = item_of_map read_all c.args.lookups.now c.loop-index.index c.index-lookups-index.result [] (omega arith) c.index-lookups-index.is in
    flat_push _ c.loop-index.index _ _ c.loop-index.invariant
    (c.in_ok-points.ensures
    ∙ (λ i. map (λ x. x.items) c.loop-index.points.items ++ option_to_list (where_some (sym here i) (c.args.zeta ∷ c.point_of_next-after.ensures i ∷ []))))
