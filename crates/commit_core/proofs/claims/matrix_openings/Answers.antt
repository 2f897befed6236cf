use Rattle.std.proofs.Common.{◌∙◌, map, map-id, ap, sym}
use Rattle.std.proofs.lemmas.Iterator.Adapters.{YieldsList-from_vec}
use Rattle.std.proofs.lemmas.Iterator.Consumers.{YieldsList-end}
use Rattle.commit_core.specs.Claims.{matrix_claim}
use Rattle.commit_core.proofs.claims.matrix_openings.Goals as goal

pub returns : goal.returns
returns g c =
    let gives = c.into_iter-pair-iterator.ensures.into_iter_gives in
    let road = YieldsList-from_vec {s = c.into_iter-pair-iterator.result} c.args.pairs.items gives.0 (gives.1 ∙ c.args.pairs.ok.0) in
    let seen = YieldsList-end road c.loop-pair.yielded c.loop-pair.pair-iterator c.loop-pair.yielded_by c.next.result c.next.new.self c.in-None.is c.next.ensures.steps in
    c.loop-pair.invariant ∙ ap (map matrix_claim) (sym (map-id c.loop-pair.yielded) ∙ seen.0)
