use Rattle.std.proofs.Common.{◌∙◌, ap, sym, length, map, arith}
use Rattle.std.specs.Prelude.{zip}
use Rattle.std.proofs.lemmas.List.{length-map}
use Rattle.commit_core.specs.Laws.OneItem.{matrix_in, values_in}
use Rattle.commit_core.specs.Laws.Pairs.{length-zip}
use Rattle.example_commit.specs.Rounds.{claims_at, claim_of_matrix}
use Rattle.example_commit.proofs.Lists.{read, map_item, zip_item, next_pair, all_pairs}
use Rattle.example_commit.proofs.rounds.claims_on.Goals as goal

pub claims_at-requires : goal.claims_at-requires
claims_at-requires g c =
    let i = c.loop-index.index in
    let p = c.index-points-index.result in
    let v = c.index-values-index.result in
    let m = length-map c.args.points.now values_in in
    let n = length-map c.args.values.now matrix_in in
    let here = c.requires.each.each i (matrix_in v) (map_item matrix_in c.args.values.now i v (read c.args.values.now i v (omega arith) c.index-values-index.is))
    p.items (map_item values_in c.args.points.now i p (read c.args.points.now i p (omega (arith, m, n, c.requires.each.count)) c.index-points-index.is)) in
    ap length c.deref-in-loop-index.ensures.value ∙ (sym (length-map v.items values_in) ∙ (here ∙ sym (ap length c.deref.ensures.value)))

pub loop-index-preserved : goal.loop-index-preserved
loop-index-preserved g c =
    let i = c.loop-index.index in
    let d = c.index-domains-index.result in
    let p = c.index-points-index.result in
    let v = c.index-values-index.result in
    let m = length-map c.args.points.now values_in in
    let n = length-map c.args.values.now matrix_in in
    let points = map values_in c.args.points.now in
    let values = map matrix_in c.args.values.now in
    let claims = c.in_ok-points.ensures ∙ (ap (λ l. claims_at l (map values_in c.deref-in-loop-index.result.now)) c.deref.ensures.value ∙ ap (λ l. claims_at p.items (map values_in l)) c.deref-in-loop-index.ensures.value) in
    next_pair claim_of_matrix c.loop-index.matrices.items c.push.new.self.items _ c.args.domains.now (zip points values) i d (p.items, matrix_in v) c.loop-index.invariant c.in_ok-push.ensures.items
    (read c.args.domains.now i d (omega (arith, n, c.requires.domains)) c.index-domains-index.is)
    (zip_item points values i p.items (matrix_in v) (map_item values_in c.args.points.now i p (read c.args.points.now i p (omega (arith, m, n, c.requires.each.count)) c.index-points-index.is))
    (map_item matrix_in c.args.values.now i v (read c.args.values.now i v (omega arith) c.index-values-index.is)))
    (ap (λ l. record { domain = d; points = l }) claims)

pub returns : goal.returns
returns g c =
    let m = length-map c.args.points.now values_in in
    let n = length-map c.args.values.now matrix_in in
    let points = map values_in c.args.points.now in
    let values = map matrix_in c.args.values.now in
    let z = length-zip points values (omega (arith, c.requires.each.count)) in
    all_pairs claim_of_matrix c.loop-index.matrices.items c.args.domains.now (zip points values) c.loop-index.index (omega (arith, z, c.requires.domains)) (omega (arith, z, n)) c.loop-index.invariant

pub bounds-points-index : goal.bounds-points-index
bounds-points-index g c = omega (arith, length-map c.args.points.now values_in, length-map c.args.values.now matrix_in, c.requires.each.count)

pub bounds-domains-index : goal.bounds-domains-index
bounds-domains-index g c = omega (arith, length-map c.args.values.now matrix_in, c.requires.domains)
