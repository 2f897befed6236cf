use Rattle.std.proofs.Common.{◌∙◌, ap, map, arith}
use Rattle.std.proofs.lemmas.List.{length-map}
use Rattle.example_commit.specs.Rounds.{claim_at}
use Rattle.example_commit.proofs.Lists.{read, map_item, next_pair, all_pairs}
use Rattle.example_commit.proofs.rounds.claims_at.Goals as goal

pub loop-index-preserved : goal.loop-index-preserved
loop-index-preserved g c =
    let i = c.loop-index.index in
    let x = c.index-points-index.result in
    let v = c.index-values-index.result in
    let values = c.in_ok-values.ensures.items ∙ c.deref.ensures.value in
    next_pair claim_at c.loop-index.claims.items c.push.new.self.items _ c.args.points.now (map (λ v. v.items) c.args.values.now) i x v.items c.loop-index.invariant c.in_ok-push.ensures.items
    (read c.args.points.now i x (omega arith) c.index-points-index.is) (map_item (λ v. v.items) c.args.values.now i v (read c.args.values.now i v (omega arith) c.index-values-index.is))
    (ap (λ l. record { point = x; values = l }) values)

pub returns : goal.returns
returns g c =
    let n = length-map c.args.values.now (λ v. v.items) in
    all_pairs claim_at c.loop-index.claims.items c.args.points.now (map (λ v. v.items) c.args.values.now) c.loop-index.index (omega (arith, n)) (omega (arith, n)) c.loop-index.invariant
