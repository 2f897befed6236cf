use Rattle.std.proofs.Common.{◌∙◌, ap, sym, map, arith}
use Rattle.std.proofs.lemmas.List.{length-map}
use Rattle.commit_core.specs.Laws.OneItem.{matrix_in, round_in, values_in}
use Rattle.example_commit.specs.Rounds.{matrix_claims, round_claim}
use Rattle.example_commit.proofs.ClaimSteps.{shape_along, claims_along}
use Rattle.example_commit.proofs.Lists.{read, map_item, next_pair, all_pairs}
use Rattle.example_commit.proofs.rounds.claims_of.Goals as goal

pub claims_on-requires : goal.claims_on-requires
claims_on-requires g c =
    let i = c.loop-index.index in
    let k = c.index-prover_rounds-index.result in
    let v = c.index-values-index.result in
    let n = length-map c.args.values.now round_in in
    let here = c.requires.shapes.each i (round_in v) (map_item round_in c.args.values.now i v (read c.args.values.now i v (omega arith) c.index-values-index.is)) k (read c.args.prover_rounds.now i k (omega (arith, n, c.requires.shapes.count)) c.index-prover_rounds-index.is) in
    let domains = c.deref.ensures.value ∙ ap (λ k. k.domains) c.round.view_is in
    let points = ap (map values_in) c.deref-in-loop-index.ensures.value ∙ ap (λ k. k.points) c.round.view_is in
    let values = ap (map matrix_in) c.deref-in-loop-index-2.ensures.value in
    shape_along k.domains c.deref.result.now k.points (map values_in c.deref-in-loop-index.result.now) (round_in v) (map matrix_in c.deref-in-loop-index-2.result.now) (sym domains) (sym points) (sym values) here

pub loop-index-preserved : goal.loop-index-preserved
loop-index-preserved g c =
    let i = c.loop-index.index in
    let k = c.index-prover_rounds-index.result in
    let v = c.index-values-index.result in
    let n = length-map c.args.values.now round_in in
    let domains = c.deref.ensures.value ∙ ap (λ k. k.domains) c.round.view_is in
    let points = ap (map values_in) c.deref-in-loop-index.ensures.value ∙ ap (λ k. k.points) c.round.view_is in
    let values = ap (map matrix_in) c.deref-in-loop-index-2.ensures.value in
    let matrices = claims_along c.in_ok-matrices.matrices.items k.domains c.deref.result.now k.points (map values_in c.deref-in-loop-index.result.now) (round_in v) (map matrix_in c.deref-in-loop-index-2.result.now) (sym domains) (sym points) (sym values) c.in_ok-matrices.ensures in
    let commitment = c.in_ok-commitment.ensures ∙ ap (λ k. k.commitment) c.round.view_is in
    next_pair round_claim c.loop-index.claims.items c.push.new.self.items _ c.args.prover_rounds.now (map round_in c.args.values.now) i k (round_in v) c.loop-index.invariant c.in_ok-push.ensures.items
    (read c.args.prover_rounds.now i k (omega (arith, n, c.requires.shapes.count)) c.index-prover_rounds-index.is) (map_item round_in c.args.values.now i v (read c.args.values.now i v (omega arith) c.index-values-index.is))
    (ap (λ l. record { commitment = c.in_ok-commitment.commitment; matrices = l }) matrices ∙ ap (λ m. record { commitment = m; matrices = matrix_claims k.domains k.points (round_in v) }) commitment)

pub returns : goal.returns
returns g c =
    let n = length-map c.args.values.now round_in in
    all_pairs round_claim c.loop-index.claims.items c.args.prover_rounds.now (map round_in c.args.values.now) c.loop-index.index (omega (arith, c.requires.shapes.count)) (omega (arith, n)) c.loop-index.invariant

pub bounds-prover_rounds-index : goal.bounds-prover_rounds-index
bounds-prover_rounds-index g c = omega (arith, length-map c.args.values.now round_in, c.requires.shapes.count)
