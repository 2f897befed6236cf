use Rattle.std.proofs.Common.{◌∙◌, List, [], ◌∷◌, ap, sym, map, subst}
use Rattle.commit_core.specs.Commitments.{values_of}
use Rattle.commit_core.specs.Laws.OneItem.{innermost, values_in}
use Rattle.example_commit.specs.Single.{claim_of}
use Rattle.example_commit.proofs.Openings.{opening_of_one}
use Rattle.example_commit.proofs.opened.Goals as goal

pub only_values-requires : goal.only_values-requires
only_values-requires g c =
    let T = g.P.Pcs in
    let (commitment, (m, h)) = c.requires.held in
    let d = c.args.prover_data.now in
    let x = c.args.point in
    let points = ap (map values_in) c.in_ok-points.ensures ∙ ap (λ l. l ∷ []) c.in_ok-one.ensures in
    let requests = c.in_ok-requests.ensures ∙ ap (λ l. record { prover_data = d; points = l } ∷ []) points in
    let part = opening_of_one (T.holds c.args.pcs.now) g.E.RingCore.ring g.E.ExtensionField.embed g.P.Domain.PolynomialSpace.points (T.excludes c.args.pcs.now)
    (λ claims. T.opens c.args.pcs.now c.args.challenger.now claims c.in_ok-values.proof) c.in_ok-requests.requests.items _ d x commitment m requests c.in_ok-values.ensures.opening h in
    (values_of g.E.RingCore.ring g.E.ExtensionField.embed m x, part.0)

pub returns-clause-values : goal.returns-clause-values
returns-clause-values g c commitment m h =
    let T = g.P.Pcs in
    let d = c.args.prover_data.now in
    let x = c.args.point in
    let points = ap (map values_in) c.in_ok-points.ensures ∙ ap (λ l. l ∷ []) c.in_ok-one.ensures in
    let requests = c.in_ok-requests.ensures ∙ ap (λ l. record { prover_data = d; points = l } ∷ []) points in
    let part = opening_of_one (T.holds c.args.pcs.now) g.E.RingCore.ring g.E.ExtensionField.embed g.P.Domain.PolynomialSpace.points (T.excludes c.args.pcs.now)
    (λ claims. T.opens c.args.pcs.now c.args.challenger.now claims c.in_ok-values.proof) c.in_ok-requests.requests.items _ d x commitment m requests c.in_ok-values.ensures.opening h in
    innermost _ _ (sym c.only_values.ensures ∙ part.0)

pub returns-clause-accepted : goal.returns-clause-accepted
returns-clause-accepted g c commitment m domain h free size =
    let T = g.P.Pcs in
    let d = c.args.prover_data.now in
    let x = c.args.point in
    let points = ap (map values_in) c.in_ok-points.ensures ∙ ap (λ l. l ∷ []) c.in_ok-one.ensures in
    let requests = c.in_ok-requests.ensures ∙ ap (λ l. record { prover_data = d; points = l } ∷ []) points in
    let part = opening_of_one (T.holds c.args.pcs.now) g.E.RingCore.ring g.E.ExtensionField.embed g.P.Domain.PolynomialSpace.points (T.excludes c.args.pcs.now)
    (λ claims. T.opens c.args.pcs.now c.args.challenger.now claims c.in_ok-values.proof) c.in_ok-requests.requests.items _ d x commitment m requests c.in_ok-values.ensures.opening h in
    let same = innermost _ _ (sym c.only_values.ensures ∙ part.0) in
    let Q : List g.row.E.Denot → Type 0 = λ v. T.opens c.args.pcs.now c.args.challenger.now (claim_of commitment domain x v ∷ []) c.in_ok-values.proof in
    subst Q (sym same) (part.1 free domain size)
