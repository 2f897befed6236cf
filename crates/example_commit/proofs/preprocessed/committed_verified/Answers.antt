use Rattle.std.proofs.Common.{◌∙◌, map, ap, sym, subst, Vec, Global}
use Rattle.commit_core.specs.Failure.{NoneOf}
use Rattle.commit_core.specs.Periodic.{EachFrom}
use Rattle.commit_core.specs.Laws.OneItem.{round_in}
use Rattle.example_commit.specs.Rounds.{round_claims, IsRoundClaimed}
use Rattle.example_commit.proofs.RoundClaims.{requests_along, claims_of_along, shapes_along, counts_along, all_made, opened_shapes, opened_claimed, opened_accepted, opened_held}
use Rattle.example_commit.proofs.Refusals.{handed_as_one}
use Rattle.example_commit.proofs.preprocessed.committed_verified.Goals as goal

pub open_with_preprocessing-requires-clause-made : goal.open_with_preprocessing-requires-clause-made
open_with_preprocessing-requires-clause-made g c =
    let T = g.P.Pcs in
    let S = g.P.Domain.PolynomialSpace in
    let pcs = c.args.pcs.now in
    let ks = c.args.prover_rounds.items in
    let (rounds, K) = c.requires.prover_rounds in
    let reqs = c.in_ok-requests.requests.items in
    let q = requests_along reqs c.deref.result.now ks c.in_ok-requests.ensures c.deref.ensures.value in
    all_made g.P.Val.RingCore.ring g.E.RingCore.ring g.E.ExtensionField.embed S.points S.point_at (T.commits pcs) (T.made pcs) (T.holds pcs) rounds ks K reqs q

pub claims_of-requires-clause-shapes : goal.claims_of-requires-clause-shapes
claims_of-requires-clause-shapes g c =
    let T = g.P.Pcs in
    let S = g.P.Domain.PolynomialSpace in
    let pcs = c.args.pcs.now in
    let ks = c.args.prover_rounds.items in
    let (rounds, K) = c.requires.prover_rounds in
    let reqs = c.in_ok-requests.requests.items in
    let q = requests_along reqs c.deref.result.now ks c.in_ok-requests.ensures c.deref.ensures.value in
    shapes_along c.deref-2.result.now ks c.deref-3.result.now c.in_ok-values.values.items c.deref-2.ensures.value c.deref-3.ensures.value
    (opened_shapes g.P.Val.RingCore.ring g.E.RingCore.ring g.E.ExtensionField.embed S.points S.point_at (T.commits pcs) (T.made pcs) (T.holds pcs) rounds ks K reqs q (map round_in c.in_ok-values.values.items) (T.excludes pcs)
    (λ claims. T.opens pcs c.args.challenger claims c.in_ok-values.proof) c.in_ok-values.ensures.opening)

pub claims_of-requires-clause-count : goal.claims_of-requires-clause-count
claims_of-requires-clause-count g c =
    let T = g.P.Pcs in
    let S = g.P.Domain.PolynomialSpace in
    let pcs = c.args.pcs.now in
    let ks = c.args.prover_rounds.items in
    let (rounds, K) = c.requires.prover_rounds in
    let reqs = c.in_ok-requests.requests.items in
    let q = requests_along reqs c.deref.result.now ks c.in_ok-requests.ensures c.deref.ensures.value in
    counts_along c.deref-2.result.now ks c.deref-3.result.now c.in_ok-values.values.items c.deref-2.ensures.value c.deref-3.ensures.value
    (opened_shapes g.P.Val.RingCore.ring g.E.RingCore.ring g.E.ExtensionField.embed S.points S.point_at (T.commits pcs) (T.made pcs) (T.holds pcs) rounds ks K reqs q (map round_in c.in_ok-values.values.items) (T.excludes pcs)
    (λ claims. T.opens pcs c.args.challenger claims c.in_ok-values.proof) c.in_ok-values.ensures.opening)

pub claims_of-requires-2-clause-shapes : goal.claims_of-requires-2-clause-shapes
claims_of-requires-2-clause-shapes g c =
    let T = g.P.Pcs in
    let S = g.P.Domain.PolynomialSpace in
    let pcs = c.args.pcs.now in
    let ks = c.args.prover_rounds.items in
    let (rounds, K) = c.requires.prover_rounds in
    let reqs = c.in_ok-requests.requests.items in
    let q = requests_along reqs c.deref.result.now ks c.in_ok-requests.ensures c.deref.ensures.value in
    shapes_along c.deref-4.result.now ks c.deref-5.result.now c.in_ok-values.values.items c.deref-4.ensures.value c.deref-5.ensures.value
    (opened_shapes g.P.Val.RingCore.ring g.E.RingCore.ring g.E.ExtensionField.embed S.points S.point_at (T.commits pcs) (T.made pcs) (T.holds pcs) rounds ks K reqs q (map round_in c.in_ok-values.values.items) (T.excludes pcs)
    (λ claims. T.opens pcs c.args.challenger claims c.in_ok-values.proof) c.in_ok-values.ensures.opening)

pub claims_of-requires-2-clause-count : goal.claims_of-requires-2-clause-count
claims_of-requires-2-clause-count g c =
    let T = g.P.Pcs in
    let S = g.P.Domain.PolynomialSpace in
    let pcs = c.args.pcs.now in
    let ks = c.args.prover_rounds.items in
    let (rounds, K) = c.requires.prover_rounds in
    let reqs = c.in_ok-requests.requests.items in
    let q = requests_along reqs c.deref.result.now ks c.in_ok-requests.ensures c.deref.ensures.value in
    counts_along c.deref-4.result.now ks c.deref-5.result.now c.in_ok-values.values.items c.deref-4.ensures.value c.deref-5.ensures.value
    (opened_shapes g.P.Val.RingCore.ring g.E.RingCore.ring g.E.ExtensionField.embed S.points S.point_at (T.commits pcs) (T.made pcs) (T.holds pcs) rounds ks K reqs q (map round_in c.in_ok-values.values.items) (T.excludes pcs)
    (λ claims. T.opens pcs c.args.challenger claims c.in_ok-values.proof) c.in_ok-values.ensures.opening)

pub returns-in-None-clause-granted : goal.returns-in-None-clause-granted
returns-in-None-clause-granted g c =
    let T = g.P.Pcs in
    let S = g.P.Domain.PolynomialSpace in
    let pcs = c.args.pcs.now in
    let ks = c.args.prover_rounds.items in
    let reqs = c.in_ok-requests.requests.items in
    let q = requests_along reqs c.deref.result.now ks c.in_ok-requests.ensures c.deref.ensures.value in
    subst (λ l. NoneOf (T.open_fault pcs l)) q c.in_ok-values.ensures.refusal

pub returns-clause-granted : goal.returns-clause-granted
returns-clause-granted g c =
    let T = g.P.Pcs in
    let S = g.P.Domain.PolynomialSpace in
    let pcs = c.args.pcs.now in
    let ks = c.args.prover_rounds.items in
    let reqs = c.in_ok-requests.requests.items in
    let q = requests_along reqs c.deref.result.now ks c.in_ok-requests.ensures c.deref.ensures.value in
    subst (λ l. NoneOf (T.open_fault pcs l)) q c.in_ok-values.ensures.refusal

pub returns-in-None-clause-claimed : goal.returns-in-None-clause-claimed
returns-in-None-clause-claimed g c rounds K =
    let T = g.P.Pcs in
    let S = g.P.Domain.PolynomialSpace in
    let pcs = c.args.pcs.now in
    let ks = c.args.prover_rounds.items in
    let reqs = c.in_ok-requests.requests.items in
    let q = requests_along reqs c.deref.result.now ks c.in_ok-requests.ensures c.deref.ensures.value in
    let claims = claims_of_along c.in_ok-claims.claims.items c.deref-2.result.now ks c.deref-3.result.now c.in_ok-values.values.items c.in_ok-claims.ensures c.deref-2.ensures.value c.deref-3.ensures.value in
    subst (λ l. EachFrom rounds l (IsRoundClaimed g.P.Val.RingCore.ring g.E.RingCore.ring g.E.ExtensionField.embed S.point_at (T.commits pcs))) (sym claims)
    (opened_claimed g.P.Val.RingCore.ring g.E.RingCore.ring g.E.ExtensionField.embed S.points S.point_at (T.commits pcs) (T.made pcs) (T.holds pcs) rounds ks K reqs q (map round_in c.in_ok-values.values.items) (T.excludes pcs)
    (λ claims. T.opens pcs c.args.challenger claims c.in_ok-values.proof) c.in_ok-values.ensures.opening)

pub returns-in-None-clause-one_state : goal.returns-in-None-clause-one_state
returns-in-None-clause-one_state g c =
    let T = g.P.Pcs in
    let S = g.P.Domain.PolynomialSpace in
    let pcs = c.args.pcs.now in
    let ks = c.args.prover_rounds.items in
    let (rounds, K) = c.requires.prover_rounds in
    let reqs = c.in_ok-requests.requests.items in
    let q = requests_along reqs c.deref.result.now ks c.in_ok-requests.ensures c.deref.ensures.value in
    let asked = claims_of_along c.in_ok-asked.asked.items c.deref-4.result.now ks c.deref-5.result.now c.in_ok-values.values.items c.in_ok-asked.ensures c.deref-4.ensures.value c.deref-5.ensures.value in
    let proof = c.in_ok-values.proof in
    let claims = round_claims ks (map round_in c.in_ok-values.values.items) in
    let opens = subst (λ l. T.opens pcs c.args.challenger l proof) asked (c.in_ok-fault_with_preprocessing.ensures.accepted.0 c.in-None.is) in
    let (held, h, are) = opened_held g.P.Val.RingCore.ring g.E.RingCore.ring g.E.ExtensionField.embed S.points S.point_at (T.commits pcs) (T.made pcs) (T.holds pcs) rounds ks K reqs q (map round_in c.in_ok-values.values.items) (T.excludes pcs)
    (λ claims. T.opens pcs c.args.challenger claims c.in_ok-values.proof) c.in_ok-values.ensures.opening in
    c.in_ok-values.ensures.after ∙ (g.met.P.Pcs.one_state pcs c.args.challenger reqs held claims proof c.in_ok-values.ensures.proof h are opens
    ∙ (sym (ap (λ l. T.after_verify pcs c.args.challenger l proof) asked) ∙ sym (c.in_ok-fault_with_preprocessing.ensures.after c.in-None.is)))

pub returns-clause-accepted : goal.returns-clause-accepted
returns-clause-accepted g c rounds K free =
    let T = g.P.Pcs in
    let S = g.P.Domain.PolynomialSpace in
    let pcs = c.args.pcs.now in
    let ks = c.args.prover_rounds.items in
    let reqs = c.in_ok-requests.requests.items in
    let q = requests_along reqs c.deref.result.now ks c.in_ok-requests.ensures c.deref.ensures.value in
    let asked = claims_of_along c.in_ok-asked.asked.items c.deref-4.result.now ks c.deref-5.result.now c.in_ok-values.values.items c.in_ok-asked.ensures c.deref-4.ensures.value c.deref-5.ensures.value in
    let opens = subst (λ l. T.opens pcs c.args.challenger l c.in_ok-values.proof) (sym asked) (opened_accepted g.P.Val.RingCore.ring g.E.RingCore.ring g.E.ExtensionField.embed S.points S.point_at (T.commits pcs) (T.made pcs) (T.holds pcs) rounds ks K reqs q (map round_in c.in_ok-values.values.items) (T.excludes pcs)
    (λ claims. T.opens pcs c.args.challenger claims c.in_ok-values.proof) c.in_ok-values.ensures.opening free) in
    let none = c.in_ok-fault_with_preprocessing.ensures.accepted.1 opens in
    cc (none, c.in-Some.is)

pub returns-in_err-values-clause-refused : goal.returns-in_err-values-clause-refused
returns-in_err-values-clause-refused g c =
    let T = g.P.Pcs in
    let pcs = c.args.pcs.now in
    let reqs = c.in_ok-requests.requests.items in
    let q = requests_along reqs c.deref.result.now c.args.prover_rounds.items c.in_ok-requests.ensures c.deref.ensures.value in
    handed_as_one (Vec (Vec (Vec (Vec g.row.E.Denot Global) Global) Global) Global × g.row.P-Proof.Denot) (T.open_fault pcs reqs) _ (λ e h. subst (λ l. T.open_fault pcs l e) q h)
    c.from_residual-in_err-values.result c.in_err-values.field-0.0 c.from_residual-in_err-values.ensures.1 c.in_err-values.ensures.refusal
