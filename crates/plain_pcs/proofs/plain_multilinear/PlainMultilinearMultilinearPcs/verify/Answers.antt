use Rattle.std.proofs.Common.{◌≡◌, ◌^◌, ◌∙◌, length, subst, sym, arith, rules}
use Rattle.std.proofs.lemmas.List.{length-map}
use Rattle.p3_matrix.specs.Laws.Powers.{one_shifted_left}
use Rattle.commit_rows.specs.Batches.{lists}
use Rattle.plain_pcs.specs.PlainMultilinear.{HaveCoordinates, IsFirstUnfit, IsFirstDifferent, multilinear_values_at}
use Rattle.plain_pcs.proofs.ClaimFaults.{length_fault, point_fault, count_fault, value_fault}
use Rattle.plain_pcs.proofs.plain_multilinear.PlainMultilinearMultilinearPcs.verify.Goals as goal

pub values_at-requires : goal.values_at-requires
values_at-requires g c =
    let m = c.self.inside.num_vars in
    let count : length c.deref-2.result.now ≡ 2 ^ m = omega (arith, c.deref-2.ensures.len, c.len.ensures, c.if-len-self.false, one_shifted_left m c.self.invariant) in
    (m, (count, subst (λ l. HaveCoordinates m (lists l)) (c.deref.ensures.value ∙ sym c.deref-3.ensures.value) c.in_default.ensures))

pub returns-then-len-self-clause-verdict : goal.returns-then-len-self-clause-verdict
returns-then-len-self-clause-verdict g c = length_fault _ _ _ _ _ _ (search rules)

pub returns-in-Some-clause-verdict : goal.returns-in-Some-clause-verdict
returns-in-Some-clause-verdict g c =
    let points = lists c.args.protocol.now.items in
    let i = c.in-Some.point in
    let first : IsFirstUnfit c.args.self.now points i =
    subst (λ m. IsFirstUnfit m points i) c.self.view_is (subst (λ l. IsFirstUnfit c.self.inside.num_vars (lists l) i) c.deref.ensures.value c.in-Some.ensures) in
    point_fault g.EF.RingCore.ring g.EF.ExtensionField.embed c.args.self.now c.args.commitment.now.values.items points c.args.proof.now.items i (search rules) first

pub returns-then-len-clause-verdict : goal.returns-then-len-clause-verdict
returns-then-len-clause-verdict g c =
    let points = lists c.args.protocol.now.items in
    let fit : HaveCoordinates c.args.self.now points =
    subst (λ m. HaveCoordinates m points) c.self.view_is (subst (λ l. HaveCoordinates c.self.inside.num_vars (lists l)) c.deref.ensures.value c.in_default.ensures) in
    count_fault g.EF.RingCore.ring g.EF.ExtensionField.embed c.args.self.now c.args.commitment.now.values.items points c.args.proof.now.items (search rules) fit
    (λ e. c.if-len.true (omega (arith, c.len-2.ensures, c.len-3.ensures, e, length-map c.args.protocol.now.items (λ v. v.items))))

pub returns-in-Some-first_different-clause-verdict : goal.returns-in-Some-first_different-clause-verdict
returns-in-Some-first_different-clause-verdict g c =
    let ring = g.EF.RingCore.ring in
    let embed = g.EF.ExtensionField.embed in
    let vs = c.args.commitment.now.values.items in
    let points = lists c.args.protocol.now.items in
    let i = c.in-Some-first_different.point in
    let fit : HaveCoordinates c.args.self.now points =
    subst (λ m. HaveCoordinates m points) c.self.view_is (subst (λ l. HaveCoordinates c.self.inside.num_vars (lists l)) c.deref.ensures.value c.in_default.ensures) in
    let values : c.deref-5.result.now ≡ multilinear_values_at ring embed vs points =
    c.deref-5.ensures.value ∙ (c.in_ok-values.ensures ∙ (λ k. multilinear_values_at ring embed (c.deref-2.ensures.value k) (lists (c.deref-3.ensures.value k)))) in
    let first : IsFirstDifferent ring c.args.proof.now.items (multilinear_values_at ring embed vs points) i =
    subst (λ l. IsFirstDifferent ring l (multilinear_values_at ring embed vs points) i) c.deref-4.ensures.value
    (subst (λ l. IsFirstDifferent ring c.deref-4.result.now l i) values c.in-Some-first_different.ensures) in
    value_fault ring embed c.args.self.now vs points c.args.proof.now.items i (search rules) fit
    (omega (arith, c.len-2.ensures, c.len-3.ensures, c.if-len.false, length-map c.args.protocol.now.items (λ v. v.items))) first
