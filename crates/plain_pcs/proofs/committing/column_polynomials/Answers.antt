use Rattle.std.proofs.Common.{◌≡◌, ℕ, ◌^◌, ◌<◌, List, subst, sym, ◌∙◌, arith}
use Rattle.p3_field.specs.Domain.{coset_point, IsInterpolant}
use Rattle.p3_matrix.specs.Matrix.{height, column}
use Rattle.p3_matrix.specs.Laws.Powers.{power_cancel}
use Rattle.commit_core.specs.Laws.Each.{one_more}
use Rattle.plain_pcs.proofs.committing.column_polynomials.Goals as goal

pub interpolants_on_coset-requires-clause-subgroup : goal.interpolants_on_coset-requires-clause-subgroup
interpolants_on_coset-requires-clause-subgroup g c =
    let l = c.log2_strict_usize-log_height.result in
    let size : height c.args.matrix.now ≡ 2 ^ l = sym c.height.ensures.result ∙ c.log2_strict_usize-log_height.ensures in
    let same : l ≡ c.requires.0 = power_cancel l c.requires.0 (sym size ∙ c.requires.2) in
    omega (arith, same, c.requires.1)

pub loop-j-preserved : goal.loop-j-preserved
loop-j-preserved g c =
    let r = g.F.RingCore.ring in
    let G = g.F.FieldCore.GENERATOR in
    let h = g.F.TwoAdicCore.root c.log2_strict_usize-log_height.result in
    let m = c.args.matrix.now in
    let f = c.in_ok-polynomial.polynomial in
    let below : c.loop-j.j < m.width = omega (arith, c.width-j-end.ensures) in
    let w = column r.zero m c.loop-j.j in
    let u = column r.zero c.in_ok-coefficients.coefficients c.loop-j.j in
    let on : IsInterpolant r (coset_point r G h) w u = subst (λ (s : g.row.F.Denot). IsInterpolant r (coset_point r s h) w u) c.GENERATOR.ensures (c.in_ok-coefficients.ensures.columns c.loop-j.j below) in
    let here : IsInterpolant r (coset_point r G h) w f.items = subst (λ (v : List g.row.F.Denot). IsInterpolant r (coset_point r G h) w v) (sym (c.in_ok-polynomial.ensures.values r.zero)) on in
    one_more c.loop-j.j c.loop-j.polynomials.items c.push.new.self.items f (λ j f. IsInterpolant r (coset_point r G h) (column r.zero m j) f.items) c.loop-j.invariant here c.in_ok-push.ensures.items

pub returns : goal.returns
returns g c = λ k e.
    let r = g.F.RingCore.ring in
    let l = c.log2_strict_usize-log_height.result in
    let m = c.args.matrix.now in
    let size : height m ≡ 2 ^ l = sym c.height.ensures.result ∙ c.log2_strict_usize-log_height.ensures in
    let same : l ≡ k = power_cancel l k (sym size ∙ e) in
    let last : c.loop-j.j ≡ m.width = omega (arith, c.width-j-end.ensures) in
    record {
      count = c.loop-j.invariant.count ∙ last;
      each = λ j f q. subst (λ (n : ℕ). IsInterpolant r (coset_point r g.F.FieldCore.GENERATOR (g.F.TwoAdicCore.root n)) (column r.zero m j) f.items) same (c.loop-j.invariant.each j f q);
    }
