use Rattle.std.proofs.Common.{◌≡◌, ℕ, ◌+◌, ◌*◌, ◌^◌, ◌<◌, ◌≤◌, ◌∙◌, sym, ap, subst, arith}
use Rattle.std.proofs.Math.Pow.{pow_mono}
use Rattle.std.proofs.lemmas.Nat.{pow-add}
use Rattle.p3_field.specs.Domain.{coset_point, IsInterpolant}
use Rattle.p3_matrix.specs.Matrix.{height, column}
use Rattle.p3_matrix.specs.Laws.Powers.{power_le_cancel, power_cancel}
use Rattle.p3_dft.specs.Transform.{values_at}
use Rattle.p3_dft.proofs.batch.extended_columns.Goals as goal

within_larger : (n k a top : ℕ) → n ≡ 2 ^ k → n * 2 ^ a ≤ 2 ^ top → k + a ≤ top
within_larger n k a top e h =
    let p : n * 2 ^ a ≡ 2 ^ k * 2 ^ a = ap (λ x. x * 2 ^ a) e in
    power_le_cancel (k + a) top (omega (arith, p, pow-add 2 k a))

pub coset_interpolants-requires-clause-subgroup : goal.coset_interpolants-requires-clause-subgroup
coset_interpolants-requires-clause-subgroup g c =
    let sum = within_larger (height c.args.m.now) c.log2_strict_usize-log_height.result c.args.added_bits g.F.TwoAdicCore.TWO_ADICITY (sym c.height.ensures.result ∙ c.log2_strict_usize-log_height.ensures) c.requires.subgroup in
    omega (arith, sum)

pub overflow_add-log_size : goal.overflow_add-log_size
overflow_add-log_size g c =
    let sum = within_larger (height c.args.m.now) c.log2_strict_usize-log_height.result c.args.added_bits g.F.TwoAdicCore.TWO_ADICITY (sym c.height.ensures.result ∙ c.log2_strict_usize-log_height.ensures) c.requires.subgroup in
    omega (arith, sum, g.met.F.TwoAdicCore.below_64)

pub coset_values-requires-clause-subgroup : goal.coset_values-requires-clause-subgroup
coset_values-requires-clause-subgroup g c =
    within_larger (height c.args.m.now) c.log2_strict_usize-log_height.result c.args.added_bits g.F.TwoAdicCore.TWO_ADICITY (sym c.height.ensures.result ∙ c.log2_strict_usize-log_height.ensures) c.requires.subgroup

pub coset_values-requires-clause-fits : goal.coset_values-requires-clause-fits
coset_values-requires-clause-fits g c =
    let k = c.log2_strict_usize-log_height.result in
    let wider : 2 ^ k ≤ 2 ^ (k + c.args.added_bits) = pow_mono (omega arith) in
    omega (arith, c.in_ok-coefficients.ensures.height, wider)

pub returns : goal.returns
returns g c =
    let r = g.F.RingCore.ring in
    let root = g.F.TwoAdicCore.root in
    let k = c.log2_strict_usize-log_height.result in
    let m = c.args.m.now in
    let a = c.args.added_bits in
    let u = c.in_ok-coefficients.coefficients in
    let size : height m ≡ 2 ^ k = sym c.height.ensures.result ∙ c.log2_strict_usize-log_height.ensures in
    record {
      width_is = c.in_ok-values.ensures.width ∙ c.in_ok-coefficients.ensures.width;
      column_is = λ j l b h.
          let same : k ≡ l = power_cancel k l (sym size ∙ h) in
          let across : j < u.width = omega (arith, c.in_ok-coefficients.ensures.width) in
          let start : IsInterpolant r (coset_point r r.one (root k)) (column r.zero m j) (column r.zero u j) =
          subst (λ (s : g.row.F.Denot). IsInterpolant r (coset_point r s (root k)) (column r.zero m j) (column r.zero u j)) (c.ONE.ensures ∙ g.met.F.RingCore.one_is) (c.in_ok-coefficients.ensures.columns j b) in
          record {
            interpolant = column r.zero u j;
            interpolates = subst (λ (i : ℕ). IsInterpolant r (coset_point r r.one (root i)) (column r.zero m j) (column r.zero u j)) same start;
            values_are = c.in_ok-values.ensures.columns j across ∙ ap (λ (i : ℕ). values_at r (coset_point r c.args.shift (root (i + a))) (2 ^ (i + a)) (column r.zero u j)) same;
          };
    }
