use Rattle.std.proofs.Common.{◌≡◌, ℕ, ◌^◌, ◌∙◌, sym, ap, arith}
use Rattle.p3_field.specs.Domain.{coset_point}
use Rattle.p3_matrix.specs.Matrix.{height, column}
use Rattle.p3_matrix.specs.Laws.Powers.{power_le_cancel, power_cancel}
use Rattle.p3_dft.specs.Transform.{values_at}
use Rattle.p3_dft.proofs.batch.dft_columns.Goals as goal

pub coset_values-requires-clause-subgroup : goal.coset_values-requires-clause-subgroup
coset_values-requires-clause-subgroup g c =
    power_le_cancel c.log2_strict_usize-log_height.result g.F.TwoAdicCore.TWO_ADICITY (omega (arith, c.height.ensures.result, c.log2_strict_usize-log_height.ensures, c.requires.subgroup))

pub returns : goal.returns
returns g c =
    let r = g.F.RingCore.ring in
    let k = c.log2_strict_usize-log_height.result in
    let m = c.args.m.now in
    let size : height m ≡ 2 ^ k = sym c.height.ensures.result ∙ c.log2_strict_usize-log_height.ensures in
    record {
      width_is = c.in_ok-values.ensures.width;
      column_is = λ j l b h.
          let same : k ≡ l = power_cancel k l (sym size ∙ h) in
          c.in_ok-values.ensures.columns j b
          ∙ (ap (λ (s : g.row.F.Denot). values_at r (coset_point r s (g.F.TwoAdicCore.root k)) (2 ^ k) (column r.zero m j)) (c.ONE.ensures ∙ g.met.F.RingCore.one_is)
          ∙ ap (λ (i : ℕ). values_at r (coset_point r r.one (g.F.TwoAdicCore.root i)) (2 ^ i) (column r.zero m j)) same);
    }
