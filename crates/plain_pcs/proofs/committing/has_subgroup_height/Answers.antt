use Rattle.std.proofs.Common.{◌≡◌, ◌^◌, ◌≤◌, sym, ◌∙◌, arith}
use Rattle.std.proofs.lemmas.Bool.{leb-true, le-leb}
use Rattle.p3_matrix.specs.Matrix.{height}
use Rattle.p3_matrix.specs.Laws.Powers.{power_cancel}
use Rattle.plain_pcs.proofs.committing.has_subgroup_height.Goals as goal

pub returns-then-is_power_of_two : goal.returns-then-is_power_of_two
returns-then-is_power_of_two g c =
    let top = g.F.TwoAdicCore.TWO_ADICITY in
    let l = c.log2_strict_usize.result in
    let size : height c.args.matrix.now ≡ 2 ^ l = sym c.height-height.ensures.result ∙ c.log2_strict_usize.ensures in
    let same : c.TWO_ADICITY.result ≡ top = c.TWO_ADICITY.ensures in (
      λ t. let low : l ≤ c.TWO_ADICITY.result = leb-true l c.TWO_ADICITY.result t in (l, omega (arith, low, same), size),
      λ h. let at : l ≡ h.0 = power_cancel l h.0 (sym size ∙ h.2) in le-leb l c.TWO_ADICITY.result (omega (arith, h.1, at, same)),
    )
