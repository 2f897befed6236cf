use Rattle.std.proofs.Common.{◌≡◌, sym, ◌∙◌}
use Rattle.p3_field.specs.BabyBear.{baby_bear_inv}
use Rattle.p3_field.specs.Quartic.{quartic_ring, quartic_norm}
use Rattle.p3_field.specs.Laws.QuarticField.{norm_zero, norm_of_even, inverse_of_even, conjugate}
use Rattle.p3_field.proofs.quartic.field.QuarticExtensionFieldCore.inverse.Goals as goal

pub inverse-scale-requires : goal.inverse-scale-requires
inverse-scale-requires c =
    let x = c.args.self.now in
    let e = c.mul-product.result in
    let h : e ≡ quartic_ring.mul x (conjugate x) = cc in
    let n : c.sub-norm.result ≡ quartic_norm x = cc (norm_of_even x e h) in
    λ z. c.requires (norm_zero x (sym n ∙ z))

pub returns : goal.returns
returns c =
    let x = c.args.self.now in
    let e = c.mul-product.result in
    let k = c.inverse-scale.result in
    let h : e ≡ quartic_ring.mul x (conjugate x) = cc in
    let n : k ≡ baby_bear_inv (quartic_norm x) = cc (norm_of_even x e h) in
    cc (inverse_of_even x e k h n)
