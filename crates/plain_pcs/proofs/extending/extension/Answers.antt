use Rattle.std.proofs.Common.{◌≡◌, ℕ, ◌+◌, ◌*◌, ◌^◌, ◌≤◌, sym, ◌∙◌, ap, subst, arith}
use Rattle.std.proofs.Math.Pow.{pow_mono}
use Rattle.std.proofs.lemmas.Nat.{pow-add}
use Rattle.p3_dft.specs.Transform.{IsExtensionOf}
use Rattle.plain_pcs.specs.Scheme.{scheme}
use Rattle.plain_pcs.specs.Laws.Shifted.{shift_not_zero}
use Rattle.plain_pcs.specs.Laws.Extensions.{transformed_extension}
use Rattle.plain_pcs.proofs.extending.extension.Goals as goal

within : (n k b top : ℕ) → n ≡ 2 ^ k → k + b ≤ top → n * 2 ^ b ≤ 2 ^ top
within n k b top e h =
    let size : n * 2 ^ b ≡ 2 ^ (k + b) = ap (λ m. m * 2 ^ b) e ∙ sym (pow-add 2 k b) in
    let more : 2 ^ (k + b) ≤ 2 ^ top = pow_mono h in
    omega (arith, size, more)

pub coset_lde_batch-requires-clause-subgroup : goal.coset_lde_batch-requires-clause-subgroup
coset_lde_batch-requires-clause-subgroup g c = within _ c.args.domain.log_size c.args.log_blowup g.F.TwoAdicCore.TWO_ADICITY c.requires.height_is c.requires.fits

pub coset_lde_batch-requires-clause-shift : goal.coset_lde_batch-requires-clause-shift
coset_lde_batch-requires-clause-shift g c = λ z.
    let r = g.F.RingCore.ring in
    let shift : c.mul-shift.result ≡ r.mul g.F.FieldCore.GENERATOR (g.F.FieldCore.inv c.args.domain.shift) =
    g.met.F.PrimeCharacteristicRing.muls _ _ _ c.mul-shift.ensures ∙ (ap (λ x. r.mul x c.shift_inverse.result) c.GENERATOR.ensures ∙ ap (r.mul g.F.FieldCore.GENERATOR) c.shift_inverse.ensures) in
    shift_not_zero r g.met.F.RingCore.ring_laws g.F.FieldCore.inv g.met.F.FieldCore.field_laws c.args.domain.shift c.valid.ensures.0 g.F.FieldCore.GENERATOR g.met.F.FieldCore.generator_not_zero (sym shift ∙ z)

pub returns : goal.returns
returns g c =
    let r = g.F.RingCore.ring in
    let s = scheme g.F.RingCore.ring g.F.FieldCore.inv g.F.TwoAdicCore.root g.F.FieldCore.GENERATOR g.F.TwoAdicCore.TWO_ADICITY (record { log_blowup = c.args.log_blowup }) in
    let shift : c.mul-shift.result ≡ r.mul g.F.FieldCore.GENERATOR (g.F.FieldCore.inv c.args.domain.shift) =
    g.met.F.PrimeCharacteristicRing.muls _ _ _ c.mul-shift.ensures ∙ (ap (λ x. r.mul x c.shift_inverse.result) c.GENERATOR.ensures ∙ ap (r.mul g.F.FieldCore.GENERATOR) c.shift_inverse.ensures) in
    transformed_extension s g.met.F.RingCore.ring_laws g.met.F.FieldCore.field_laws g.met.F.TwoAdicCore.root_laws c.args.domain c.args.matrix c.in_ok-extended.extended c.valid.ensures.0 c.requires c.height.ensures.fills
    (subst (λ (x : g.row.F.Denot). IsExtensionOf r g.F.TwoAdicCore.root c.args.log_blowup x c.args.matrix c.in_ok-extended.extended) shift c.in_ok-extended.ensures)
