use Rattle.std.proofs.Common.{◌≡◌, ℕ, ◌-◌, ◌*◌, ◌/◌, ◌%◌, ◌^◌, ◌≤◌, ◌∙◌, refl, subst, sym, ap, arith}
use Rattle.std.proofs.Math.Pow.{pow_mono}
use Rattle.p3_field.specs.Domain.{CosetData}
use Rattle.p3_matrix.specs.Matrix.{height}
use Rattle.p3_matrix.specs.Laws.Powers.{one_shifted_left}
use Rattle.commit_core.specs.Space.{IsSplit}
use Rattle.plain_pcs.specs.Transfer.{IsTransfer}
use Rattle.plain_pcs.proofs.Transfers.{largest_fits, stride_divides, ratio_not_zero, transfer, transfer_smaller}
use Rattle.plain_pcs.proofs.evaluating.transferred.Goals as goal

pub coset_lde_batch-requires-clause-subgroup : goal.coset_lde_batch-requires-clause-subgroup
coset_lde_batch-requires-clause-subgroup g c =
    let low : 2 ^ c.args.from.log_size ≤ 2 ^ g.F.TwoAdicCore.TWO_ADICITY = pow_mono c.valid.ensures.1 in
    omega (arith, c.requires)

pub coset_lde_batch-requires-clause-shift : goal.coset_lde_batch-requires-clause-shift
coset_lde_batch-requires-clause-shift g c =
    ratio_not_zero g.F.RingCore.ring g.met.F.RingCore.ring_laws g.F.FieldCore.inv g.met.F.FieldCore.field_laws g.F.TwoAdicCore.TWO_ADICITY g.F.TwoAdicCore.root g.met.F.TwoAdicCore.root_laws
    c.args.from c.args.to _ _ c.mul-shift.result c.valid.ensures.0 c.valid-2.ensures.0 (g.met.F.PrimeCharacteristicRing.muls _ _ _ c.mul-shift.ensures) c.shift.ensures c.shift_inverse.ensures

pub rows_from-requires-clause-divides : goal.rows_from-requires-clause-divides
rows_from-requires-clause-divides g c =
    let r = g.F.RingCore.ring in
    let inv = g.F.FieldCore.inv in
    let top = g.F.TwoAdicCore.TWO_ADICITY in
    let root = g.F.TwoAdicCore.root in
    let from = c.args.from in
    let to = c.args.to in
    let k = c.log_size-log_from.result in
    let l = c.log_size-log_to.result in
    let same : CosetData g.row.F.Denot = record { shift = to.shift; log_size = from.log_size } in
    let whole : IsTransfer r root from same c.args.values c.in_ok-all.all =
    transfer r g.met.F.RingCore.ring_laws inv g.met.F.FieldCore.field_laws top root g.met.F.TwoAdicCore.root_laws from same 0 _ _ c.mul-shift.result c.args.values c.in_ok-all.all
    c.valid.ensures.1 c.valid.ensures.0 c.requires (omega arith) (g.met.F.PrimeCharacteristicRing.muls _ _ _ c.mul-shift.ensures) c.shift.ensures c.shift_inverse.ensures c.in_ok-all.ensures in
    let stride : 1 * 2 ^ (k - l) % 18446744073709551616 ≡ 2 ^ (k - l) = one_shifted_left (k - l) (omega (arith, c.valid.ensures.1, c.log_size-log_from.ensures, g.met.F.TwoAdicCore.below_64)) in
    let h = height c.in_ok-all.all in
    let tall : h ≡ 2 ^ k = whole.height_is ∙ ap (λ n. 2 ^ n) (sym c.log_size-log_from.ensures) in
    subst (λ (n : ℕ). h / n * n ≡ h) (sym stride) (stride_divides h k l tall (omega arith))

pub coset_lde_batch-requires-else-log_to-log_from-clause-subgroup : goal.coset_lde_batch-requires-else-log_to-log_from-clause-subgroup
coset_lde_batch-requires-else-log_to-log_from-clause-subgroup g c =
    let k = c.log_size-log_from.result in
    let l = c.log_size-log_to.result in
    largest_fits (height c.args.values) k l g.F.TwoAdicCore.TWO_ADICITY (c.requires ∙ ap (λ n. 2 ^ n) (sym c.log_size-log_from.ensures)) (omega arith) (omega (arith, c.valid-2.ensures.1, c.log_size-log_to.ensures))

pub coset_lde_batch-requires-else-log_to-log_from-clause-shift : goal.coset_lde_batch-requires-else-log_to-log_from-clause-shift
coset_lde_batch-requires-else-log_to-log_from-clause-shift g c =
    ratio_not_zero g.F.RingCore.ring g.met.F.RingCore.ring_laws g.F.FieldCore.inv g.met.F.FieldCore.field_laws g.F.TwoAdicCore.TWO_ADICITY g.F.TwoAdicCore.root g.met.F.TwoAdicCore.root_laws
    c.args.from c.args.to _ _ c.mul-shift.result c.valid.ensures.0 c.valid-2.ensures.0 (g.met.F.PrimeCharacteristicRing.muls _ _ _ c.mul-shift.ensures) c.shift.ensures c.shift_inverse.ensures

pub returns-in_ok-rows : goal.returns-in_ok-rows
returns-in_ok-rows g c =
    let r = g.F.RingCore.ring in
    let inv = g.F.FieldCore.inv in
    let top = g.F.TwoAdicCore.TWO_ADICITY in
    let root = g.F.TwoAdicCore.root in
    let from = c.args.from in
    let to = c.args.to in
    let k = c.log_size-log_from.result in
    let l = c.log_size-log_to.result in
    let same : CosetData g.row.F.Denot = record { shift = to.shift; log_size = from.log_size } in
    let whole : IsTransfer r root from same c.args.values c.in_ok-all.all =
    transfer r g.met.F.RingCore.ring_laws inv g.met.F.FieldCore.field_laws top root g.met.F.TwoAdicCore.root_laws from same 0 _ _ c.mul-shift.result c.args.values c.in_ok-all.all
    c.valid.ensures.1 c.valid.ensures.0 c.requires (omega arith) (g.met.F.PrimeCharacteristicRing.muls _ _ _ c.mul-shift.ensures) c.shift.ensures c.shift_inverse.ensures c.in_ok-all.ensures in
    let stride : 1 * 2 ^ (k - l) % 18446744073709551616 ≡ 2 ^ (k - l) = one_shifted_left (k - l) (omega (arith, c.valid.ensures.1, c.log_size-log_from.ensures, g.met.F.TwoAdicCore.below_64)) in
    let some : IsSplit c.in_ok-all.all (2 ^ (k - l)) 0 c.in_ok-rows.rows = subst (λ (n : ℕ). IsSplit c.in_ok-all.all n 0 c.in_ok-rows.rows) stride c.in_ok-rows.ensures in
    transfer_smaller r g.met.F.RingCore.ring_laws inv g.met.F.FieldCore.field_laws top root g.met.F.TwoAdicCore.root_laws from to same (k - l) c.args.values c.in_ok-all.all c.in_ok-rows.rows
    c.valid.ensures.1 (omega (arith, c.log_size-log_from.ensures, c.log_size-log_to.ensures, c.if-log_to-log_from.true)) refl whole some

pub returns-in_ok-moved : goal.returns-in_ok-moved
returns-in_ok-moved g c =
    let r = g.F.RingCore.ring in
    let inv = g.F.FieldCore.inv in
    let top = g.F.TwoAdicCore.TWO_ADICITY in
    let root = g.F.TwoAdicCore.root in
    let from = c.args.from in
    let to = c.args.to in
    let k = c.log_size-log_from.result in
    let l = c.log_size-log_to.result in
    transfer r g.met.F.RingCore.ring_laws inv g.met.F.FieldCore.field_laws top root g.met.F.TwoAdicCore.root_laws from to (l - k) _ _ c.mul-shift.result c.args.values c.in_ok-moved.moved
    c.valid.ensures.1 c.valid.ensures.0 c.requires (omega (arith, c.log_size-log_from.ensures, c.log_size-log_to.ensures, c.if-log_to-log_from.false)) (g.met.F.PrimeCharacteristicRing.muls _ _ _ c.mul-shift.ensures) c.shift.ensures c.shift_inverse.ensures c.in_ok-moved.ensures
