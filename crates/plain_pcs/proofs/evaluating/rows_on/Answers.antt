use Rattle.std.proofs.Common.{◌≡◌, ℕ, ◌-◌, ◌*◌, ◌/◌, ◌%◌, ◌^◌, ◌∙◌, subst, sym, ap, arith}
use Rattle.p3_matrix.specs.Matrix.{height}
use Rattle.p3_matrix.specs.Laws.Powers.{one_shifted_left}
use Rattle.commit_core.specs.Space.{IsSplit}
use Rattle.plain_pcs.proofs.Transfers.{stride_divides, transfer_part}
use Rattle.plain_pcs.proofs.evaluating.rows_on.Goals as goal

pub rows_from-requires-clause-divides : goal.rows_from-requires-clause-divides
rows_from-requires-clause-divides g c =
    let k = c.log_size.result in
    let l = c.log_size-2.result in
    let h = height c.args.values.now in
    let tall : h ≡ 2 ^ k = c.requires.height ∙ ap (λ n. 2 ^ n) (sym c.log_size.ensures) in
    let stride : 1 * 2 ^ (k - l) % 18446744073709551616 ≡ 2 ^ (k - l) = one_shifted_left (k - l) (omega (arith, c.valid.ensures.1, c.log_size.ensures, g.met.F.TwoAdicCore.below_64)) in
    subst (λ (n : ℕ). h / n * n ≡ h) (sym stride) (stride_divides h k l tall (omega (arith, c.log_size.ensures, c.log_size-2.ensures, c.requires.smaller)))

pub returns : goal.returns
returns g c =
    let k = c.log_size.result in
    let l = c.log_size-2.result in
    let m = c.args.values.now in
    let u = c.in_ok-rows.rows in
    let stride : 1 * 2 ^ (k - l) % 18446744073709551616 ≡ 2 ^ (k - l) = one_shifted_left (k - l) (omega (arith, c.valid.ensures.1, c.log_size.ensures, g.met.F.TwoAdicCore.below_64)) in
    let some : IsSplit m (2 ^ (k - l)) 0 u = subst (λ (n : ℕ). IsSplit m n 0 u) stride c.in_ok-rows.ensures in
    transfer_part g.F.RingCore.ring g.met.F.RingCore.ring_laws g.F.FieldCore.inv g.met.F.FieldCore.field_laws g.F.TwoAdicCore.TWO_ADICITY g.F.TwoAdicCore.root g.met.F.TwoAdicCore.root_laws
    c.args.from.now c.args.to.now (k - l) m u c.valid.ensures.1 (omega (arith, c.log_size.ensures, c.log_size-2.ensures, c.requires.smaller)) c.requires.shift c.requires.height some
