use Rattle.std.proofs.Common.{◌≡◌, ℕ, zero, suc, ◌/◌, ◌<◌, ◌∙◌, subst, ap, arith}
use Rattle.std.specs.Int.{IsGcd, ◌∣◌}
use Rattle.std.proofs.Math.Nat.{mod-zero}
use Rattle.std.proofs.lemmas.Nat.Gcd.{mod-eq-zero_of_dvd}
use Rattle.p3_matrix.specs.Matrix.{height}
use Rattle.commit_core.proofs.periodic_table.PeriodicLdeTable.packed_group_period.Goals as goal

divisor_positive : (g n : ℕ) → 0 < n → g ∣ n → 0 < g
divisor_positive zero n p h = absurd (omega (arith, mod-eq-zero_of_dvd zero h, mod-zero n))
divisor_positive (suc g) n p h = omega arith

pub nonzero_div-result : goal.nonzero_div-result
nonzero_div-result g c = divisor_positive c.greatest_common_divisor.result c.args.pack_width c.requires c.greatest_common_divisor.ensures.1

pub returns : goal.returns
returns g c =
    let d = c.greatest_common_divisor.result in
    let high : c.height-height.result ≡ height c.args.self.now = c.height-height.ensures.result ∙ ap (λ m. height m) c.self.view_is in
    (d, subst (λ n. IsGcd n c.args.pack_width d) high c.greatest_common_divisor.ensures, ap (λ n. n / d) high)
