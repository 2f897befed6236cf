use Rattle.std.proofs.Common.{◌^◌, ◌<◌, ◌≤◌, inl, inr, sym, subst, arith}
use Rattle.std.proofs.Math.Pow.{pow-lt}
use Rattle.std.proofs.lemmas.Bool.{cases_lt}
use Rattle.batch_setup.specs.Laws.Logarithms.{log_of_power}
use Rattle.prover_commits.proofs.domains.rows_domain.Goals as goal

-- a lesser power of two has a lesser logarithm
low : (a b : _) → 2 ^ a ≤ 2 ^ b → a ≤ b
low a b h = elim (cases_lt b a) [
  | inl more ↦ let q : 2 ^ b < 2 ^ a = pow-lt more in absurd (omega (arith, h, q))
  | inr fine ↦ fine
]

pub natural_domain-requires-clause-two_adic : goal.natural_domain-requires-clause-two_adic
natural_domain-requires-clause-two_adic g c = low c.log2_strict_usize.result g.SC.Val.TwoAdicCore.TWO_ADICITY (subst (λ n. n ≤ 2 ^ g.SC.Val.TwoAdicCore.TWO_ADICITY) c.log2_strict_usize.ensures c.requires.fits)

pub natural_domain-requires-clause-fits : goal.natural_domain-requires-clause-fits
natural_domain-requires-clause-fits g c =
    let h = natural_domain-requires-clause-two_adic g c in
    let top = g.met.SC.Val.TwoAdicCore.below_64 in
    omega (arith, h, top)

pub returns : goal.returns
returns g c = let e = log_of_power c.args.height c.log2_strict_usize.result c.log2_strict_usize.ensures in (rw (sym e) at c.natural_domain.ensures)
