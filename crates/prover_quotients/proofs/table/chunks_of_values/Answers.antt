use Rattle.std.proofs.Common.{◌^◌, ◌≤◌, sym, subst}
use Rattle.std.proofs.Math.Pow.{pow_mono}
use Rattle.prover_quotients.proofs.table.chunks_of_values.Goals as goal

pub quotient_chunks-requires-clause-fits : goal.quotient_chunks-requires-clause-fits
quotient_chunks-requires-clause-fits g c = subst (λ n. n ≤ 2 ^ c.args.domain.log_size) (sym c.power_of_two.ensures.size) (pow_mono c.requires.fits)
