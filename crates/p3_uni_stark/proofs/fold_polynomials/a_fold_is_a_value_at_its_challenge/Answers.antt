use Rattle.p3_uni_stark.specs.Laws.FoldPolynomials.{fold_at_challenge, zero_values}
use Rattle.p3_uni_stark.proofs.fold_polynomials.a_fold_is_a_value_at_its_challenge.Goals as goal

pub returns-clause-value : goal.returns-clause-value
returns-clause-value g c a cs = fold_at_challenge g.EF.RingCore.ring g.met.EF.RingCore.ring_laws a cs

pub returns-clause-zero : goal.returns-clause-zero
returns-clause-zero g c cs z = zero_values g.EF.RingCore.ring g.met.EF.RingCore.ring_laws cs z
