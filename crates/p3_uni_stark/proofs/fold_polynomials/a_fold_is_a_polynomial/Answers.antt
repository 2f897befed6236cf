use Rattle.p3_uni_stark.specs.Laws.FoldPolynomials.{fold_value, fold_degree, fold_of_trees}
use Rattle.p3_uni_stark.proofs.fold_polynomials.a_fold_is_a_polynomial.Goals as goal

pub returns-clause-value : goal.returns-clause-value
returns-clause-value g c a x ps = fold_value g.EF.RingCore.ring g.met.EF.RingCore.ring_laws a ps x

pub returns-clause-degree : goal.returns-clause-degree
returns-clause-degree g c a n ps h = fold_degree g.EF.RingCore.ring g.met.EF.RingCore.ring_laws a n ps h

pub returns-clause-trees : goal.returns-clause-trees
returns-clause-trees g c embed v a x ts = fold_of_trees g.EF.RingCore.ring g.met.EF.RingCore.ring_laws embed v a x ts
