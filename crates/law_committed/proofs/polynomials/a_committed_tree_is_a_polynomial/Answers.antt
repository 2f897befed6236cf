use Rattle.law_committed.specs.Laws.Values.{values_are, tree_value}
use Rattle.law_committed.proofs.polynomials.a_committed_tree_is_a_polynomial.Goals as goal

pub returns-clause-cells : goal.returns-clause-cells
returns-clause-cells g c f e top inverse t x L = values_are e L.above f t x

pub returns-clause-tree : goal.returns-clause-tree
returns-clause-tree g c f e top inverse t x tree L = tree_value e L.above f t x tree
