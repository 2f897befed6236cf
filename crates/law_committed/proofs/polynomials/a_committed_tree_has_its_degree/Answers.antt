use Rattle.law_committed.specs.Laws.Degrees.{cells_have_degrees, committed_degree}
use Rattle.law_committed.proofs.polynomials.a_committed_tree_has_its_degree.Goals as goal

pub returns-clause-cells : goal.returns-clause-cells
returns-clause-cells g c f e top inverse t L fits B = cells_have_degrees f e top inverse L t fits B

pub returns-clause-tree : goal.returns-clause-tree
returns-clause-tree g c f e top inverse t tree L fits B = committed_degree f e top inverse L t fits B tree
