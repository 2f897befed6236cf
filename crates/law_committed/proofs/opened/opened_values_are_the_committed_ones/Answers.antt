use Rattle.law_committed.specs.Laws.Opened.{opened_by_rows, opened_identity, opened_trees}
use Rattle.law_committed.proofs.opened.opened_values_are_the_committed_ones.Goals as goal

pub returns-clause-cells : goal.returns-clause-cells
returns-clause-cells g c f e t s v x A = opened_by_rows f e t s v x A

pub returns-clause-trees : goal.returns-clause-trees
returns-clause-trees g c f e t s v x trees A declared = opened_trees f e t s v x A trees declared

pub returns-clause-identity : goal.returns-clause-identity
returns-clause-identity g c f e t s v x trees q alpha chunks A declared opened = opened_identity f e t s v x A trees q alpha chunks declared opened
