use Rattle.law_committed.specs.Laws.Selectors.{point_after, first_on_rows, last_on_rows, transition_on_rows}
use Rattle.law_committed.proofs.rows.selectors_mark_their_rows.Goals as goal

pub returns-clause-next : goal.returns-clause-next
returns-clause-next g c f e top inverse t i L fits h = point_after f e top inverse L t fits i h

pub returns-clause-first : goal.returns-clause-first
returns-clause-first g c f e top inverse t i L fits h = first_on_rows f e top inverse L t fits i h

pub returns-clause-last : goal.returns-clause-last
returns-clause-last g c f e top inverse t i L fits h = last_on_rows f e top inverse L t fits i h

pub returns-clause-transition : goal.returns-clause-transition
returns-clause-transition g c f e top inverse t i L fits h = transition_on_rows f e top inverse L t fits i h
