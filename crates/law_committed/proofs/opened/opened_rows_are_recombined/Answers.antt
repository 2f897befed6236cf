use Rattle.law_committed.specs.Laws.Opened.{periodic_is, recombined_is}
use Rattle.law_committed.proofs.opened.opened_rows_are_recombined.Goals as goal

pub returns-clause-permutation : goal.returns-clause-permutation
returns-clause-permutation g c f e top inverse t row width x L long opened = recombined_is f e top inverse L t row width x long opened

pub returns-clause-periodic : goal.returns-clause-periodic
returns-clause-periodic g c f e top inverse t column x y L fits P I = periodic_is f e top inverse L t fits column x y P I
