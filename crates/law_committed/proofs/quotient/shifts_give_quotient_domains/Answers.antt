use Rattle.law_committed.specs.Laws.Disjoint.{shift_gives_domain}
use Rattle.law_committed.proofs.quotient.shifts_give_quotient_domains.Goals as goal

pub returns : goal.returns
returns g c f e top inverse t shift log_chunks L fits nz differs = shift_gives_domain f e top inverse L t shift log_chunks fits nz differs
