use Rattle.law_committed.specs.Laws.Quotient.{honest_bounded, honest_identity, honest_recombined, one_chunk_polynomial}
use Rattle.law_committed.proofs.quotient.an_honest_quotient_is_that_of_the_fold.Goals as goal

pub returns-clause-bounded : goal.returns-clause-bounded
returns-clause-bounded g c f e top inverse t trees alpha shift log_chunks L Q = honest_bounded f e top inverse L t trees alpha shift log_chunks Q

pub returns-clause-only : goal.returns-clause-only
returns-clause-only g c f e top inverse t trees alpha shift log_chunks i k p L Q h I = one_chunk_polynomial f e top inverse L t trees alpha shift log_chunks Q i k p h I

pub returns-clause-recombined : goal.returns-clause-recombined
returns-clause-recombined g c f e top inverse t trees alpha shift log_chunks x L Q B holds fit = honest_recombined f e top inverse L t trees alpha shift log_chunks Q B holds fit x

pub returns-clause-identity : goal.returns-clause-identity
returns-clause-identity g c f e top inverse t trees alpha shift log_chunks x L Q B holds fit = honest_identity f e top inverse L t trees alpha shift log_chunks Q B holds fit x
