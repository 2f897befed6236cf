use Rattle.law_committed.specs.Laws.IdentityDegree.{degree_quotient, identity_degree}
use Rattle.law_committed.proofs.identity.an_identity_has_a_degree.Goals as goal

pub returns-clause-quotient : goal.returns-clause-quotient
returns-clause-quotient g c f e top inverse t q L Q = degree_quotient f e top inverse L t q Q

pub returns-clause-identity : goal.returns-clause-identity
returns-clause-identity g c f e top inverse t trees q alpha p L fits B Q most = identity_degree f e top inverse L t q Q fits B trees alpha p most
