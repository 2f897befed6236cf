use Rattle.law_committed.specs.Laws.Identity.{identity_at, identity_value, quotient_poly_value}
use Rattle.law_committed.proofs.identity.an_identity_holds_at_roots.Goals as goal

pub returns-clause-quotient : goal.returns-clause-quotient
returns-clause-quotient g c f e top inverse q x L = quotient_poly_value e L.above f q x

pub returns-clause-value : goal.returns-clause-value
returns-clause-value g c f e top inverse t trees q alpha x L = identity_value e L.above f t trees q alpha x

pub returns-clause-root : goal.returns-clause-root
returns-clause-root g c f e top inverse t trees q alpha x L = identity_at e L.above f t trees q alpha x
