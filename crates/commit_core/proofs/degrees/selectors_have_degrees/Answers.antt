use Rattle.commit_core.specs.Laws.Degrees.{degree_vanishing_polynomial, degree_first, degree_last, degree_transition}
use Rattle.commit_core.proofs.degrees.selectors_have_degrees.Goals as goal

pub returns-clause-vanishing : goal.returns-clause-vanishing
returns-clause-vanishing g c d = degree_vanishing_polynomial g.F.RingCore.ring g.met.F.RingCore.ring_laws g.F.FieldCore.inv d

pub returns-clause-first : goal.returns-clause-first
returns-clause-first g c d = degree_first g.F.RingCore.ring g.met.F.RingCore.ring_laws g.F.FieldCore.inv d

pub returns-clause-last : goal.returns-clause-last
returns-clause-last g c d = degree_last g.F.RingCore.ring g.met.F.RingCore.ring_laws g.F.FieldCore.inv g.F.TwoAdicCore.root d

pub returns-clause-transition : goal.returns-clause-transition
returns-clause-transition g c d = degree_transition g.F.RingCore.ring g.met.F.RingCore.ring_laws g.F.FieldCore.inv g.F.TwoAdicCore.root d
