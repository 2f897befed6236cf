use Rattle.plain_pcs.specs.Scheme.{scheme}
use Rattle.plain_pcs.proofs.Bounds.{commit_granted, extensions_granted, quotient_granted, open_granted}
use Rattle.plain_pcs.proofs.meanings.nothing_is_refused_within_bounds.Goals as goal

pub returns-clause-commit : goal.returns-clause-commit
returns-clause-commit g c b evaluated fits all =
    commit_granted (scheme g.F.RingCore.ring g.F.FieldCore.inv g.F.TwoAdicCore.root g.F.FieldCore.GENERATOR g.F.TwoAdicCore.TWO_ADICITY b) evaluated fits all

pub returns-clause-extensions : goal.returns-clause-extensions
returns-clause-extensions g c b chunks ldes E =
    extensions_granted (scheme g.F.RingCore.ring g.F.FieldCore.inv g.F.TwoAdicCore.root g.F.FieldCore.GENERATOR g.F.TwoAdicCore.TWO_ADICITY b)
    g.met.F.RingCore.ring_laws g.met.F.FieldCore.field_laws g.met.F.TwoAdicCore.root_laws chunks ldes E

pub returns-clause-quotient : goal.returns-clause-quotient
returns-clause-quotient g c b d rows parts fits size short =
    quotient_granted (scheme g.F.RingCore.ring g.F.FieldCore.inv g.F.TwoAdicCore.root g.F.FieldCore.GENERATOR g.F.TwoAdicCore.TWO_ADICITY b) d rows parts fits size short

pub returns-clause-open : goal.returns-clause-open
returns-clause-open g c requests all = open_granted requests all
