use Rattle.p3_uni_stark.specs.Laws.Parts.{parts_all_disjoint}
use Rattle.p3_uni_stark.proofs.uniqueness.split_domains_are_disjoint.Goals as goal

pub returns : goal.returns
returns g c whole n parts shift fits each =
    parts_all_disjoint (record { ring = g.F.RingCore.ring; inv = g.F.FieldCore.inv; root = g.F.TwoAdicCore.root; generator = g.F.FieldCore.GENERATOR })
    g.met.F.RingCore.ring_laws g.met.F.FieldCore.field_laws g.F.TwoAdicCore.TWO_ADICITY g.met.F.TwoAdicCore.root_laws whole shift fits n parts each
