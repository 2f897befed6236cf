use Rattle.p3_lookup.specs.Laws.Messages.{balance_sums}
use Rattle.p3_lookup.proofs.meanings.balanced_terminals_vanish.Goals as goal

pub returns : goal.returns
returns g c senders balanced base beta =
    balance_sums g.F.RingCore.ring g.met.F.RingCore.ring_laws g.F.PartialEq.eq g.met.F.FieldCore.eq_same g.met.F.FieldCore.same_eq
    g.EF.RingCore.ring g.met.EF.RingCore.ring_laws g.EF.FieldCore.inv g.EF.ExtensionField.embed g.met.EF.ExtensionField.embed_laws base beta senders balanced
