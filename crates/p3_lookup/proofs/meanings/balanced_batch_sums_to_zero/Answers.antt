use Rattle.p3_lookup.specs.Laws.Batch.{balanced_batch}
use Rattle.p3_lookup.proofs.meanings.balanced_batch_sums_to_zero.Goals as goal

pub returns : goal.returns
returns g c tables =
    balanced_batch g.F.RingCore.ring g.met.F.RingCore.ring_laws g.F.PartialEq.eq g.met.F.FieldCore.eq_same g.met.F.FieldCore.same_eq
    g.EF.RingCore.ring g.met.EF.RingCore.ring_laws g.EF.FieldCore.inv g.EF.ExtensionField.embed g.met.EF.ExtensionField.embed_laws tables
