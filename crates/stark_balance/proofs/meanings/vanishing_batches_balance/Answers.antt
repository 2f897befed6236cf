use Rattle.p3_field.specs.Laws.TwoAdic.{decide_by}
use Rattle.stark_balance.specs.Laws.Batch.{balance_unless_unlucky}
use Rattle.stark_balance.proofs.meanings.vanishing_batches_balance.Goals as goal

pub returns : goal.returns
returns g c base beta senders terminals =
    let dec = decide_by g.EF.PartialEq.eq g.met.EF.FieldCore.eq_same g.met.EF.FieldCore.same_eq in
    let dec_below = decide_by g.F.PartialEq.eq g.met.F.FieldCore.eq_same g.met.F.FieldCore.same_eq in
    balance_unless_unlucky g.F.RingCore.ring g.met.F.RingCore.ring_laws g.F.PartialEq.eq g.met.F.FieldCore.eq_same g.met.F.FieldCore.same_eq dec_below
    g.EF.RingCore.ring g.met.EF.RingCore.ring_laws g.EF.FieldCore.inv g.met.EF.FieldCore.field_laws dec g.EF.ExtensionField.embed g.met.EF.ExtensionField.embed_laws base beta senders terminals
