use Rattle.p3_lookup.specs.Laws.PermutationRows.{generated_vanish}
use Rattle.p3_lookup.proofs.meanings.generated_rows_vanish.Goals as goal

pub returns : goal.returns
returns g c table lookups challenges =
    generated_vanish g.F.RingCore.ring g.met.F.RingCore.ring_laws g.EF.RingCore.ring g.met.EF.RingCore.ring_laws g.EF.FieldCore.inv g.met.EF.FieldCore.field_laws
    g.EF.ExtensionField.embed g.met.EF.ExtensionField.embed_laws table lookups challenges
