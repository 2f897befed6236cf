use Rattle.p3_field.specs.Laws.TwoAdic.{decide_by}
use Rattle.law_committed.proofs.fields.fields_have_laws.Goals as goal

pub returns : goal.returns
returns g c = record {
  below = g.met.F.RingCore.ring_laws;
  below_field = g.met.F.FieldCore.field_laws;
  below_decided = decide_by _ g.met.F.FieldCore.eq_same g.met.F.FieldCore.same_eq;
  roots = g.met.F.TwoAdicCore.root_laws;
  above = g.met.EF.RingCore.ring_laws;
  above_field = g.met.EF.FieldCore.field_laws;
  above_decided = decide_by _ g.met.EF.FieldCore.eq_same g.met.EF.FieldCore.same_eq;
  embeds = g.met.EF.ExtensionField.embed_laws;
  vector = g.met.EF.BasedVectorSpace.vector_laws;
  spans = g.met.EF.ExtensionField.basis_laws;
}
