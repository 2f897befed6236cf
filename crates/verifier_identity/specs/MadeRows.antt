-- The rows of a table that a verifier makes of what is opened. After Plonky3's p3-batch-stark (verify_batch).
use Rattle.std.specs.Prelude.{◌≡◌, ℕ, [], map, replicate}
use Rattle.p3_field.specs.Domain.{CosetData}
use Rattle.p3_field.specs.Field.{TwoAdic, Extension}
use Rattle.air_core.specs.Shape.{Declaration, width_of}
use Rattle.verifier_identity.specs.OpenedRows.{recombined_row}
use Rattle.verifier_identity.specs.PeriodicValues.{periodic_value}
use Rattle.batch_statement.specs.Proof.{OpenedWithLookups}
use Rattle.verifier_identity.specs.declared.made_rows.MadeRows.{MadeRows}
use Rattle.verifier_identity.specs.TableIdentity.{permutation_column_count}

-- these were made of what is opened of a table that declares d and has so many lookups: zeros where no next column is declared
pub record AreMade {F E : Type 0} (f : TwoAdic F) (e : Extension F E) (domain : CosetData F) (d : Declaration F) (lookups : ℕ) (zeta : E) (o : OpenedWithLookups E) (m : MadeRows E) : Type 0 where
  pub trace : d.main_next ≡ [] → m.trace_zeros.items ≡ replicate d.width e.ring.zero
  pub preprocessed : d.preprocessed_next ≡ [] → m.preprocessed_zeros.items ≡ replicate (width_of d.preprocessed) e.ring.zero
  pub periodic : m.periodic.items ≡ map (periodic_value f e domain zeta) d.periodic
  pub permutation_local : m.permutation_local.items ≡ recombined_row e o.permutation_local (permutation_column_count lookups)
  pub permutation_next : m.permutation_next.items ≡ recombined_row e o.permutation_next (permutation_column_count lookups)
