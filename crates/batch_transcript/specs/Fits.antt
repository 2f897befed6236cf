-- When what statement and proof give fits a shape.
use Rattle.std.specs.Prelude.{◌≡◌, length, map, is_some}
use Rattle.batch_transcript.specs.BatchScript.{BatchShapeData, Given, is_positive}

-- there is a value for each step of the shape
pub record FitsShape {F E M : Type 0} (s : BatchShapeData) (g : Given F E M) : Type 0 where
  pub degree_bits : length g.degree_bits ≡ length s.trace_widths
  pub publics : map length g.publics ≡ s.public_value_counts
  pub preprocessed : is_some g.preprocessed ≡ s.has_preprocessed_commitment
  pub permutation : is_some g.permutation ≡ is_positive s.num_lookup_instances
  pub terminals : length g.terminals ≡ s.num_lookup_instances
  pub randomization : is_some g.randomization ≡ s.has_randomization_commitment
