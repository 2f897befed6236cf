use Rattle.batch_transcript.specs.Laws.Equality.{shape_eq-tells}
use Rattle.batch_transcript.specs.Laws.Shapes.{tells-shapes}
use Rattle.batch_transcript.proofs.meanings.shapes_are_told.Goals as goal

pub returns : goal.returns
returns c = record { told = tells-shapes; equality = shape_eq-tells }
