use Rattle.blake3_compress.specs.Laws.Compress.{states_are_rounds, output_is_compressed}
use Rattle.blake3_compress.proofs.meanings.half_rounds_are_rounds.Goals as goal

pub returns : goal.returns
returns c = record { states = states_are_rounds; output = output_is_compressed }
