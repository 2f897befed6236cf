use Rattle.tool_hash_lines.specs.Laws.Compressions.{line_of_compression}
use Rattle.tool_hash_lines.proofs.laws.compressions_are_printed.Goals as goal

pub returns : goal.returns
returns c = line_of_compression
