use Rattle.blake3_binary.specs.Laws.Pushing.{bit_of_carries}
use Rattle.blake3_binary.proofs.generation.carry_word.Goals as goal

pub returns : goal.returns
returns c i lt = bit_of_carries c.args.a c.args.b i lt
