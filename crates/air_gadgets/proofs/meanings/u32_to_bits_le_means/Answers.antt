use Rattle.air_gadgets.specs.Laws.Words.{bits_mean}
use Rattle.air_gadgets.proofs.meanings.u32_to_bits_le_means.Goals as goal

pub returns : goal.returns
returns c w h = bits_mean w h
