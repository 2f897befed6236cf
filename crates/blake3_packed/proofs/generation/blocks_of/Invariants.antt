use Rattle.std.proofs.Common.{◌≡◌, ℕ, ◌+◌, ◌*◌, ◌<◌, ◌≤◌, List, ◌++◌, length}
use Rattle.std.specs.Slice.Iter.{chunks_rest, chunks_size}
use Rattle.blake3_binary.specs.declared.input.Blake3CompressionInput.{Blake3CompressionInput}
use Rattle.blake3_packed.specs.Blocks.{AreBlocks}
use Rattle.blake3_packed.proofs.generation.blocks_of.Given as goal

-- the inputs whose blocks stand, and those that are left
pub record AreDone (inputs rest : List Blake3CompressionInput) (values : List ℕ) : Type 0 where
  pub done : List Blake3CompressionInput
  pub n : ℕ
  pub parts : inputs ≡ done ++ rest
  pub whole : 0 < length rest → length done ≡ 64 * n
  pub most : length done ≤ 64 * n
  pub least : 64 * n < length done + 64
  pub stand : AreBlocks inputs n values

abbrev pub invariant-loop-block : goal.invariant-loop-block
invariant-loop-block l =
    goal.iterator-loop-block.can_next l.block-iterator
    × goal.iterator-loop-block.is_finite l.block-iterator
    × (chunks_size l.block-iterator ≡ 64)
    × AreDone l.inputs (chunks_rest l.block-iterator) l.values.items
