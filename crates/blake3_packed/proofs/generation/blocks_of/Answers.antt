use Rattle.std.proofs.Common.{◌≡◌, ◌+◌, [], ◌++◌, length, min, refl, sym, ap, ◌∙◌, arith, rules, length-append, append_assoc}
use Rattle.std.specs.Slice.Iter.{chunks_rest}
use Rattle.blake3_packed.specs.PackedRows.{packed_height}
use Rattle.blake3_packed.specs.Laws.Blocks.{same_compression, same_presence, no_block, block_more, blocks_at}
use Rattle.blake3_packed.proofs.generation.blocks_of.Goals as goal

pub loop-block-init : goal.loop-block-init
loop-block-init c =
    let all : chunks_rest c.into_iter-block-iterator.result ≡ c.args.inputs.now = search rules in (
      search rules,
      tt,
      search rules,
      record {
        done = [];
        n = 0;
        parts = sym all;
        whole = λ _. refl;
        most = omega arith;
        least = omega arith;
        stand = no_block c.args.inputs.now _ (ap length c.in_ok-values.ensures.items);
      },
    )

pub loop-block-preserved : goal.loop-block-preserved
loop-block-preserved c =
    let inputs = c.args.inputs.now in
    let size = c.loop-block.invariant.2 in
    let I = c.loop-block.invariant.3 in
    let block = c.in-Some.block.now in
    let rest = chunks_rest c.next.new.self in
    let steps = c.in-Some.ensures.steps in
    let whole = I.whole steps.1.2 in
    let split = steps.1.0 in
    let parts = I.parts ∙ ap (λ xs. I.done ++ xs) split in
    let long : length block ≡ min 64 (length (block ++ rest)) = rw (size, split) at steps.1.1 in
    let both = length-append I.done block in
    let left = length-append block rest in (
      search rules,
      tt,
      steps.0 ∙ size,
      record {
        done = I.done ++ block;
        n = I.n + 1;
        parts = parts ∙ sym (append_assoc I.done block rest);
        whole = λ more. omega (arith, both, whole, long, left, more);
        most = omega (arith, both, whole, long);
        least = omega (arith, both, whole, long, left);
        stand = block_more inputs block I.n c.loop-block.values.items _ I.stand c.in_ok-push_block.ensures
            (same_compression inputs I.done block rest I.n parts whole long) (same_presence inputs I.done block rest I.n parts whole long);
      },
    )

pub returns : goal.returns
returns c =
    let inputs = c.args.inputs.now in
    let I = c.loop-block.invariant.3 in
    let none = c.in-None.ensures.steps.1.0 in
    let all : length inputs ≡ length I.done + length (chunks_rest c.loop-block.block-iterator) = ap length I.parts ∙ length-append I.done _ in
    let height : I.n ≡ packed_height (length inputs) = omega (arith, all, none, I.most, I.least) in
    blocks_at inputs I.n (packed_height (length inputs)) _ height I.stand
