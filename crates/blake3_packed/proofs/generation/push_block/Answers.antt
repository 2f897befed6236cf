use Rattle.std.proofs.Common.{◌+◌, ◌++◌, length, arith}
use Rattle.std.specs.Int.{bit_at}
use Rattle.blake3_compress.specs.TraceRow.{bit_cells}
use Rattle.blake3_binary.specs.Rows.{compression}
use Rattle.blake3_binary.specs.Trees.{laid}
use Rattle.blake3_packed.specs.States.{presence, lane_half, lane_cells}
use Rattle.blake3_packed.specs.Laws.Lanes.{pushed_both, pushed_same}
use Rattle.blake3_packed.specs.Laws.States.{cells_are}
use Rattle.blake3_packed.proofs.generation.push_block.Goals as goal

pub returns : goal.returns
returns c =
    let block = c.args.block.now in
    let x = compression block in
    let hw = c.word_planes-words.ensures in
    let lanes = c.present_lanes.result in
    let one = c.in_ok-push_words.ensures x hw in
    let two = c.in_ok-push_words-2.ensures x hw in
    let three = c.in_ok-push_words-3.ensures x hw in
    let steps = c.in_ok-push_steps.ensures x (bit_at lanes) hw (c.first_planes-first.ensures x hw) in
    pushed_same 11536 11536
    (λ j. bit_cells 8 (λ i. x j (16 + i)) ++ bit_cells 16 (λ i. x j (0 + i)) ++ bit_cells 4 (λ i. x j (24 + i)) ++ laid (lane_half (x j) (bit_at lanes j)))
    (λ j. lane_cells (x j) (presence (length block) j)) (omega arith)
    (λ j lj. cells_are (x j) (bit_at lanes j) (presence (length block) j) (c.present_lanes.ensures j lj))
    (pushed_both (pushed_both (pushed_both one two) three) steps)
