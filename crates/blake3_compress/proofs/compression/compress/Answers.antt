use Rattle.std.proofs.Common.{refl, ◌∙◌}
use Rattle.blake3_compress.specs.Compress.{first_state, output_of, compress}
use Rattle.blake3_compress.specs.TraceRow.{state}
use Rattle.blake3_compress.specs.Generated.{input_of}
use Rattle.blake3_compress.specs.Laws.Compress.{output_is_compressed}
use Rattle.blake3_compress.specs.Laws.State.{same_output}
use Rattle.blake3_compress.proofs.compression.compress.Goals as goal

pub returns : goal.returns
returns c =
    let x = input_of c.args.words.now in
    let v = state x 28 in
    let first = c.first_words-first.ensures in
    let last = c.last_state-last.ensures x (λ i lt. refl) first in
    c.four_groups.ensures (output_of x v)
    (c.xor_words.ensures (v 0) (v 2) last.rows0 last.rows2) (c.xor_words-2.ensures (v 1) (v 3) last.rows1 last.rows3)
    (c.xor_words-3.ensures (v 2) (first_state x 0) last.rows2 first.rows0) (c.xor_words-4.ensures (v 3) (first_state x 1) last.rows3 first.rows1)
    ∙ same_output (output_of x v) (compress x) (output_is_compressed x)
