use Rattle.std.proofs.Common.{◌+◌, ◌*◌, get_or, sym, subst, arith}
use Rattle.blake3_binary.specs.Rows.{compression_words}
use Rattle.blake3_packed.specs.Inputs.{IsPair}
use Rattle.blake3_packed.specs.Laws.Inputs.{block_word}
use Rattle.blake3_packed.proofs.inputs.pair_at.Goals as goal

pub returns-then-p-lt8 : goal.returns-then-p-lt8
returns-then-p-lt8 c =
    let e = sym (block_word c.args.input.now (2 * c.args.p) (omega arith)) in
    let f = sym (block_word c.args.input.now (2 * c.args.p + 1) (omega arith)) in
    subst (λ m. IsPair c.paired.result m (get_or (compression_words c.args.input.now) (2 * c.args.p + 1) 0)) e
    (subst (λ m. IsPair c.paired.result (get_or c.args.input.now.block (2 * c.args.p) 0) m) f c.paired.ensures)
