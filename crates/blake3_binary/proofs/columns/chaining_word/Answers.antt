use Rattle.std.proofs.Common.{◌*◌}
use Rattle.blake3_binary.specs.Laws.Output.{same_counted}
use Rattle.blake3_binary.proofs.columns.chaining_word.Goals as goal

pub returns : goal.returns
returns g c = record {
  words = λ x d1 b1 d2 b2 h.
      let w = h.chain c.args.i c.requires.words in
      c.word_at.ensures.word _ w;
  counted = λ x d1 b1 d2 b2 h.
      same_counted g.F.RingCore.ring c.args.row.now (32 * c.args.i) _ _ c.word_at.ensures.counted (h.chain c.args.i c.requires.words);
}
