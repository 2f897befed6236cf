use Rattle.tool_hash_lines.proofs.Appending.{line_made}
use Rattle.tool_hash_lines.proofs.text.push_words.Goals as goal

pub returns : goal.returns
returns c =
    line_made c.args.words.now c.args.text.now.items c.push_word.new.text.items c.loop-word.text.items c.push-2.new.self.items c.loop-word.word-index c.requires c.in_ok-push_word.ensures c.loop-word.invariant
    c.loop-word-test.false c.in_ok-push-2.ensures.items
