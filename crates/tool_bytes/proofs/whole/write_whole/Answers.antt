use Rattle.std.proofs.Common.{arith}
use Rattle.std.proofs.lemmas.Grind.{common_steps}
use Rattle.tool_bytes.proofs.Bytes.{write-step}
use Rattle.tool_bytes.proofs.whole.write_whole.Goals as goal

pub loop-rest-preserved : goal.loop-rest-preserved
loop-rest-preserved g c =
    let h = c.loop-rest.invariant.rest in
    let s = write-step c.args.text.now c.loop-rest.rest.now _ _ (g.K.Sink.written c.write.new.self) h.0 c.in_ok-n.n h.1 h.2 h.3 c.in_ok-n.ensures.bound c.in_ok-n.ensures.bytes in
    record {
      rest = (s.0, s.1, grind (arith, common_steps, s.2), s.3);
      kept = grind (arith, common_steps);
    }
