use Rattle.std.proofs.Common.{rules, arith}
use Rattle.std.proofs.lemmas.Grind.{common_steps}
use Rattle.tool_bytes.proofs.memory.MemorySinkSink.write.Goals as goal
use Rattle.tool_bytes.proofs.memory.MemorySinkSink.write.Goals.{then-count-eq0-via-then-count-eq0, then-count-eq0-via-else-count-eq0+then-contains}

pub returns-then-count-eq0-clause-call : goal.returns-then-count-eq0-clause-call
returns-then-count-eq0-clause-call c = rw (← c.self.view_is) (record {
  calls = search rules;
  failing = search rules;
  room = search rules;
  most = search rules;
  answer = (
    λ some. elim c.then-count-eq0.branch [
      | then-count-eq0-via-then-count-eq0 w ↦ absurd (some (grind (arith, common_steps, w.if-count-eq0.true)))
      | then-count-eq0-via-else-count-eq0+then-contains w ↦ search rules
    ],
    search rules,
  );
})
