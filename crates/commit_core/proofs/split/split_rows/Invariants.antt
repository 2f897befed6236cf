use Rattle.commit_core.specs.Space.{IsSplit, EachOf}
use Rattle.commit_core.proofs.split.split_rows.Given as goal

abbrev pub invariant-loop-i : goal.invariant-loop-i
invariant-loop-i g l = EachOf l.i l.parts.items (IsSplit l.m l.num_chunks)
