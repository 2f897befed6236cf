use Rattle.std.proofs.Common.{◌≡◌, [], replicate}
use Rattle.batch_statement.proofs.common.empty_lookups.Given as goal

abbrev pub invariant-loop-i : goal.invariant-loop-i
invariant-loop-i g l = l.lookups.items ≡ replicate l._i []
