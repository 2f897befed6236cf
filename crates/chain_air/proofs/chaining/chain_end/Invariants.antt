use Rattle.std.proofs.Common.{◌≡◌}
use Rattle.chain_air.specs.Generated.{chaining_before}
use Rattle.chain_air.proofs.chaining.chain_end.Given as goal

abbrev pub invariant-loop-i : goal.invariant-loop-i
invariant-loop-i l = l.chaining ≡ chaining_before l.fn.start l.blocks l.i
