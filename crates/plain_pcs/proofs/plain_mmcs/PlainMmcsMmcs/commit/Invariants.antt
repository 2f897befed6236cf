use Rattle.std.proofs.Common.{◌≡◌, take}
use Rattle.plain_pcs.proofs.plain_mmcs.PlainMmcsMmcs.commit.Given as goal

abbrev pub invariant-loop-m : goal.invariant-loop-m
invariant-loop-m g l = l.commitment.items ≡ take l.m-index l.fn.inputs.items
