use Rattle.std.proofs.Common.{◌<◌}
use Rattle.cases_chain.proofs.chains.fingerprint.Given as goal

abbrev pub invariant-loop-cell : goal.invariant-loop-cell
invariant-loop-cell l = l.sum.0 < 2013265921
