use Rattle.std.proofs.Common.{◌<◌}
use Rattle.cases_blake3.proofs.binary_rows.fingerprint.Given as goal

abbrev pub invariant-loop-cell : goal.invariant-loop-cell
invariant-loop-cell l = l.sum < 65521
