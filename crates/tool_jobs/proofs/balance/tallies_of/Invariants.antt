use Rattle.std.proofs.Common.{◌≡◌, map, take}
use Rattle.std.specs.List.{flat_map}
use Rattle.tool_jobs.specs.Jobs.{read_table}
use Rattle.tool_jobs.specs.Tallies.{tallies_of}
use Rattle.tool_jobs.proofs.balance.tallies_of.Given as goal

abbrev pub invariant-loop-table : goal.invariant-loop-table
invariant-loop-table l = l.tallies.items ≡ flat_map tallies_of (map read_table (take l.table-index l.job))
