use Rattle.std.proofs.Common.{◌≡◌, map, take}
use Rattle.tool_jobs.specs.Jobs.{read_table}
use Rattle.tool_jobs.specs.Stated.{statement_of}
use Rattle.tool_jobs.proofs.job.all_statements.Given as goal

abbrev pub invariant-loop-table : goal.invariant-loop-table
invariant-loop-table l = l.statements.items ≡ map statement_of (map read_table (take l.table-index l.job))
