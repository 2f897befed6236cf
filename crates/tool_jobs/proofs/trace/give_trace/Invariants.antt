use Rattle.std.proofs.Common.{◌≡◌, map, take}
use Rattle.std.specs.List.{flat_map}
use Rattle.p3_field.specs.BabyBear.{baby_bear_ring}
use Rattle.law_tool_valid.specs.Job.{give_row}
use Rattle.tool_jobs.specs.Jobs.{read_given}
use Rattle.tool_jobs.proofs.trace.give_trace.Given as goal

abbrev pub invariant-loop-given : goal.invariant-loop-given
invariant-loop-given l = l.values.items ≡ flat_map (give_row baby_bear_ring) (map read_given (take l.given-index l.words))
