use Rattle.std.proofs.Common.{List}
use Rattle.std.proofs.lemmas.Result.{IfOk-weaker}
use Rattle.p3_lookup.specs.Lookup.{LookupData, lookups_of}
use Rattle.p3_lookup.specs.Written.{read_all}
use Rattle.batch_constraints.specs.Sizing.{table_log_chunks}
use Rattle.tool_shaped.proofs.Turns.{value_moved}
use Rattle.tool_shaped.proofs.room.own_log_chunks.Goals as goal

pub returns : goal.returns
returns g c =
    IfOk-weaker c.log_chunks_over.result _ _
    (value_moved (λ (ls : List (LookupData g.row.F.Denot)). table_log_chunks g.F.RingCore.ring (g.A.BaseAir.declaration c.args.air.now) (g.A.Air.trees c.args.air.now) 0 0 c.args.rows ls)
    (read_all c.in_ok-lookups.lookups) (lookups_of (g.A.Air.interactions c.args.air.now)) c.in_ok-lookups.ensures.own)
    c.log_chunks_over.ensures
