use Rattle.std.proofs.Common.{◌≡◌, take}
use Rattle.air_core.specs.Recording.{sent_at}
use Rattle.p3_lookup.specs.Lookup.{lookups_of}
use Rattle.p3_lookup.specs.Written.{read_all}
use Rattle.p3_lookup.proofs.from_air.lookups_in.Given as goal

abbrev pub invariant-loop-index : goal.invariant-loop-index
invariant-loop-index g l = read_all l.lookups.items ≡ lookups_of (sent_at l.builder.nodes (take l.index l.builder.interactions))
