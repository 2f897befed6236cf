use Rattle.std.proofs.Common.{◌≡◌, map, take}
use Rattle.p3_lookup.specs.Lookup.{lookups_of}
use Rattle.p3_lookup.specs.Written.{read_all}
use Rattle.batch_statement.proofs.air_widths.lookups_of_each.Given as goal

abbrev pub invariant-loop-air : goal.invariant-loop-air
invariant-loop-air g l = map read_all l.tables.items ≡ map (λ a. lookups_of (g.A.Air.interactions a)) (take l.air-index l.airs)
