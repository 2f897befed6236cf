use Rattle.std.proofs.Common.{◌≡◌, ◌+◌, ◌*◌, ◌/◌, length, map}
use Rattle.std.specs.Prelude.{slice_range}
use Rattle.p3_field.specs.Poly.{tabulate}
use Rattle.p3_lookup.proofs.from_air.tuples_of.Given as goal

abbrev pub invariant-loop-k : goal.invariant-loop-k
invariant-loop-k g l = map (λ t. t.items) l.tuples.items ≡ tabulate l.k (λ k. slice_range l.fields (k * (length l.fields / l.count)) (k * (length l.fields / l.count) + length l.fields / l.count))
