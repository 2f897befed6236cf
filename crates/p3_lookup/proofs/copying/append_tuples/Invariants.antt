use Rattle.std.proofs.Common.{◌≡◌, ◌++◌, map, take}
use Rattle.p3_lookup.proofs.copying.append_tuples.Given as goal

abbrev pub invariant-loop-tuple : goal.invariant-loop-tuple
invariant-loop-tuple g l = map (λ v. v.items) l.tuples.items ≡ map (λ v. v.items) l.initial.tuples.items ++ map (λ v. v.items) (take l.tuple-index l.more)
