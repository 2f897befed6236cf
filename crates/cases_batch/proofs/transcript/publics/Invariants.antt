use Rattle.std.proofs.Common.{◌≡◌, map, take, length}
use Rattle.cases_batch.proofs.transcript.publics.Given as goal

abbrev pub invariant-loop-count : goal.invariant-loop-count
invariant-loop-count l = map length (map (λ v. v.items) l.publics.items) ≡ take l.count-index l.counts
