use Rattle.std.proofs.Common.{◌≡◌, map, take}
use Rattle.example_commit.proofs.rounds.copied.Given as goal

abbrev pub invariant-loop-list : goal.invariant-loop-list
invariant-loop-list g l = map (λ v. v.items) l.copies.items ≡ map (λ v. v.items) (take l.list-index l.points)
