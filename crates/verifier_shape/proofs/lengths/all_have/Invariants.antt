use Rattle.std.proofs.Common.{◌≡◌, ℕ, ◌<◌, length, map, [], get_or}
use Rattle.verifier_shape.proofs.lengths.all_have.Given as goal

abbrev pub invariant-loop-list : goal.invariant-loop-list
invariant-loop-list g l = (k : ℕ) → k < l.list-index → length (get_or (map (λ v. v.items) l.lists) k []) ≡ l.values
