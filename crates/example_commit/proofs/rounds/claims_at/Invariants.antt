use Rattle.std.proofs.Common.{◌≡◌, map, take}
use Rattle.std.specs.Prelude.{zip}
use Rattle.example_commit.specs.Rounds.{claim_at}
use Rattle.example_commit.proofs.rounds.claims_at.Given as goal

abbrev pub invariant-loop-index : goal.invariant-loop-index
invariant-loop-index g l = l.claims.items ≡ map claim_at (take l.index (zip l.points (map (λ v. v.items) l.values)))
