use Rattle.std.proofs.Common.{◌≡◌, map, take}
use Rattle.std.specs.Prelude.{zip}
use Rattle.commit_core.specs.Laws.OneItem.{matrix_in}
use Rattle.example_commit.specs.Rounds.{claim_of_matrix}
use Rattle.example_commit.proofs.rounds.claims_on.Given as goal

abbrev pub invariant-loop-index : goal.invariant-loop-index
invariant-loop-index g l = l.matrices.items ≡ map claim_of_matrix (take l.index (zip l.domains (zip (map (λ v. v.items) l.points) (map matrix_in l.values))))
