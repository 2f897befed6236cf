use Rattle.std.proofs.Common.{◌≡◌, map, take}
use Rattle.example_commit.specs.Rounds.{request_of}
use Rattle.example_commit.proofs.rounds.requests.Given as goal

abbrev pub invariant-loop-round : goal.invariant-loop-round
invariant-loop-round g l = l.requests.items ≡ map request_of (take l.round-index l.prover_rounds)
