use Rattle.std.proofs.Common.{◌≡◌, map, take}
use Rattle.std.specs.Prelude.{option_map}
use Rattle.std.specs.List.{filter_map}
use Rattle.verifier_draws.proofs.terminals.terminals_there.Given as goal

abbrev pub invariant-loop-terminal : goal.invariant-loop-terminal
invariant-loop-terminal g l = l.values.items ≡ filter_map (λ t. t) (map (option_map (λ t. t.0)) (take l.terminal-index l.terminals))
