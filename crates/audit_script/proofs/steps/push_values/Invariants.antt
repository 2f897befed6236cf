use Rattle.std.proofs.Common.{◌≡◌, ◌++◌, map, take}
use Rattle.audit_script.specs.Steps.{spaced_numbers}
use Rattle.audit_script.proofs.steps.push_values.Given as goal

abbrev pub invariant-loop-value : goal.invariant-loop-value
invariant-loop-value g l = l.out.items ≡ l.initial.out.items ++ spaced_numbers (map g.F.PrimeCore64.canonical (take l.value-index l.values))
