use Rattle.std.proofs.Common.{◌≡◌, length, All}
use Rattle.cases_commit.proofs.shapes.quotient.Given as goal

abbrev pub invariant-loop-part : goal.invariant-loop-part
invariant-loop-part l = All (λ c. length c.items ≡ 4) l.chunks.items
