use Rattle.std.proofs.Common.{◌≡◌, length}
use Rattle.std.specs.Prelude.{All}
use Rattle.cases_air.specs.Taken.{IsSendableByColumn}
use Rattle.cases_air.proofs.lookups.lookup_of.Given as goal

abbrev pub invariant-loop-i : goal.invariant-loop-i
invariant-loop-i l = record {
  counted : length l.multiplicities.items ≡ length l.elements.items;
  tuples : All (λ v. All IsSendableByColumn v.items) l.elements.items;
  counts : All (λ c. IsSendableByColumn c.value) l.multiplicities.items;
}
