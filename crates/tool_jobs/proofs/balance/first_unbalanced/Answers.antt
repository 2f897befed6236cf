use Rattle.std.proofs.Common.{List, rules, sym, subst}
use Rattle.std.specs.List.Sorted.{IsNonDecreasingBy, IsPermutation}
use Rattle.std.proofs.lemmas.List.Sorted.{IsNonDecreasingBy-from_sort_by_key}
use Rattle.tool_jobs.specs.Jobs.{read_tables}
use Rattle.tool_jobs.specs.declared.balance.Tally.{Tally}
use Rattle.tool_jobs.proofs.Counted.{answered-none, answered-some}
use Rattle.tool_jobs.proofs.balance.first_unbalanced.Goals as goal

pub first_unequal-requires : goal.first_unequal-requires
first_unequal-requires c =
    subst (λ (l : List Tally). IsNonDecreasingBy (λ t. t.number) l) (sym c.deref.ensures.value)
    (IsNonDecreasingBy-from_sort_by_key (λ t. t.number) _ c.sort_unstable_by_key.ensures.sorted (λ a r q k. search rules))

pub returns-in-None : goal.returns-in-None
returns-in-None c =
    answered-none (read_tables c.args.job.now) c.deref.result.now
    (subst (λ (l : List Tally). IsPermutation l c.deref.result.now) c.in_ok-tallies.ensures
    (subst (λ (l : List Tally). IsPermutation c.in_ok-tallies.tallies.items l) (sym c.deref.ensures.value) c.sort_unstable_by_key.ensures.permutation))
    c.in-None.ensures

pub returns : goal.returns
returns c =
    answered-some (read_tables c.args.job.now) c.deref.result.now
    (subst (λ (l : List Tally). IsPermutation l c.deref.result.now) c.in_ok-tallies.ensures
    (subst (λ (l : List Tally). IsPermutation c.in_ok-tallies.tallies.items l) (sym c.deref.ensures.value) c.sort_unstable_by_key.ensures.permutation))
    c.in-Some.number c.from_u64.result c.in-Some.ensures c.from_u64.ensures
