-- Budgets of zero are never above a table's own.
use Rattle.std.proofs.Common.{◌≡◌, ℕ, zero, suc, ◌+◌, ◌<◌, ◌≤◌, List, get_or, replicate, refl, arith}
use Rattle.air_core.specs.Degree.{capped_sum}
use Rattle.p3_field.specs.Checks.{NoneFails, in_turn}
use Rattle.p3_field.specs.Laws.Checks.{none_of_each}
use Rattle.p3_field.specs.Ring.{Ring}
use Rattle.batch_setup.specs.Packed.{Source, no_source, own_budget, packed_log_chunks, budget_at}
use Rattle.batch_setup.specs.Laws.Verdicts.{none_here}
use Rattle.batch_setup.specs.declared.error.SetupError.TheVariants.{LookupBudget}

each_item : (m i x : ℕ) → get_or (replicate m x) i x ≡ x
each_item zero i x = refl
each_item (suc m) zero x = refl
each_item (suc m) (suc i) x = each_item m i x

pub zeros_never_fail : {F : Type 0} (E : Type 0) (r : Ring F) (masks blowup : ℕ) (sources : List (Source F)) (bits : List ℕ) (m n : ℕ)
    → NoneFails (in_turn n (budget_at {E = E} r masks blowup sources bits (replicate m 0)))
zeros_never_fail E r masks blowup sources bits m n =
    none_of_each (budget_at {E = E} r masks blowup sources bits (replicate m 0)) n (λ i lt.
    let asked = get_or (replicate m 0) i 0 in
    let k = packed_log_chunks r masks (get_or bits i 0) asked (get_or sources i no_source) in
    none_here (LookupBudget i (capped_sum k masks) blowup) (own_budget r masks (get_or bits i 0) (get_or sources i no_source) < asked → k + masks ≤ blowup)
    (λ above. let z = each_item m i 0 in absurd (omega (arith, above, z))))
