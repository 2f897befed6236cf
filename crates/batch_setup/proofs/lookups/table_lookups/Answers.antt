use Rattle.std.proofs.Common.{◌≡◌, ℕ, ◌+◌, ◌-◌, ◌^◌, ◌<◌, ◌≤◌, min, ap, subst, arith}
use Rattle.air_core.specs.Degree.{capped_sum}
use Rattle.p3_field.specs.Checks.{NoneFails}
use Rattle.batch_setup.specs.Packed.{Source, source_of, log_chunks_with, own_budget, packed_log_chunks, limit_checks}
use Rattle.batch_setup.specs.Verdict.{IsSetupRefusal}
use Rattle.batch_setup.specs.Laws.Verdicts.{exits, none_same, refusal_same}
use Rattle.batch_setup.specs.declared.error.SetupError.{SetupError}
use Rattle.batch_setup.specs.declared.error.SetupError.TheVariants.{LookupBudget}
use Rattle.batch_setup.proofs.lookups.table_lookups.Goals as goal

-- the budget that is asked for is above the table's own exactly where it is above what usize counts of that
module _ (E : Type 0) (masks blowup i asked own whole k n : ℕ) (fits : asked ≤ 2 ^ 64 - 1) (o : own ≡ min whole (2 ^ 64 - 1)) (q : k ≡ n) where
  refused_so : (e : SetupError E) → IsSetupRefusal (limit_checks masks blowup i own asked k) e → IsSetupRefusal (limit_checks masks blowup i whole asked n) e
  refused_so e v =
      subst (λ m. IsSetupRefusal (limit_checks masks blowup i whole asked m) e) q
      (refusal_same (LookupBudget i (capped_sum k masks) blowup) (own < asked → k + masks ≤ blowup) (whole < asked → k + masks ≤ blowup) e (λ f h. f (omega (arith, o, h, fits))) v)

  none_so : NoneFails (limit_checks {E = E} masks blowup i own asked k) → NoneFails (limit_checks {E = E} masks blowup i whole asked n)
  none_so v =
      subst (λ m. NoneFails (limit_checks {E = E} masks blowup i whole asked m)) q
      (none_same (LookupBudget i (capped_sum k masks) blowup) (own < asked → k + masks ≤ blowup) (whole < asked → k + masks ≤ blowup) (λ f h. f (omega (arith, o, h))) v)

pub returns-in_err-check_budget-clause-verdict : goal.returns-in_err-check_budget-clause-verdict
returns-in_err-check_budget-clause-verdict g c =
    let a = c.args in
    let r = g.F.RingCore.ring in
    let s : Source g.row.F.Denot = source_of g.A.BaseAir.declaration g.A.Air.trees g.A.Air.interactions a.air.now in
    let fits : a.asked ≤ 2 ^ 64 - 1 = omega arith in
    exits _ _ _ c.from_residual-in_err-check_budget.ensures.1
    (refused_so g.row.E.Denot a.masks a.log_blowup a.instance a.asked c.in_ok-packed.own (own_budget r a.masks a.bits s) _ (packed_log_chunks r a.masks a.bits a.asked s) fits
    c.in_ok-packed.ensures.budget (ap (log_chunks_with r a.masks a.bits s) c.in_ok-packed.ensures.lookups) _ c.in_err-check_budget.ensures)

pub returns-clause-verdict : goal.returns-clause-verdict
returns-clause-verdict g c =
    let a = c.args in
    let r = g.F.RingCore.ring in
    let s : Source g.row.F.Denot = source_of g.A.BaseAir.declaration g.A.Air.trees g.A.Air.interactions a.air.now in
    let fits : a.asked ≤ 2 ^ 64 - 1 = omega arith in
    none_so g.row.E.Denot a.masks a.log_blowup a.instance a.asked c.in_ok-packed.own (own_budget r a.masks a.bits s) _ (packed_log_chunks r a.masks a.bits a.asked s) fits
    c.in_ok-packed.ensures.budget (ap (log_chunks_with r a.masks a.bits s) c.in_ok-packed.ensures.lookups) c.in_ok-check_budget.ensures
