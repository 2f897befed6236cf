use Rattle.std.proofs.Common.{◌+◌, ◌<◌, ◌≤◌, subst, arith}
use Rattle.air_core.specs.Degree.{capped_sum}
use Rattle.batch_setup.specs.Packed.{limit_checks}
use Rattle.batch_setup.specs.Verdict.{IsSetUp}
use Rattle.batch_setup.specs.Laws.Verdicts.{none_here, same_answer}
use Rattle.batch_setup.specs.declared.error.SetupError.TheVariants.{LookupBudget}
use Rattle.batch_setup.proofs.lookups.check_budget.Goals as goal

pub returns-then-asked-own : goal.returns-then-asked-own
returns-then-asked-own g c = let within = c.if-asked-own.true in none_here _ _ (λ above. absurd (omega (arith, within, above)))

pub returns : goal.returns
returns g c =
    let a = c.args in
    let k = c.in_ok-log_chunks.log_chunks in
    let above : a.own < a.asked = omega arith in
    subst (λ n. IsSetUp (limit_checks {E = g.row.E.Denot} a.masks a.log_blowup a.instance a.own a.asked n) c.check_chunks.result) c.in_ok-log_chunks.ensures
    (same_answer (LookupBudget a.instance (capped_sum k a.masks) a.log_blowup) (k + a.masks ≤ a.log_blowup) (a.own < a.asked → k + a.masks ≤ a.log_blowup) c.check_chunks.result
    (λ p h. p) (λ q. q above) c.check_chunks.ensures.verdict)
