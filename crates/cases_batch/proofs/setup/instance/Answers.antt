use Rattle.std.proofs.Common.{◌≡◌, ℕ, ◌+◌, ◌-◌, ◌≤◌, [], sym, ◌∙◌, ap, arith}
use Rattle.std.proofs.lemmas.List.Elements.{All-nil, All-cons}
use Rattle.p3_matrix.specs.Matrix.{height}
use Rattle.plain_pcs.specs.Scheme.{Blowup}
use Rattle.batch_setup.specs.Setup.{log_of}
use Rattle.batch_setup.specs.Laws.Logarithms.{log_of_power}
use Rattle.cases_batch.proofs.setup.instance.Goals as goal

pub from_instances-requires-clause-bits : goal.from_instances-requires-clause-bits
from_instances-requires-clause-bits c =
    let rows = height c.in_ok-trace.trace in
    let two : rows ≡ 2 = sym c.height.ensures.result ∙ c.if-height-ne2.false in
    let one : log_of rows ≡ 1 = log_of_power rows 1 two in
    let blowup : c.tool_config.result.pcs.log_blowup ≡ 1 = ap (λ (b : Blowup). b.log_blowup) c.tool_config.ensures.scheme in
    let small : log_of rows + 0 ≤ 27 - c.tool_config.result.pcs.log_blowup = omega (arith, one, blowup) in
    let within : ℕ → Type 0 = λ b. (0 ≤ b) × (b ≤ 27 - c.tool_config.result.pcs.log_blowup) in
    λ i lt. All-cons within (log_of rows + 0) [] (omega arith, small) (All-nil within) i 0 lt
