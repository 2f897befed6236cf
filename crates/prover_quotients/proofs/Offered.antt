-- The domain that is offered for a quotient.
use Rattle.std.proofs.Common.{◌≡◌, ℕ, ◌+◌, ◌^◌, ◌≤◌, arith}
use Rattle.p3_field.specs.Domain.{CosetData}
use Rattle.p3_field.specs.Ring.{Ring}
use Rattle.p3_matrix.specs.Laws.Powers.{power_le_cancel}
use Rattle.commit_core.specs.Space.{IsOffered}
use Rattle.batch_config.specs.Domains.{offered}

-- that with 2^k times as many points
pub offered_is : {F : Type 0} (r : Ring F) (generator : F) (d : CosetData F) (k m : ℕ) (e : CosetData F) → m ≡ 2 ^ (d.log_size + k) → IsOffered r generator d m e → e ≡ offered r generator d k
offered_is r generator d k m e size o =
    let low : d.log_size + k ≤ e.log_size = power_le_cancel (d.log_size + k) e.log_size (let n = o.enough in omega (arith, n, size)) in
    let high : e.log_size ≤ d.log_size + k = o.least (d.log_size + k) (omega (arith, size)) in
    let same : e.log_size ≡ d.log_size + k = omega (arith, low, high) in
    λ j. record { shift = o.shift_is j; log_size = same j }
