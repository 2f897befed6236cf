use Rattle.p3_field.specs.Quartic.{quartic_inv}
use Rattle.tool_hash_lines.specs.Laws.Matrices.{hash_matrices}
use Rattle.tool_hash_lines.proofs.laws.accepted_hash_matrices.Goals as goal

pub returns : goal.returns
returns c = λ version tables p formed accepted heights.
    hash_matrices version tables p quartic_inv c.baby_bear_has_laws.ensures (c.opened_claims_bind.ensures (record { log_blowup = 1 })) formed accepted heights
