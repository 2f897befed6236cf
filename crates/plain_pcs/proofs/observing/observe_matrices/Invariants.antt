use Rattle.std.proofs.Common.{◌≡◌, flat_map, take}
use Rattle.p3_field.specs.BabyBear.{baby_bear_ring}
use Rattle.p3_challenger.specs.Sha256.{observed_all}
use Rattle.plain_pcs.specs.Observing.{matrix_elements}
use Rattle.plain_pcs.proofs.observing.observe_matrices.Given as goal

abbrev pub invariant-loop-matrix : goal.invariant-loop-matrix
invariant-loop-matrix l =
    l.challenger ≡ observed_all l.fn.challenger (flat_map (matrix_elements baby_bear_ring) (take l.matrix-index l.matrices))
