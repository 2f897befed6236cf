use Rattle.std.proofs.Common.{◌≡◌, ◌+◌, ◌*◌}
use Rattle.std.specs.Prelude.{slice_range}
use Rattle.p3_field.specs.Field.{combine}
use Rattle.p3_field.specs.Poly.{tabulate}
use Rattle.verifier_identity.proofs.rows.recombined_row.Given as goal

abbrev pub invariant-loop-j : goal.invariant-loop-j
invariant-loop-j g l =
    let n = g.E.BasedVectorSpace.DIMENSION in
    l.values.items ≡ tabulate l.j (λ j. combine g.E.RingCore.ring g.E.ExtensionField.basis 0 (slice_range l.row (j * n) (j * n + n)))
