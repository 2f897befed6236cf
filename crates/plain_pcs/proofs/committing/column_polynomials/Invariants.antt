use Rattle.p3_field.specs.Domain.{coset_point, IsInterpolant}
use Rattle.p3_matrix.specs.Matrix.{column}
use Rattle.commit_core.specs.Space.{EachOf}
use Rattle.plain_pcs.proofs.committing.column_polynomials.Given as goal

abbrev pub invariant-loop-j : goal.invariant-loop-j
invariant-loop-j g l = let r = g.F.RingCore.ring in
    EachOf l.j l.polynomials.items (λ j f. IsInterpolant r (coset_point r g.F.FieldCore.GENERATOR (g.F.TwoAdicCore.root l.log_height)) (column r.zero l.matrix j) f.items)
