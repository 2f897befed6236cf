use Rattle.std.proofs.Common.{◌≡◌, ◌++◌, ◌∷◌, [], map}
use Rattle.p3_field.specs.Poly.{tabulate}
use Rattle.prover_openings.proofs.points.with_chunks.Given as goal

abbrev pub invariant-loop-j : goal.invariant-loop-j
invariant-loop-j g l = map (λ x. x.items) l.points.items ≡ map (λ x. x.items) l.fn.points.items ++ tabulate l._j (λ j. l.zeta ∷ [])
