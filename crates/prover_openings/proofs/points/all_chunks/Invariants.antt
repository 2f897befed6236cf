use Rattle.std.proofs.Common.{◌≡◌, ◌∷◌, [], get_or, map}
use Rattle.std.specs.List.{flat_map}
use Rattle.p3_field.specs.Poly.{tabulate}
use Rattle.prover_openings.proofs.points.all_chunks.Given as goal

abbrev pub invariant-loop-index : goal.invariant-loop-index
invariant-loop-index g l = map (λ x. x.items) l.points.items ≡ flat_map (λ i. tabulate (get_or l.chunk_counts i 0) (λ j. l.zeta ∷ [])) (tabulate l.index (λ i. i))
