use Rattle.commit_core.specs.Laws.Parts.{parts_apart}
use Rattle.commit_core.proofs.parts.parts_are_disjoint.Goals as goal

pub returns : goal.returns
returns g c whole first second n i j valid one other h k differ =
    let D = g.met.D.PolynomialSpace in
    parts_apart (g.D.PolynomialSpace.point_at whole) (g.D.PolynomialSpace.point_at first) (g.D.PolynomialSpace.point_at second)
    (g.D.PolynomialSpace.points whole) (g.D.PolynomialSpace.points first) (g.D.PolynomialSpace.points second) n i j
    (D.points_differ whole valid) (D.part_size whole first n i one) (D.part_size whole second n j other) h k differ
    (λ l. D.part_points whole first n i l valid one) (λ l. D.part_points whole second n j l valid other)
