use Rattle.std.proofs.Common.{◌<◌, ℕ, [], map, get_or}
use Rattle.p3_field.specs.Poly.{DegreeBelow}
use Rattle.plain_pcs.proofs.verifying.first_high_degree.Given as goal

abbrev pub invariant-loop-j : goal.invariant-loop-j
invariant-loop-j g l = (i : ℕ) → i < l.j → DegreeBelow g.F.RingCore.ring l.bound (get_or (map (λ f. f.items) l.polynomials) i [])
