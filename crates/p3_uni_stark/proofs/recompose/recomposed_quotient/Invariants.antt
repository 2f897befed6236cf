use Rattle.std.proofs.Common.{◌≡◌, [], map, get_or}
use Rattle.p3_field.specs.Field.{TwoAdic, Extension, combine}
use Rattle.p3_field.specs.Poly.{total}
use Rattle.p3_uni_stark.specs.Recombine.{chunk_weight}
use Rattle.p3_uni_stark.proofs.recompose.recomposed_quotient.Given as goal

abbrev pub invariant-loop-chunk : goal.invariant-loop-chunk
invariant-loop-chunk g l =
    let s = g.EF.RingCore.ring in
    let f : TwoAdic g.row.F.Denot = record { ring = g.F.RingCore.ring; inv = g.F.FieldCore.inv; root = g.F.TwoAdicCore.root; generator = g.F.FieldCore.GENERATOR } in
    let e : Extension g.row.F.Denot g.row.EF.Denot =
    record { ring = s; embed = g.EF.ExtensionField.embed; dimension = g.EF.BasedVectorSpace.DIMENSION; basis = g.EF.ExtensionField.basis; coefficients = g.EF.BasedVectorSpace.coefficients; from_coefficients = g.EF.BasedVectorSpace.from_coefficients } in
    l.sum ≡ total s l.chunk (λ i. s.mul (chunk_weight f e l.domains i l.x) (combine s g.EF.ExtensionField.basis 0 (get_or (map (λ c. c.items) l.chunks) i [])))
