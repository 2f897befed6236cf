use Rattle.std.proofs.Common.{◌≡◌, ℕ, ◌<◌, [], length, map, get_or, sym, ◌∙◌, ap, arith}
use Rattle.std.proofs.lemmas.List.{get_or-map}
use Rattle.p3_field.specs.Field.{TwoAdic, Extension, combine}
use Rattle.p3_field.specs.Poly.{total}
use Rattle.p3_field.specs.Laws.Tabulate.{total_more}
use Rattle.p3_uni_stark.specs.Recombine.{chunk_weight, recombined}
use Rattle.p3_uni_stark.proofs.recompose.recomposed_quotient.Goals as goal

pub loop-chunk-preserved : goal.loop-chunk-preserved
loop-chunk-preserved g c =
    let s = g.EF.RingCore.ring in
    let P = g.met.EF.PrimeCharacteristicRing in
    let b = g.EF.ExtensionField.basis in
    let i = c.loop-chunk.chunk in
    let f : TwoAdic g.row.F.Denot = record { ring = g.F.RingCore.ring; inv = g.F.FieldCore.inv; root = g.F.TwoAdicCore.root; generator = g.F.FieldCore.GENERATOR } in
    let e : Extension g.row.F.Denot g.row.EF.Denot =
    record { ring = s; embed = g.EF.ExtensionField.embed; dimension = g.EF.BasedVectorSpace.DIMENSION; basis = b; coefficients = g.EF.BasedVectorSpace.coefficients; from_coefficients = g.EF.BasedVectorSpace.from_coefficients } in
    let t = λ (j : ℕ). s.mul (chunk_weight f e c.args.domains.now j c.args.x) (combine s b 0 (get_or (map (λ v. v.items) c.args.chunks.now) j [])) in
    let below : i < length c.args.chunks.now = omega arith in
    let item : c.deref.result.now ≡ get_or (map (λ v. v.items) c.args.chunks.now) i [] =
    c.deref.ensures.value ∙ (ap (λ v. v.items) c.index-chunks-chunk.is ∙ sym (get_or-map (λ v. v.items) c.args.chunks.now i c.index-chunks-chunk.result [] below)) in
    let value : c.chunk_value.result ≡ combine s b 0 (get_or (map (λ v. v.items) c.args.chunks.now) i []) = c.chunk_value.ensures ∙ ap (combine s b 0) item in
    P.adds _ _ _ c.add-sum.ensures
    ∙ ((λ k. s.add (c.loop-chunk.invariant k) ((P.muls _ _ _ c.mul.ensures ∙ (λ m. s.mul (c.weight_at.ensures m) (value m))) k))
    ∙ total_more s g.met.EF.RingCore.ring_laws i t)

pub returns : goal.returns
unfolding recombined
returns g c =
    let s = g.EF.RingCore.ring in
    let b = g.EF.ExtensionField.basis in
    let f : TwoAdic g.row.F.Denot = record { ring = g.F.RingCore.ring; inv = g.F.FieldCore.inv; root = g.F.TwoAdicCore.root; generator = g.F.FieldCore.GENERATOR } in
    let e : Extension g.row.F.Denot g.row.EF.Denot =
    record { ring = s; embed = g.EF.ExtensionField.embed; dimension = g.EF.BasedVectorSpace.DIMENSION; basis = b; coefficients = g.EF.BasedVectorSpace.coefficients; from_coefficients = g.EF.BasedVectorSpace.from_coefficients } in
    let n : c.loop-chunk.chunk ≡ length c.args.domains.now = omega (arith, c.requires.one_for_each) in
    c.loop-chunk.invariant ∙ ap (λ m. total s m (λ j. s.mul (chunk_weight f e c.args.domains.now j c.args.x) (combine s b 0 (get_or (map (λ v. v.items) c.args.chunks.now) j [])))) n
