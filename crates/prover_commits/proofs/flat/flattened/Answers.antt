use Rattle.std.proofs.Common.{◌≡◌, ◌*◌, ◌≤◌, length, ◌∙◌, ap, arith}
use Rattle.std.specs.List.{flat_map}
use Rattle.p3_matrix.specs.Laws.Flattened.{pieces-fill}
use Rattle.prover_commits.proofs.Narrow.{flat_narrow}
use Rattle.prover_commits.proofs.flat.flattened.Goals as goal

pub overflow_mul-width : goal.overflow_mul-width
overflow_mul-width g c =
    let parts = g.EF.BasedVectorSpace.coefficients in
    let V = g.met.EF.BasedVectorSpace.vector_laws in
    let m = c.args.m.now in
    let v = c.in_ok-values.values in
    let long : length v.items ≡ length (flat_map parts m.values) = ap length (c.in_ok-values.ensures ∙ ap (flat_map parts) c.as_slice.ensures.values) in
    let low : m.width * g.EF.BasedVectorSpace.DIMENSION ≤ length (flat_map parts m.values) = flat_narrow parts g.EF.BasedVectorSpace.DIMENSION V.coefficients_length m c.as_slice.ensures.fills c.requires in
    let same : c.width.result * c.DIMENSION.result ≡ m.width * g.EF.BasedVectorSpace.DIMENSION = λ k. c.width.ensures k * c.DIMENSION.ensures k in
    omega (arith, same, low, long, v.ok.0)

pub new-requires : goal.new-requires
new-requires g c =
    let parts = g.EF.BasedVectorSpace.coefficients in
    let V = g.met.EF.BasedVectorSpace.vector_laws in
    let m = c.args.m.now in
    let values : c.in_ok-values.values.items ≡ flat_map parts m.values = c.in_ok-values.ensures ∙ ap (flat_map parts) c.as_slice.ensures.values in
    let filled = pieces-fill parts g.EF.BasedVectorSpace.DIMENSION V.coefficients_length V.positive m c.as_slice.ensures.fills in
    cc (filled, values, c.width.ensures, c.DIMENSION.ensures)
