use Rattle.std.proofs.Common.{◌≡◌, ℕ, ◌+◌, ◌*◌, ◌/◌, ◌%◌, ◌<◌, ◌∙◌, sym, ap, arith, length}
use Rattle.std.proofs.Math.Nat.{mul-div_cancel, add-mul-mod_self_right}
use Rattle.p3_matrix.specs.Matrix.{height}
use Rattle.p3_matrix.specs.Laws.Flattened.{length-pieces}
use Rattle.p3_matrix.specs.Laws.Grids.{product_fills}
use Rattle.prover_values.proofs.columns.recombined_matrix.Goals as goal

-- a product has no rest by its last factor
no_rest : (n h w d : ℕ) → 0 < d → h * (w * d) ≡ n → n % d ≡ 0
no_rest n h w d pos e =
    let q : n ≡ 0 + h * w * d = omega (arith, e) in
    let z : 0 % d ≡ 0 = omega (arith, pos) in
    ap (λ k. k % d) q ∙ (add-mul-mod_self_right 0 (h * w) d ∙ z)

-- and is fixed by the others
rows_fill : (n h w d : ℕ) → 0 < d → n * d ≡ h * (w * d) → n ≡ h * w
rows_fill n h w d pos e =
    let q : n * d ≡ h * w * d = omega (arith, e) in
    sym (mul-div_cancel n pos) ∙ (ap (λ k. k / d) q ∙ mul-div_cancel (h * w) pos)

pub reconstitute_from_base-requires : goal.reconstitute_from_base-requires
reconstitute_from_base-requires g c =
    let m = c.args.flattened.now in
    let D = g.E.BasedVectorSpace.DIMENSION in
    let V = g.met.E.BasedVectorSpace.vector_laws in
    let whole : height m * (c.args.columns * D) ≡ length m.values = ap (λ w. height m * w) (sym c.requires) ∙ c.as_slice.ensures.fills in
    ap (λ (l : _). length l % D) c.as_slice.ensures.values ∙ no_rest (length m.values) (height m) c.args.columns D V.positive whole

pub new-requires : goal.new-requires
new-requires g c =
    let m = c.args.flattened.now in
    let D = g.E.BasedVectorSpace.DIMENSION in
    let V = g.met.E.BasedVectorSpace.vector_laws in
    let xs = c.in_ok-values.values.items in
    let whole : height m * (c.args.columns * D) ≡ length m.values = ap (λ w. height m * w) (sym c.requires) ∙ c.as_slice.ensures.fills in
    let flat : length xs * D ≡ length m.values =
    sym (length-pieces g.E.BasedVectorSpace.coefficients D V.coefficients_length xs) ∙ ap length (c.in_ok-values.ensures ∙ c.as_slice.ensures.values) in
    product_fills xs (height m) c.args.columns (rows_fill (length xs) (height m) c.args.columns D V.positive (flat ∙ sym whole))
