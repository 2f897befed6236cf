use Rattle.std.proofs.Common.{◌≡◌, ◌<◌, List, [], length, get_or, map, sym, ◌∙◌, ap, subst}
use Rattle.std.proofs.lemmas.List.{get_or-map, length-map, map-id}
use Rattle.p3_field.specs.BabyBear.{baby_bear_ring}
use Rattle.p3_field.specs.Poly.{eval_poly}
use Rattle.p3_field.specs.declared.baby_bear.BabyBear.{BabyBear}
use Rattle.tool_hash_lines.specs.Columns.{polynomial_cells_at}
use Rattle.tool_hash_lines.proofs.words.cell.Goals as goal

pub returns : goal.returns
returns c =
    let ps = c.args.polynomials.now in
    let x = c.args.point in
    let j = c.args.column in
    let q = c.index-polynomials-column.result in
    let fs = map (λ f. f.items) ps in
    let wide : j < length fs = subst (λ n. j < n) (sym (length-map ps (λ f. f.items))) c.requires in
    let item : get_or fs j [] ≡ q.items = get_or-map (λ f. f.items) ps j q [] c.requires ∙ ap (λ f. f.items) (sym c.index-polynomials-column.is) in
    let value : c.polynomial_value-value.result ≡ eval_poly baby_bear_ring q.items x =
    c.polynomial_value-value.ensures ∙ (ap (λ (g : List BabyBear). eval_poly baby_bear_ring g x) (map-id c.deref.result.now) ∙ ap (λ (g : List BabyBear). eval_poly baby_bear_ring g x) c.deref.ensures.value) in
    let cell : get_or (polynomial_cells_at fs x) j baby_bear_ring.zero ≡ eval_poly baby_bear_ring q.items x = get_or-map (λ (g : List BabyBear). eval_poly baby_bear_ring g x) fs j [] baby_bear_ring.zero wide ∙ ap (λ (g : List BabyBear). eval_poly baby_bear_ring g x) item in
    c.as_canonical_u64.ensures ∙ ap (λ (y : BabyBear). y.value) (value ∙ sym cell)
