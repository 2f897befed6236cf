use Rattle.std.proofs.Common.{◌≡◌, ℕ, List, ◌+◌, ◌*◌, ◌/◌, ◌%◌, ◌^◌, ◌<◌, ◌∙◌, refl, sym, ap, arith, length, get_or}
use Rattle.std.proofs.lemmas.Grind.{one_shifted}
use Rattle.std.proofs.lemmas.List.{ext_get_or}
use Rattle.p3_field.specs.Ring.{Ring}
use Rattle.p3_field.specs.Poly.{eval_poly, tabulate}
use Rattle.p3_field.specs.Domain.{coset_point}
use Rattle.p3_field.specs.Laws.Tabulate.{length-tabulate, get_or-tabulate, first_coset_point, next_coset_point}
use Rattle.p3_matrix.specs.Matrix.{Rows, height, column}
use Rattle.p3_matrix.specs.Laws.Cells.{length-column, get_or-column}
use Rattle.p3_matrix.specs.Laws.Grids.{IsGrid, next_row, product_fills, product_height}
use Rattle.p3_dft.specs.Transform.{values_at}
use Rattle.p3_dft.specs.Laws.Values.{length-values_at, get_or-values_at}
use Rattle.p3_dft.proofs.naive.NaiveDftRowTransform.rows_on_powers.Goals as goal

-- a column of the values
column_of_grid : {A : Type 0} (r : Ring A) (m v : Rows A) (j n : ℕ) (p : ℕ → A) (rows : ℕ) {xs : List A} → rows ≡ n → v.width ≡ m.width → v.values ≡ xs → height v ≡ rows → j < m.width
    → IsGrid r.zero xs rows m.width (λ i j. eval_poly r (column r.zero m j) (p i)) → column r.zero v j ≡ values_at r p n (column r.zero m j)
column_of_grid r m v j n p rows e wide values tall b I =
    ext_get_or r.zero (column r.zero v j) (values_at r p n (column r.zero m j))
    (length-column r.zero v j ∙ (tall ∙ (e ∙ sym (length-values_at r p n (column r.zero m j)))))
    (λ i d.
    let row : i < height v = omega (arith, length-column r.zero v j) in
    let below : i < rows = omega (arith, tall) in
    let within : i < n = omega (arith, e) in
    get_or-column r.zero v j i row
    ∙ (ap (λ w. get_or v.values (i * w + j) r.zero) wide
    ∙ (ap (λ l. get_or l (i * m.width + j) r.zero) values
    ∙ (I.cell_is i j below b
    ∙ sym (get_or-values_at r p n (column r.zero m j) i r.zero within)))))

pub loop-init : goal.loop-init
loop-init g c = record {
  rows_so_far = record { length_is = omega (arith, ap length c.new-values.ensures.items); cell_is = λ i j a b. absurd (omega arith) };
  point_is = sym (first_coset_point g.F.RingCore.ring g.met.F.RingCore.ring_laws c.args.shift c.args.generator);
}

pub loop-preserved : goal.loop-preserved
loop-preserved g c =
    let r = g.F.RingCore.ring in
    let m = c.args.m.now in
    let n = c.loop.counter in
    let t = λ (j : ℕ). eval_poly r (column r.zero m j) c.loop.point in
    let row : c.deref.result.now ≡ tabulate m.width t = c.deref.ensures.value ∙ c.in_ok-row.ensures in
    record {
      rows_so_far = next_row r.zero c.loop.values.items c.deref.result.now c.extend_from_slice.new.self.items n m.width (λ i j. eval_poly r (column r.zero m j) (coset_point r c.args.shift c.args.generator i)) c.loop.invariant.rows_so_far
          (ap length row ∙ length-tabulate m.width t)
          (λ j b. ap (λ l. get_or l j r.zero) row ∙ (get_or-tabulate m.width t j r.zero b ∙ ap (eval_poly r (column r.zero m j)) c.loop.invariant.point_is))
          c.in_ok-extend_from_slice.ensures.items;
      point_is = cc (g.met.F.PrimeCharacteristicRing.muls _ _ _ c.mul-point.ensures, c.loop.invariant.point_is, next_coset_point r g.met.F.RingCore.ring_laws c.args.shift c.args.generator n);
    }

pub new-requires : goal.new-requires
new-requires g c = product_fills c.loop.values.items c.loop.counter _ (c.loop.invariant.rows_so_far.length_is ∙ ap (λ w. c.loop.counter * w) (sym c.width.ensures))

pub returns-clause-height : goal.returns-clause-height
returns-clause-height g c = λ pos.
    let m = c.args.m.now in
    let v = c.new.result in
    let size : 1 * 2 ^ c.args.bits % 18446744073709551616 ≡ 2 ^ c.args.bits = (one_shifted c.args.bits 18446744073709551615 refl c.requires.bits).0 in
    let n : c.loop.counter ≡ 2 ^ c.args.bits = omega (arith, size) in
    let values : v.values ≡ c.loop.values.items = ap (λ (w : Rows g.row.F.Denot). w.values) c.new.ensures in
    let wide : v.width ≡ m.width = ap (λ (w : Rows g.row.F.Denot). w.width) c.new.ensures ∙ c.width.ensures in
    ap (λ w. length v.values / w) wide ∙ (product_height v.values c.loop.counter m.width (ap length values ∙ c.loop.invariant.rows_so_far.length_is) pos ∙ n)

pub returns-clause-columns : goal.returns-clause-columns
returns-clause-columns g c = λ j b.
    let r = g.F.RingCore.ring in
    let m = c.args.m.now in
    let v = c.new.result in
    let size : 1 * 2 ^ c.args.bits % 18446744073709551616 ≡ 2 ^ c.args.bits = (one_shifted c.args.bits 18446744073709551615 refl c.requires.bits).0 in
    let n : c.loop.counter ≡ 2 ^ c.args.bits = omega (arith, size) in
    let values : v.values ≡ c.loop.values.items = ap (λ (w : Rows g.row.F.Denot). w.values) c.new.ensures in
    let wide : v.width ≡ m.width = ap (λ (w : Rows g.row.F.Denot). w.width) c.new.ensures ∙ c.width.ensures in
    let pos : 0 < m.width = omega arith in
    let tall : height v ≡ c.loop.counter = ap (λ w. length v.values / w) wide ∙ product_height v.values c.loop.counter m.width (ap length values ∙ c.loop.invariant.rows_so_far.length_is) pos in
    column_of_grid r m v j (2 ^ c.args.bits) (coset_point r c.args.shift c.args.generator) c.loop.counter n wide values tall b c.loop.invariant.rows_so_far
