use Rattle.std.proofs.Common.{◌≡◌, ℕ, ◌+◌, ◌*◌, ◌<◌, ◌∙◌, sym, ap, arith, length, get_or, length-append}
use Rattle.std.proofs.Math.Nat.{mul_comm}
use Rattle.p3_matrix.specs.Matrix.{Rows, height, cell_at}
use Rattle.p3_matrix.specs.Laws.Cells.{get_or-column}
use Rattle.p3_matrix.specs.Laws.Grids.{next_row, product_fills}
use Rattle.p3_matrix.proofs.dense.RowMajorMatrix.transpose.Goals as goal

one_row_more : (a b n h : ℕ) → a ≡ n * h → b ≡ h → a + b ≡ (n + 1) * h
one_row_more a b n h e f = omega (arith, e, f)

pub loop-column-preserved : goal.loop-column-preserved
loop-column-preserved g c =
    let m = c.args.self.now in
    let j = c.loop-column.column in
    let h = c.height-height.result in
    let xs = c.loop-column.values.items in
    let ys = c.deref.result.now in
    let items = c.in_ok-extend_from_slice.ensures.items in
    let count : length ys ≡ h = ap length c.deref.ensures.value ∙ (c.in_ok-rows.ensures.count ∙ sym c.height-height.ensures.result) in
    record {
      count = ap length items ∙ (length-append xs ys ∙ one_row_more (length xs) (length ys) j h c.loop-column.invariant.count count);
      cells = λ d. next_row d xs ys c.extend_from_slice.new.self.items j h (λ k i. cell_at d m i k) (c.loop-column.invariant.cells d) count
          (λ i b. let below : i < height m = omega (arith, c.height-height.ensures.result) in
          ap (λ l. get_or l i d) (c.deref.ensures.value ∙ c.in_ok-rows.ensures.values d) ∙ get_or-column d m j i below) items;
    }

pub new-requires : goal.new-requires
new-requires g c = product_fills c.loop-column.values.items c.loop-column.column c.height-height.result c.loop-column.invariant.count

pub returns-clause-count : goal.returns-clause-count
returns-clause-count g c =
    let m = c.args.self.now in
    let h = c.height-height.result in
    let width : m.width ≡ c.self.inside.width = ap (λ (v : Rows g.row.F.Denot). v.width) (sym c.self.view_is) in
    let n : c.loop-column.column ≡ m.width = omega arith in
    ap (λ (v : Rows g.row.F.Denot). length v.values) c.new.ensures
    ∙ (c.loop-column.invariant.count ∙ (ap (λ k. k * h) n ∙ (mul_comm m.width h ∙ (ap (λ k. k * m.width) c.height-height.ensures.result ∙ c.height-height.ensures.fills))))

pub returns-clause-cells : goal.returns-clause-cells
returns-clause-cells g c = λ d i j a b.
    let m = c.args.self.now in
    let width : m.width ≡ c.self.inside.width = ap (λ (v : Rows g.row.F.Denot). v.width) (sym c.self.view_is) in
    let row : i < c.height-height.result = omega (arith, c.height-height.ensures.result) in
    let below : j < c.loop-column.column = omega arith in
    ap (λ (v : Rows g.row.F.Denot). cell_at d v j i) c.new.ensures ∙ (c.loop-column.invariant.cells d).cell_is j i below row
