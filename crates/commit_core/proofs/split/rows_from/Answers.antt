use Rattle.std.proofs.Common.{◌≡◌, ℕ, ◌+◌, ◌*◌, ◌/◌, ◌<◌, ◌∙◌, inl, inr, sym, ap, arith, List, length}
use Rattle.std.proofs.lemmas.Bool.{cases_eq}
use Rattle.p3_matrix.specs.Matrix.{Rows, height, row_at}
use Rattle.p3_matrix.specs.Laws.Grids.{product_fills, product_height}
use Rattle.p3_matrix.specs.Laws.Transposed.{rows_of, more_rows}
use Rattle.commit_core.proofs.split.rows_from.Goals as goal

by_zero : (n : ℕ) → n / 0 ≡ 0
by_zero n = omega arith

rows_in_all : (n s h m : ℕ) → h ≡ m → n ≡ h / s → m / s * s ≡ m → n * s ≡ m
rows_in_all n s h m e d q = ap (λ k. k * s) (d ∙ ap (λ k. k / s) e) ∙ q

split_height : {F : Type 0} (xs : List F) (m : Rows F) (n s : ℕ) → length xs ≡ n * m.width → n * s ≡ height m → length xs / m.width * s ≡ height m
split_height xs m n s e h = elim (cases_eq m.width 0) [
  | inl z ↦ ap (λ w. length xs / w * s) z ∙ (ap (λ k. k * s) (by_zero (length xs)) ∙ (nothing s ∙ sym (ap (λ w. length m.values / w) z ∙ by_zero (length m.values))))
  | inr d ↦ ap (λ k. k * s) (product_height xs n m.width e (omega arith)) ∙ h
]
  where
    nothing : (s : ℕ) → 0 * s ≡ 0
    nothing s = omega arith

row_within : {F : Type 0} (xs : List F) (w n j : ℕ) → length xs ≡ n * w → j < length xs / w → j < n
row_within xs w n j e b = elim (cases_eq w 0) [
  | inl z ↦ absurd (omega (arith, b, ap (λ k. length xs / k) z, by_zero (length xs)))
  | inr d ↦ omega (arith, b, product_height xs n w e (omega arith))
]

pub loop-j-preserved : goal.loop-j-preserved
loop-j-preserved g c =
    let m = c.args.m.now in
    let values : c.row.result.now ≡ row_at m (c.args.first + c.args.stride * c.loop-j.j) = c.row.ensures.values in
    more_rows c.loop-j.values.items c.row.result.now c.extend_from_slice.new.self.items c.loop-j.j m.width (λ k row. row ≡ row_at m (c.args.first + c.args.stride * k)) c.loop-j.invariant
    c.row.ensures.len values c.in_ok-extend_from_slice.ensures.items

pub new-requires : goal.new-requires
new-requires g c =
    product_fills c.loop-j.values.items c.loop-j.j _ (c.loop-j.invariant.count ∙ ap (λ k. c.loop-j.j * k) (sym c.width.ensures))

pub returns : goal.returns
returns g c =
    let m = c.args.m.now in
    let xs = c.loop-j.values.items in
    let n = c.loop-j.j in
    let whole : n * c.args.stride ≡ height m = rows_in_all n c.args.stride c.height.result (height m) c.height.ensures.result (omega arith) c.requires.divides in
    let width : c.width.result ≡ m.width = c.width.ensures in
    let high : height c.new.result ≡ length xs / m.width = ap (λ (v : Rows g.row.F.Denot). height v) c.new.ensures ∙ ap (λ w. length xs / w) width in
    record {
      width_is = ap (λ (v : Rows g.row.F.Denot). v.width) c.new.ensures ∙ width;
      height_is = ap (λ k. k * c.args.stride) high ∙ split_height xs m n c.args.stride c.loop-j.invariant.count whole;
      row_is = λ j b.
          let below : j < n = row_within xs m.width n j c.loop-j.invariant.count (omega (arith, high)) in
          ap (λ (v : Rows g.row.F.Denot). row_at v j) c.new.ensures ∙ (ap (λ w. row_at (rows_of xs w) j) width ∙ c.loop-j.invariant.rows j below);
    }
