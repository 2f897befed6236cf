use Rattle.std.proofs.Common.{◌<◌, [], inl, inr, length, get_or, set, sym, subst, ◌∙◌, arith, length-set, get_or-set_same, get_or-set_other}
use Rattle.std.proofs.lemmas.Bool.{cases_eq}
use Rattle.blake3_compress.specs.Reading.{from_column}
use Rattle.blake3_compress.proofs.reading.bits_at.Goals as goal

pub loop-i-preserved : goal.loop-i-preserved
loop-i-preserved g c =
    let B = g.met.AB.AirBuilder in
    let i = c.loop-i.i in
    let old = c.loop-i.cells in
    let x = c.in_ok-cells.field-0 in
    let represents = g.AB.AirBuilder.represents c.cell_at-in-loop-i.new.builder in
    let inside : i < length old = omega (arith, c.loop-i.invariant.long) in
    record {
      long = length-set old i x ∙ c.loop-i.invariant.long;
      keeps_shape = c.cell_at-in-loop-i.ensures.keeps_shape ∙ c.loop-i.invariant.keeps_shape;
      appends = B.appends_along _ _ _ [] _ [] [] c.loop-i.invariant.appends c.cell_at-in-loop-i.ensures.appends;
      so_far = λ k d lt.
          elim (cases_eq k i) [
            | inl e ↦ subst (λ j. represents (get_or (set old i x) j d) (from_column c.args.column j)) (sym e)
                (subst (λ (y : g.row.AB-Expr.Denot). represents y (from_column c.args.column i)) (sym (get_or-set_same old i x d inside)) c.in_ok-cells.ensures.represents)
            | inr n ↦ subst (λ (y : g.row.AB-Expr.Denot). represents y (from_column c.args.column k)) (sym (get_or-set_other old i k x d n))
                (B.persists _ _ (B.appends_later _ _ _ _ c.cell_at-in-loop-i.ensures.appends) _ _ (c.loop-i.invariant.so_far k d (omega (arith, lt))))
          ];
    }

pub returns-in_err-cells-clause-appends : goal.returns-in_err-cells-clause-appends
returns-in_err-cells-clause-appends g c = g.met.AB.AirBuilder.appends_along _ _ _ [] _ [] [] c.loop-i.invariant.appends c.cell_at-in-loop-i.ensures.appends

pub returns-clause-represents : goal.returns-clause-represents
returns-clause-represents g c = record { each = λ k d lt. c.loop-i.invariant.so_far k d (omega (arith, c.loop-i.invariant.long, lt)) }
