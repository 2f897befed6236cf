use Rattle.std.proofs.Common.{◌<◌, [], inl, inr, length, get_or, set, sym, subst, ◌∙◌, arith, length-set, get_or-set_same, get_or-set_other}
use Rattle.std.proofs.lemmas.Bool.{cases_eq}
use Rattle.std.specs.Int.{bit_at}
use Rattle.air_gadgets.specs.Gadgets.{number}
use Rattle.blake3_binary.proofs.reading.constant_bits.Goals as goal

pub loop-i-preserved : goal.loop-i-preserved
loop-i-preserved g c =
    let B = g.met.AB.AirBuilder in
    let r = g.AB.F.RingCore.ring in
    let i = c.loop-i.i in
    let old = c.loop-i.bits in
    let x = c.in_ok-bits.field-0 in
    let represents = g.AB.AirBuilder.represents c.constant_bit-in-loop-i.new.builder in
    let inside : i < length old = omega (arith, c.loop-i.invariant.long) in
    record {
      long = length-set old i x ∙ c.loop-i.invariant.long;
      keeps_shape = c.constant_bit-in-loop-i.ensures.keeps_shape ∙ c.loop-i.invariant.keeps_shape;
      appends = B.appends_along _ _ _ [] _ [] [] c.loop-i.invariant.appends c.constant_bit-in-loop-i.ensures.appends;
      so_far = λ k d lt.
          elim (cases_eq k i) [
            | inl e ↦ subst (λ j. represents (get_or (set old i x) j d) (number r (bit_at c.args.word j))) (sym e)
                (subst (λ (y : g.row.AB-Expr.Denot). represents y (number r (bit_at c.args.word i))) (sym (get_or-set_same old i x d inside)) c.in_ok-bits.ensures.represents)
            | inr n ↦ subst (λ (y : g.row.AB-Expr.Denot). represents y (number r (bit_at c.args.word k))) (sym (get_or-set_other old i k x d n))
                (B.persists _ _ (B.appends_later _ _ _ _ c.constant_bit-in-loop-i.ensures.appends) _ _ (c.loop-i.invariant.so_far k d (omega (arith, lt))))
          ];
    }

pub returns-in_err-bits-clause-appends : goal.returns-in_err-bits-clause-appends
returns-in_err-bits-clause-appends g c = g.met.AB.AirBuilder.appends_along _ _ _ [] _ [] [] c.loop-i.invariant.appends c.constant_bit-in-loop-i.ensures.appends

pub returns-clause-represents : goal.returns-clause-represents
returns-clause-represents g c = record { each = λ k d lt. c.loop-i.invariant.so_far k d (omega (arith, c.loop-i.invariant.long, lt)) }
