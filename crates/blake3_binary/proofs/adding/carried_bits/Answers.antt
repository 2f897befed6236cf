use Rattle.std.proofs.Common.{◌<◌, [], inl, inr, length, get_or, set, sym, subst, ◌∙◌, arith, length-set, get_or-set_same, get_or-set_other}
use Rattle.std.proofs.lemmas.Bool.{cases_eq}
use Rattle.air_gadgets.specs.Laws.Packing.{represent_later}
use Rattle.blake3_binary.specs.Sums.{with_carries}
use Rattle.blake3_binary.proofs.adding.carried_bits.Goals as goal

pub loop-i-preserved : goal.loop-i-preserved
loop-i-preserved g c =
    let B = g.met.AB.AirBuilder in
    let i = c.loop-i.i in
    let old = c.loop-i.bits in
    let x = c.in_ok-bits.field-0 in
    let represents = g.AB.AirBuilder.represents c.carried_bit.new.builder in
    let inside : i < length old = omega (arith, c.loop-i.invariant.long) in
    record {
      long = length-set old i x ∙ c.loop-i.invariant.long;
      keeps_shape = c.carried_bit.ensures.keeps_shape ∙ c.loop-i.invariant.keeps_shape;
      appends = B.appends_along _ _ _ [] _ [] [] c.loop-i.invariant.appends c.carried_bit.ensures.appends;
      so_far = λ t u v ht hu hv k d lt.
          let keep = B.persists _ _ (B.appends_later _ _ _ _ c.loop-i.invariant.appends) in
          let new = c.in_ok-bits.ensures.represents t u v (represent_later _ _ _ t keep ht) (represent_later _ _ _ u keep hu) (represent_later _ _ _ v keep hv) in
          elim (cases_eq k i) [
            | inl e ↦ subst (λ j. represents (get_or (set old i x) j d) (with_carries t u v j)) (sym e)
                (subst (λ (y : g.row.AB-Expr.Denot). represents y (with_carries t u v i)) (sym (get_or-set_same old i x d inside)) new)
            | inr n ↦ subst (λ (y : g.row.AB-Expr.Denot). represents y (with_carries t u v k)) (sym (get_or-set_other old i k x d n))
                (B.persists _ _ (B.appends_later _ _ _ _ c.carried_bit.ensures.appends) _ _ (c.loop-i.invariant.so_far t u v ht hu hv k d (omega (arith, lt))))
          ];
    }

pub returns-in_err-bits-clause-appends : goal.returns-in_err-bits-clause-appends
returns-in_err-bits-clause-appends g c = g.met.AB.AirBuilder.appends_along _ _ _ [] _ [] [] c.loop-i.invariant.appends c.carried_bit.ensures.appends

pub returns-clause-represents : goal.returns-clause-represents
returns-clause-represents g c t u v ht hu hv = record { each = λ k d lt. c.loop-i.invariant.so_far t u v ht hu hv k d (omega (arith, c.loop-i.invariant.long, lt)) }
