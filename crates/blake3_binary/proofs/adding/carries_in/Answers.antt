use Rattle.std.proofs.Common.{◌<◌, [], inl, inr, length, get_or, set, sym, subst, ◌∙◌, arith, rules, length-set, get_or-set_same, get_or-set_other}
use Rattle.std.proofs.lemmas.Bool.{cases_eq}
use Rattle.blake3_binary.specs.Sums.{carry_in}
use Rattle.blake3_binary.proofs.adding.carries_in.Goals as goal

pub loop-i-preserved : goal.loop-i-preserved
loop-i-preserved g c =
    let B = g.met.AB.AirBuilder in
    let i = c.loop-i.i in
    let old = c.loop-i.carries in
    let x = c.in_ok-carries.field-0 in
    let represents = g.AB.AirBuilder.represents c.sum_of_three.new.builder in
    let inside : i < length old = omega (arith, c.loop-i.invariant.long) in
    record {
      long = length-set old i x ∙ c.loop-i.invariant.long;
      keeps_shape = c.sum_of_three.ensures.keeps_shape ∙ c.loop-i.invariant.keeps_shape;
      appends = B.appends_along _ _ _ [] _ [] [] c.loop-i.invariant.appends c.sum_of_three.ensures.appends;
      so_far = λ t u v ht hu hv k d lt.
          let keep = B.persists _ _ (B.appends_later _ _ _ _ c.loop-i.invariant.appends) in
          let first = keep _ _ (ht.each i c.index-x-i.result (search rules)) in
          let second = keep _ _ (hu.each i c.index-y-i.result (search rules)) in
          let total = keep _ _ (hv.each i c.index-s-i.result (search rules)) in
          let new = c.in_ok-carries.ensures.represents _ _ _ total first second in
          elim (cases_eq k i) [
            | inl e ↦ subst (λ j. represents (get_or (set old i x) j d) (carry_in t u v j)) (sym e)
                (subst (λ (y : g.row.AB-Expr.Denot). represents y (carry_in t u v i)) (sym (get_or-set_same old i x d inside)) new)
            | inr n ↦ subst (λ (y : g.row.AB-Expr.Denot). represents y (carry_in t u v k)) (sym (get_or-set_other old i k x d n))
                (B.persists _ _ (B.appends_later _ _ _ _ c.sum_of_three.ensures.appends) _ _ (c.loop-i.invariant.so_far t u v ht hu hv k d (omega (arith, lt))))
          ];
    }

pub returns-in_err-carries-clause-appends : goal.returns-in_err-carries-clause-appends
returns-in_err-carries-clause-appends g c = g.met.AB.AirBuilder.appends_along _ _ _ [] _ [] [] c.loop-i.invariant.appends c.sum_of_three.ensures.appends

pub returns-clause-represents : goal.returns-clause-represents
returns-clause-represents g c t u v ht hu hv = record { each = λ k d lt. c.loop-i.invariant.so_far t u v ht hu hv k d (omega (arith, c.loop-i.invariant.long, lt)) }
