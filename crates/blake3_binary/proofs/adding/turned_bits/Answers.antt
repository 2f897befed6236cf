use Rattle.std.proofs.Common.{◌+◌, ◌-◌, ◌%◌, ◌<◌, [], inl, inr, length, get_or, set, sym, subst, ◌∙◌, arith, rules, length-set, get_or-set_same, get_or-set_other}
use Rattle.std.proofs.lemmas.Bool.{cases_eq}
use Rattle.blake3_binary.specs.Sums.{turned}
use Rattle.blake3_binary.proofs.adding.turned_bits.Goals as goal

pub loop-i-preserved : goal.loop-i-preserved
loop-i-preserved g c =
    let B = g.met.AB.AirBuilder in
    let i = c.loop-i.i in
    let old = c.loop-i.bits in
    let x = c.in_ok-bits.field-0 in
    let represents = g.AB.AirBuilder.represents c.add.new.self in
    let inside : i < length old = omega (arith, c.loop-i.invariant.long) in
    record {
      long = length-set old i x ∙ c.loop-i.invariant.long;
      keeps_shape = c.add.ensures.keeps_shape ∙ c.loop-i.invariant.keeps_shape;
      appends = B.appends_along _ _ _ [] _ [] [] c.loop-i.invariant.appends c.add.ensures.appends;
      so_far = λ t u ht hu k d lt.
          let keep = B.persists _ _ (B.appends_later _ _ _ _ c.loop-i.invariant.appends) in
          let bit = keep _ _ (ht.each i c.index-x-i.result (search rules)) in
          let place : (i + (32 - c.args.s % 32)) % 32 < length c.args.y = search rules in
          let other = keep _ _ (hu.each ((i + (32 - c.args.s % 32)) % 32) c.index-y-i.result place) in
          let new = c.in_ok-bits.ensures.represents _ _ bit other in
          elim (cases_eq k i) [
            | inl e ↦ subst (λ j. represents (get_or (set old i x) j d) (turned t u c.args.s j)) (sym e)
                (subst (λ (y : g.row.AB-Expr.Denot). represents y (turned t u c.args.s i)) (sym (get_or-set_same old i x d inside)) new)
            | inr n ↦ subst (λ (y : g.row.AB-Expr.Denot). represents y (turned t u c.args.s k)) (sym (get_or-set_other old i k x d n))
                (B.persists _ _ (B.appends_later _ _ _ _ c.add.ensures.appends) _ _ (c.loop-i.invariant.so_far t u ht hu k d (omega (arith, lt))))
          ];
    }

pub returns-in_err-bits-clause-appends : goal.returns-in_err-bits-clause-appends
returns-in_err-bits-clause-appends g c = g.met.AB.AirBuilder.appends_along _ _ _ [] _ [] [] c.loop-i.invariant.appends c.add.ensures.appends

pub returns-clause-represents : goal.returns-clause-represents
returns-clause-represents g c t u ht hu = record { each = λ k d lt. c.loop-i.invariant.so_far t u ht hu k d (omega (arith, c.loop-i.invariant.long, lt)) }
