use Rattle.std.proofs.Common.{rules, ◌≡◌, ◌+◌, ◌<◌, ◌++◌, List, [], ◌∷◌, length, get_or, sym, ◌∙◌, subst, ap, ℕ, arith}
use Rattle.std.proofs.lemmas.List.{get_or_read}
use Rattle.air_check.specs.Laws.Nonzero.{NonzeroBelow, nonzero_skip, nonzero_push}
use Rattle.air_check.proofs.rows.nonzero_places.Goals as goal
use Rattle.air_check.proofs.rows.nonzero_places.Goals.{then-not-is_zero+in_ok-push, else-not-is_zero}

pub loop-i-preserved : goal.loop-i-preserved
loop-i-preserved g c =
    let r = g.F.RingCore.ring in
    let v = c.args.values.now in
    let i = c.loop-i.i in
    let within : i < length v = omega arith in
    let value = get_or_read v i c.index-values-i.result within c.index-values-i.is r.zero in
    let zero = c.is_zero.ensures in
    elim c.if-not-is_zero.branch [
      | then-not-is_zero+in_ok-push w ↦
          let P = λ (l : List ℕ). NonzeroBelow r v (i + 1) l in
          let pushed : c.if-not-is_zero.places.items ≡ c.loop-i.places.items ++ i ∷ [] = ap (λ (p : _). p.items) w.places-is ∙ w.in_ok-push.ensures.items in
          let differs : get_or v i r.zero ≡ r.zero → ⊥ = λ e. let t = zero.1 (value ∙ e) in let f = w.if-not-is_zero.true in search rules in
          subst P (sym pushed) (nonzero_push r v i c.loop-i.places.items c.loop-i.invariant differs)
      | else-not-is_zero w ↦
          let P = λ (l : List ℕ). NonzeroBelow r v (i + 1) l in
          let kept : c.if-not-is_zero.places.items ≡ c.loop-i.places.items = ap (λ (p : _). p.items) w.places-is in
          let f = w.if-not-is_zero.false in
          let is : get_or v i r.zero ≡ r.zero = sym value ∙ zero.0 (search rules) in
          subst P (sym kept) (nonzero_skip r v i c.loop-i.places.items c.loop-i.invariant is)
    ]
