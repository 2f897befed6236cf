use Rattle.std.proofs.Common.{◌≡◌, ◌+◌, ◌*◌, ◌<◌, min, length, drop, sym, ◌∙◌, ap, arith}
use Rattle.p3_lookup.specs.Bus.{sum_of_bounds}
use Rattle.p3_lookup.proofs.Bounded.{limited, bounds_turn}
use Rattle.p3_lookup.proofs.bound.with_bounds.Goals as goal
use Rattle.p3_lookup.proofs.bound.with_bounds.Goals.{then-more-limit, else-more-limit}

pub loop-count-preserved : goal.loop-count-preserved
loop-count-preserved g c =
    let cs = c.args.counts.now in
    let i = c.loop-count.count-index in
    let k = c.count-item.result in
    let x = k.bound * c.args.height in
    let rest = sum_of_bounds (drop (i + 1) cs) * c.args.height in
    let whole = min c.args.limit (c.args.load + sum_of_bounds cs * c.args.height) in
    let within : i < length cs = c.loop-count-test.true in
    let next : c.if-more-limit.load ≡ min c.args.limit (c.loop-count.load + x) = elim c.if-more-limit.branch [
      | then-more-limit w ↦ omega (arith, w.load-is, w.if-more-limit.true)
      | else-more-limit w ↦ omega (arith, w.load-is, w.if-more-limit.false)
    ] in
    let all : min c.args.limit (c.loop-count.load + (x + rest)) ≡ whole =
    ap (λ n. min c.args.limit (c.loop-count.load + n)) (sym (bounds_turn cs i c.args.height k within (sym c.count-item.is))) ∙ c.loop-count.invariant.rest in
    record { limited = omega (arith, next); rest = limited c.args.limit c.loop-count.load x rest c.if-more-limit.load whole next all }
