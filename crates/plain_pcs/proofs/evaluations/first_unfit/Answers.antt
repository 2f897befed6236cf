use Rattle.std.proofs.Common.{◌≡◌, ◌∙◌, [], length, get_or, ap, arith, below_more}
use Rattle.std.proofs.lemmas.List.{length-map, get_or_default}
use Rattle.commit_rows.specs.Batches.{lists}
use Rattle.plain_pcs.proofs.Places.{read_list}
use Rattle.plain_pcs.proofs.evaluations.first_unfit.Goals as goal

pub loop-i-preserved : goal.loop-i-preserved
loop-i-preserved g c =
    let here : length (get_or (lists c.args.points.now) c.loop-i.i []) ≡ c.args.num_vars =
    omega (arith, ap length (read_list c.args.points.now c.loop-i.i c.index-points-i.result [] c.loop-i-test.true c.index-points-i.is), c.len.ensures, c.index-points-i.result.ok.0, c.if-len-num_vars.false) in
    below_more (λ k. length (get_or (lists c.args.points.now) k []) ≡ c.args.num_vars) c.loop-i.i c.loop-i.invariant here

pub returns : goal.returns
returns g c = λ k d h.
    ap length (get_or_default (lists c.args.points.now) k d [] h) ∙ c.loop-i.invariant k (omega (arith, h, c.loop-i-test.false, length-map c.args.points.now (λ v. v.items)))
