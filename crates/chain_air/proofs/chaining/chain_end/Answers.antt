use Rattle.std.proofs.Common.{◌≡◌, ℕ, suc, ◌+◌, List, length, ◌∙◌, ap, arith, refl}
use Rattle.chain_air.specs.Generated.{block_words, chaining_before, eight_words}
use Rattle.chain_air.proofs.chaining.chain_end.Goals as goal

pub loop-i-init : goal.loop-i-init
unfolding chaining_before
loop-i-init c = refl

pub loop-i-preserved : goal.loop-i-preserved
unfolding chaining_before
loop-i-preserved c =
    let i = c.loop-i.i in
    let step : suc i ≡ i + 1 = omega arith in
    c.next_chaining-chaining.ensures ∙ (ap (λ (cs : List ℕ). eight_words (block_words c.args.blocks.now i cs)) c.loop-i.invariant ∙ ap (chaining_before c.args.start c.args.blocks.now) step)

pub returns : goal.returns
returns c =
    let e : c.loop-i.i ≡ length c.args.blocks.now = omega arith in
    c.loop-i.invariant ∙ ap (chaining_before c.args.start c.args.blocks.now) e
